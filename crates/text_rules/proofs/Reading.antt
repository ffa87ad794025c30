-- The reader's stages keep a digit's value below 16. Assumes nothing.
use mathlib.Core.Path.{◌≡◌, refl, sym, ap, subst, ◌∙◌}
use mathlib.Core.List.{List, [], ◌∷◌}
use mathlib.Core.Bool.{Bool, true, false, cond}
use Prim.Native.Nat.{ℕ, suc, ◌+◌, ◌*◌, ◌<◌, ◌≤◌}
use native.Mathlib.Omega.{arith}
use borrow.Author.Tests.{ltb-true}
use lib.Dec.{eqb, ltb}
use Rattle.base_text.specs.Digits.{space, newline}
use Rattle.text_rules.specs.Text.{bang}
use Rattle.text_rules.specs.Fold.{Brought, more, gives, cannot, Reading, goes_on, folded}
use Rattle.text_rules.specs.Import.{Stage, Line, Space, Digit, Whole, Mark, value_of, first_digit, step, read_from, Fit, stage_of, CameTo}
use Rattle.text_rules.specs.declared.Reader.{Reader}
use Rattle.text_rules.proofs.Folding.{Stopped}

-- the stage after an answer is fit
abbrev pub FitAfter : Brought Stage → Type 0
FitAfter (more n) = Fit n
FitAfter (gives b n) = Fit n
FitAfter cannot = Unit {0}

first_fit : (c : ℕ) → FitAfter (first_digit c)
first_fit c = go (ltb (value_of c) 16) refl
  where
    go : (q : Bool) → ltb (value_of c) 16 ≡ q → FitAfter (cond q (more (Digit (value_of c))) cannot)
    go true e = ltb-true _ _ e
    go false e = tt

pub step_fit : (s : Stage) (c : ℕ) → FitAfter (step s c)
unfolding step
step_fit Line c = first_fit c
step_fit Space c = first_fit c
step_fit (Digit d) c = second (ltb (value_of c) 16)
  where
    second : (q : Bool) → FitAfter (cond q (more (Whole (16 * d + value_of c))) cannot)
    second true = tt
    second false = tt
step_fit (Whole b) c = third (eqb c bang) (eqb c space) (eqb c newline)
  where
    third : (p q r : Bool) → FitAfter (cond p (gives (record { value = b; mark = true }) Mark) (cond q (gives (record { value = b; mark = false }) Space) (cond r (gives (record { value = b; mark = false }) Line) cannot)))
    third true q r = tt
    third false true r = tt
    third false false true = tt
    third false false false = tt
step_fit Mark c = fourth (eqb c space) (eqb c newline)
  where
    fourth : (q r : Bool) → FitAfter (cond q (more Space) (cond r (more Line) cannot))
    fourth true r = tt
    fourth false true = tt
    fourth false false = tt

pub read_fit : (s : Stage) (t : List ℕ) → Fit s → Fit (read_from s t).stage
unfolding folded
read_fit s [] h = h
read_fit s (c ∷ cs) h = go (λ n k. read_fit n cs k) (step s c) (step_fit s c)
  where
    go : ((n : Stage) → Fit n → Fit (read_from n cs).stage) → (k : Brought Stage) → FitAfter k → Fit (goes_on s (λ (n : Stage). read_from n cs) k).stage
    go ih (more n) f = ih n f
    go ih (gives b n) f = ih n f
    go ih cannot f = h

-- a loop that stopped has the whole, as the struct says it
pub came_to : (r : Reader) (s : Stage) (t : List ℕ) (i k : ℕ) → Stopped step (read_from s t) (stage_of r) i k
    → CameTo (record { reader = r; count = i; bytes = k }) (read_from s t)
came_to r s t i k h = record { stage = h.stage; count = h.count; bytes = h.bytes }
