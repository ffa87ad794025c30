-- The parts of the place behind a text: offset, line and column, character by character. Assumes nothing.
use mathlib.Core.Path.{◌≡◌, refl, ◌∙◌}
use mathlib.Core.List.{List, [], ◌∷◌, ◌++◌}
use mathlib.Core.Bool.{Bool, true, false, cond}
use Prim.Native.Nat.{ℕ, suc, ◌+◌, ◌≤◌}
use native.Mathlib.Omega.{arith}
use lib.ListN.{length}
use lib.Dec.{eqb}
use Rattle.std.proofs.Common.{◌==◌, count_by}
use Rattle.std.proofs.lemmas.List.Recursion.{is_count_by}
use Rattle.base_text.specs.Digits.{newline}
use Rattle.text_rules.specs.Records.{mark_of}
use Rattle.text_rules.specs.Promises.{occurs}
use Rattle.monitor_file.specs.declared.Spot.{Spot}
use Rattle.monitor_file.specs.Spots.{onward, spot_after, Near}

-- a place by its parts
pub spot_put : {o l k : ℕ} (s : Spot) → o ≡ s.offset → l ≡ s.line → k ≡ s.column → record { offset = o; line = l; column = k } ≡ s
spot_put s e f g = rw (e, f, g) refl

pub near_after : (s : Spot) (t : List ℕ) → Near s → Near (spot_after s t)
unfolding spot_after
near_after s [] h = h
near_after s (c ∷ cs) h = near_after (onward s c) cs (line (eqb c newline), column (eqb c newline))
  where
    line : (t : Bool) → cond t (s.line + 1) s.line ≤ s.offset + 1 + 1
    line true = omega (arith, h.0)
    line false = omega (arith, h.0)

    column : (t : Bool) → cond t 1 (s.column + 1) ≤ s.offset + 1 + 1
    column true = omega arith
    column false = omega (arith, h.1)

pub spot_offset : (s : Spot) (t : List ℕ) → (spot_after s t).offset ≡ s.offset + length t
unfolding spot_after
spot_offset s [] = omega arith
spot_offset s (c ∷ cs) = omega (arith, spot_offset (onward s c) cs)

pub spot_line : (s : Spot) (t : List ℕ) → (spot_after s t).line ≡ s.line + occurs newline t
unfolding spot_after
spot_line s [] = omega arith
spot_line s (c ∷ cs) = spot_line (onward s c) cs ∙ go (eqb c newline)
  where
    go : (a : Bool) → cond a (s.line + 1) s.line + occurs newline cs ≡ s.line + (mark_of a + occurs newline cs)
    go true = omega arith
    go false = omega arith

-- newlines as the code counts them
pub newlines_counted : (t : List ℕ) → occurs newline t ≡ count_by (λ c. c == newline) t
newlines_counted = is_count_by (occurs newline) (λ c. c == newline) refl (λ c cs. go (eqb c newline) (occurs newline cs))
  where
    go : (a : Bool) (n : ℕ) → mark_of a + n ≡ cond a (1 + n) n
    go true n = refl
    go false n = omega arith

-- no newline is among the characters, or one is the last
pub spot_none : (s : Spot) (t : List ℕ) → occurs newline t ≡ 0 → (spot_after s t).column ≡ s.column + length t
unfolding spot_after
spot_none s [] e = omega arith
spot_none s (c ∷ cs) e = spot_none (onward s c) cs (omega arith) ∙ go (eqb c newline) e
  where
    go : (a : Bool) → mark_of a + occurs newline cs ≡ 0 → cond a 1 (s.column + 1) + length cs ≡ s.column + suc (length cs)
    go true e = absurd (omega arith)
    go false e = omega arith

pub spot_last : (s : Spot) (p q : List ℕ) → occurs newline q ≡ 0 → (spot_after s (p ++ newline ∷ q)).column ≡ 1 + length q
unfolding spot_after
spot_last s [] q e = omega (arith, spot_none (onward s newline) q e)
spot_last s (c ∷ p) q e = spot_last (onward s c) p q e
