-- How a record of another kind begins, and a byte of its body. Assumes nothing.
use mathlib.Core.Path.{◌≡◌, refl, ap}
use mathlib.Core.Bool.{Bool, true, false, cond}
use Prim.Native.Nat.{ℕ, zero, suc, ◌-◌, ◌<◌}
use native.Mathlib.Omega.{arith}
use borrow.Author.Tests.{ne_eqb, lt-leb}
use lib.Dec.{eqb}
use Rattle.text_rules.specs.Fold.{more}
use Rattle.replay_file.specs.Records.{body_length, kinds}
use Rattle.monitor_file.specs.declared.Part.{Part}
use Rattle.monitor_file.specs.declared.Part.TheVariants.{Kind, Rest}
use Rattle.monitor_file.specs.declared.Took.TheVariants.{More}
use Rattle.monitor_file.specs.Looking.{step, told, brought}

-- what comes next where so many bytes of a body are left
abbrev pub left_of : ℕ → ℕ → Part
left_of k n = cond (eqb n 0) Kind (Rest k n)

-- how a record of another kind begins, and a byte of its body
pub other_begun : (k : ℕ) → k < kinds → (k ≡ 1 → ⊥) → brought Kind k ≡ more (left_of k (body_length k))
unfolding step
other_begun k h n = rw (ne_eqb k 1 n, lt-leb kinds k h) (go (eqb (body_length k) 0))
  where
    go : (t : Bool) → told (cond t (More Kind) (More (Rest k (body_length k)))) ≡ more (cond t Kind (Rest k (body_length k)))
    go true = refl
    go false = refl

pub one_passed : (k n c : ℕ) → brought (left_of k (suc n)) c ≡ more (left_of k n)
unfolding step
one_passed k zero c = refl
one_passed k (suc n) c =
    let none : (m : ℕ) → eqb (suc m) 0 ≡ false = λ m. ne_eqb (suc m) 0 (λ e. omega arith) in
    rw (none (suc n), none n, ne_eqb (suc (suc n)) 1 (λ e. omega arith)) (ap (λ (j : ℕ). more (Rest k j)) (omega arith))
