-- The bits of a good homing byte. Assumes nothing.
use mathlib.Core.Path.{◌≡◌, refl}
use mathlib.Core.Logic.{◌⊎◌, inl, inr}
use mathlib.Core.Bool.{Bool, true, false, not, ◌&&◌, ◌||◌, false≢true}
use Prim.Native.Nat.{ℕ, zero, suc, ◌/◌, ◌≤◌}
use native.Mathlib.Omega.{arith}
use borrow.Author.Tests.{eqb-true, eqb-false, leb-true}
use lib.Dec.{eqb}
use Rattle.base_integers.specs.Bits.{bit, is_set}
use Rattle.servo_rules.specs.Homing.{good_byte}
use Rattle.servo_rules.specs.HomingPromises.{GoodBits}

-- two tests that both hold, and one of two
both : (p q : Bool) → (p && q ≡ true) → (p ≡ true) × (q ≡ true)
both true true e = (refl, refl)
both true false e = absurd (false≢true e)
both false q e = absurd (false≢true e)

one : (p q : Bool) → (p || q ≡ true) → (p ≡ true) ⊎ (q ≡ true)
one true q e = inl refl
one false q e = inr e

untrue : (p : Bool) → not p ≡ true → p ≡ false
untrue true e = absurd (false≢true e)
untrue false e = refl

-- a bit that is not 1 is 0
clear : (k b : ℕ) → is_set k b ≡ false → bit k b ≡ 0
clear k b e = let n = eqb-false _ _ e in at (bit k b) (omega arith) n
  where
    at : (x : ℕ) → x ≤ 1 → (x ≡ 1 → ⊥) → x ≡ 0
    at zero l n = refl
    at (suc zero) l n = absurd (n refl)
    at (suc (suc x)) l n = absurd (omega arith)

pub good_bits : (b : ℕ) → good_byte b ≡ true → GoodBits b
unfolding good_byte
good_bits b e =
    let s = both _ (eqb (b / 64) 0) e in
    let t = both _ (not (is_set 3 b)) s.0 in
    let u = both (is_set 0 b || is_set 1 b) _ t.0 in
    record {
      watches = watch (one (is_set 0 b) (is_set 1 b) u.0);
      stops = leb-true _ _ u.1;
      others = (clear 3 b (untrue (is_set 3 b) t.1), omega (arith, eqb-true (b / 64) 0 s.1));
    }
  where
    watch : (is_set 0 b ≡ true) ⊎ (is_set 1 b ≡ true) → (bit 0 b ≡ 1) ⊎ (bit 1 b ≡ 1)
    watch (inl q) = inl (eqb-true _ _ q)
    watch (inr q) = inr (eqb-true _ _ q)
