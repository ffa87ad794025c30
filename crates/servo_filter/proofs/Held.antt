-- Even: what is held is cut to the limit on either side alike. Assumes nothing.
use mathlib.Core.Path.{◌≡◌, refl, ap, sym, ◌∙◌}
use mathlib.Core.Bool.{true, false}
use Prim.Native.Nat.{ℕ, zero, suc, ◌/◌, ◌≤◌, min}
use native.Mathlib.Nat.{lt_of_not-le}
use native.Mathlib.Decide.{dec_le}
use native.Mathlib.Omega.{arith}
use borrow.Author.Tests.{le-leb, lt-leb}
use lib.IntN.{ℤ, pos, negsuc, neg_ℤ, nat_abs, neg_ℤ-neg_ℤ}
use lib.Signed.{le_z, quot_z}
use Rattle.base_integers.proofs.Parts.{parts_neg, parts_le, parts_gt}
use Rattle.base_integers.proofs.Sizes.{abs_neg}
use Rattle.servo_filter.specs.Filter.{held}
use Rattle.servo_filter.specs.Promises.{Limits, Even}

low_high : (n : ℕ) → le_z (neg_ℤ (pos n)) (pos n) ≡ true
low_high n = parts_le (neg_ℤ (pos n)) (pos n) (omega (arith, parts_neg (pos n)))

-- by the tests that code makes
pub held_between : (n : ℕ) (z : ℤ) → le_z z (pos n) ≡ true → le_z (neg_ℤ (pos n)) z ≡ true → held n z ≡ z
unfolding held
held_between n z t u = simp (t, u)

pub held_low : (n : ℕ) (z : ℤ) → le_z z (pos n) ≡ true → le_z (neg_ℤ (pos n)) z ≡ false → held n z ≡ neg_ℤ (pos n)
unfolding held
held_low n z t u = simp (t, u)

pub held_high : (n : ℕ) (z : ℤ) → le_z z (pos n) ≡ false → held n z ≡ pos n
unfolding held
held_high n z t = simp (t, low_high n)

-- by the sign
held_pos : (n k : ℕ) → held n (pos k) ≡ pos (min k n)
held_pos n k = either (dec_le k n)
  where
    either : Dec (k ≤ n) → held n (pos k) ≡ pos (min k n)
    either (yes h) =
        let e : k ≡ min k n = omega arith in
        held_between n (pos k) (le-leb k n h) (parts_le (neg_ℤ (pos n)) (pos k) (omega (arith, parts_neg (pos n)))) ∙ ap pos e
    either (no f) = let h = lt_of_not-le f in let e : n ≡ min k n = omega arith in held_high n (pos k) (lt-leb k n h) ∙ ap pos e

held_neg : (n k : ℕ) → held n (neg_ℤ (pos k)) ≡ neg_ℤ (pos (min k n))
held_neg n k = either (dec_le k n)
  where
    below : le_z (neg_ℤ (pos k)) (pos n) ≡ true
    below = parts_le (neg_ℤ (pos k)) (pos n) (omega (arith, parts_neg (pos k)))

    either : Dec (k ≤ n) → held n (neg_ℤ (pos k)) ≡ neg_ℤ (pos (min k n))
    either (yes h) =
        let e : k ≡ min k n = omega arith in
        held_between n (neg_ℤ (pos k)) below (parts_le (neg_ℤ (pos n)) (neg_ℤ (pos k)) (omega (arith, parts_neg (pos n), parts_neg (pos k))))
        ∙ ap (λ (x : ℕ). neg_ℤ (pos x)) e
    either (no f) =
        let h = lt_of_not-le f in
        let e : n ≡ min k n = omega arith in
        held_low n (neg_ℤ (pos k)) below (parts_gt (neg_ℤ (pos n)) (neg_ℤ (pos k)) (omega (arith, parts_neg (pos n), parts_neg (pos k))))
        ∙ ap (λ (x : ℕ). neg_ℤ (pos x)) e

pub limits : Limits
limits n k = (held_pos n k, held_neg n k)

-- what is held is within its limit
pub held_most : (n : ℕ) (z : ℤ) → nat_abs (held n z) ≤ n
held_most n (pos k) = omega (arith, ap nat_abs (held_pos n k))
held_most n (negsuc k) = omega (arith, ap nat_abs (held_neg n (suc k)), abs_neg (pos (min (suc k) n)))

quot_neg : (a : ℕ) → quot_z (neg_ℤ (pos a)) (pos 256) ≡ neg_ℤ (pos (a / 256))
quot_neg zero = refl
quot_neg (suc a) = refl

pub even : Even
even ol (pos a) = rw (quot_neg a) (held_neg ol (a / 256) ∙ sym (ap neg_ℤ (held_pos ol (a / 256))))
even ol (negsuc a) =
    held_pos ol (suc a / 256)
    ∙ sym (neg_ℤ-neg_ℤ (pos (min (suc a / 256) ol)))
    ∙ sym (ap neg_ℤ (held_neg ol (suc a / 256)))
