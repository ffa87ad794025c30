-- How large negated numbers, sums, products and differences are, and that the machine's word holds what is small enough. Assumes nothing.
use Rattle.std.proofs.Common.{◌≡◌, ℕ, ◌+◌, ◌*◌, ◌^◌, ◌<◌, ◌≤◌, ℤ, ◌+ℤ◌, ◌-ℤ◌, ◌*ℤ◌, neg_ℤ, nat_abs, le_trans, le_of_eq, mul-le-mul, arith, SFits, to_z, of_z}
use Rattle.std.proofs.lemmas.Int.{ints, unsigned_abs-mul, fits_signed_from_abs}
use mir.Syntax.{Width}
use mir.Val.{hbits}
use mir.ValLaws.{to_z-of_z}
use Rattle.base_integers.specs.Whole.{signed, difference}

pub abs_neg : (x : ℤ) → nat_abs (neg_ℤ x) ≡ nat_abs x
abs_neg x = grind (arith, ints)

pub abs_add : (x y : ℤ) → nat_abs (x +ℤ y) ≤ nat_abs x + nat_abs y
abs_add x y = grind (arith, ints)

pub abs_diff : (x y : ℤ) → nat_abs (x -ℤ y) ≤ nat_abs x + nat_abs y
abs_diff x y = grind (arith, ints)

-- a product of bounded numbers
pub abs_mul_le : {m n : ℕ} (x y : ℤ) → nat_abs x ≤ m → nat_abs y ≤ n → nat_abs (x *ℤ y) ≤ m * n
abs_mul_le x y p q = le_trans (le_of_eq (unsigned_abs-mul x y)) (mul-le-mul p q)

pub abs_signed : (n : ℕ) → n < 2 ^ 32 → nat_abs (signed n) ≤ 2 ^ 31
unfolding signed
abs_signed n h = grind (arith, ints)

pub abs_difference : (x y : ℕ) → nat_abs (difference x y) ≤ 2 ^ 31
unfolding difference
abs_difference x y = abs_signed _ (omega arith)

-- ---- the machine's word

-- a number fits where its size is below half the word's range
pub fits : {w : Width} (z : ℤ) → nat_abs z < 2 ^ hbits w → SFits w z
fits {w} z h = fits_signed_from_abs w z h

-- and is read back as it is
pub back : (w : Width) (z : ℤ) → nat_abs z < 2 ^ hbits w → to_z w (of_z w z) ≡ z
back w z h = to_z-of_z w z (fits z h)
