-- The test for equal numbers holds of equal numbers and of no others. Assumes nothing.
use Rattle.std.proofs.Common.{◌≡◌, true, ℤ, arith}
use Rattle.std.proofs.lemmas.Int.{ints}
use Rattle.base_integers.specs.Whole.{same}

pub same_eq : (x y : ℤ) → same x y ≡ true → x ≡ y
unfolding same
same_eq x y e = grind (arith, ints)

pub eq_same : (x y : ℤ) → x ≡ y → same x y ≡ true
unfolding same
eq_same x y e = grind (arith, ints)
