-- A size with a sign: how large it is, that 0 has none, and that sign and size give a number back. Assumes nothing.
use mathlib.Core.Path.{◌≡◌, refl, ap}
use mathlib.Core.Bool.{Bool, true, false}
use Prim.Native.Nat.{ℕ}
use native.Mathlib.Omega.{arith}
use borrow.Author.Tests.{le-ltb}
use lib.IntN.{ℤ, pos, negsuc, nat_abs}
use lib.Signed.{lt_z}
use Rattle.base_integers.proofs.Sizes.{abs_neg}
use Rattle.servo_rules.specs.Loads.{signed_by}

pub signed_size : (s : Bool) (n : ℕ) → nat_abs (signed_by s n) ≡ n
unfolding signed_by
signed_size true n = abs_neg (pos n)
signed_size false n = refl

pub signed_zero : (s : Bool) → signed_by s 0 ≡ pos 0
unfolding signed_by
signed_zero true = refl
signed_zero false = refl

pub signed_itself : (z : ℤ) → signed_by (lt_z z (pos 0)) (nat_abs z) ≡ z
unfolding signed_by
signed_itself (pos n) = ap (λ (s : Bool). signed_by s n) (le-ltb n 0 (omega arith))
signed_itself (negsuc n) = refl
