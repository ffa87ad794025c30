-- `servo_motion::trapezoid` meets its contract: the sign of the distance is put to the speed that its size gives. Assumes nothing.
use mathlib.Core.Path.{◌≡◌, refl, sym, ◌∙◌}
use mathlib.Core.Bool.{true, false, true≢false, false≢true}
use Prim.Native.Nat.{ℕ}
use native.Mathlib.Omega.{arith}
use borrow.Author.Tests.{le-leb}
use lib.IntN.{ℤ, pos, negsuc, neg_ℤ, nat_abs}
use lib.Signed.{le_z}
use Rattle.std.proofs.lemmas.Int.{ints, to_z-of_z}
use Rattle.servo_motion.specs.Trapezoid.{next_speed}
use Rattle.servo_motion.specs.Profile.{trapezoid}
use Rattle.servo_motion.proofs.trapezoid.Goals as goal

plain : (a top : ℕ) (d v : ℤ) → le_z (pos 0) d ≡ true → trapezoid a top d v ≡ pos (next_speed a top (nat_abs d) (nat_abs v))
unfolding trapezoid
plain a top (pos d) v e = refl
plain a top (negsuc d) v e = absurd (false≢true e)

mirrored : (a top : ℕ) (d v : ℤ) → le_z (pos 0) d ≡ false → trapezoid a top d v ≡ neg_ℤ (pos (next_speed a top (nat_abs d) (nat_abs v)))
unfolding trapezoid
mirrored a top (pos d) v e = absurd (true≢false (sym (le-leb 0 d (omega arith)) ∙ e))
mirrored a top (negsuc d) v e = refl

pub returns-then-d-ge0 : goal.returns-then-d-ge0
returns-then-d-ge0 c = grind (arith, ints, to_z-of_z, plain)

pub returns-else-d-ge0 : goal.returns-else-d-ge0
returns-else-d-ge0 c = grind (arith, ints, to_z-of_z, mirrored)
