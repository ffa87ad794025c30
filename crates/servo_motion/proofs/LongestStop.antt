-- Longest: the longest stopping sum. Assumes nothing.
use mathlib.Core.Path.{refl}
use native.Mathlib.Omega.{arith}
use Rattle.servo_motion.specs.Profile.{fastest}
use Rattle.servo_motion.specs.Quick.{Longest}
use Rattle.servo_motion.proofs.Closed.{closed_form}

pub longest : Longest
longest = (refl, omega (arith, closed_form fastest 1 (omega arith)))
