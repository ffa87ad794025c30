-- `servo_motion::Profile::is_in_range` meets its contract: each number has its test, and the machine holds speed and aim as they are. Assumes nothing.
use Rattle.std.proofs.Common.{arith}
use Rattle.std.proofs.lemmas.Int.{to_z-of_z}
use Rattle.servo_motion.specs.Profile.{in_range}
use Rattle.servo_motion.proofs.Profile.is_in_range.Goals as goal

pub returns : goal.returns
unfolding in_range
returns c = grind (arith, to_z-of_z)
