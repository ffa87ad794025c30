-- `servo_motion::is_heading` meets its contract: the machine reads both numbers back as they are. Assumes nothing.
use Rattle.std.proofs.Common.{arith}
use Rattle.std.proofs.lemmas.Int.{to_z-of_z}
use Rattle.servo_motion.specs.Profile.{heads}
use Rattle.servo_motion.proofs.is_heading.Goals as goal

pub returns : goal.returns
unfolding heads
returns c = grind (arith, to_z-of_z)
