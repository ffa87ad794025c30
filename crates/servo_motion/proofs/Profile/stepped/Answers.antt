-- `servo_motion::Profile::stepped` meets its contract: the moved setpoint and the new speed take their places. Assumes nothing.
use Rattle.std.proofs.Common.{arith}
use Rattle.std.proofs.lemmas.Int.{to_z-of_z}
use Rattle.servo_motion.specs.Profile.{stepped}
use Rattle.servo_motion.proofs.Profile.stepped.Goals as goal

pub returns : goal.returns
unfolding stepped
returns c = grind (arith, to_z-of_z)
