-- `servo_motion::moved` meets its contract: a whole turn is a part of the word's. Assumes nothing.
use Rattle.std.proofs.Common.{arith}
use Rattle.std.proofs.lemmas.Int.{ints, to_z-of_z}
use Rattle.servo_motion.specs.Setpoint.{moved}
use Rattle.servo_motion.proofs.moved.Goals as goal

pub returns : goal.returns
unfolding moved
returns c = grind (arith, ints, to_z-of_z)
