-- `servo_motion::Profile::by_velocity` meets its contract: the new speed is no larger than the old one and the goal. Assumes nothing.
use Rattle.std.proofs.Common.{arith}
use Rattle.std.proofs.lemmas.Int.{to_z-of_z}
use Rattle.servo_motion.specs.Profile.{by_velocity}
use Rattle.servo_motion.proofs.Velocity.{toward_most}
use Rattle.servo_motion.proofs.Profile.by_velocity.Goals as goal

pub stepped-requires-clause-w_bound : goal.stepped-requires-clause-w_bound
stepped-requires-clause-w_bound c = grind (arith, to_z-of_z, toward_most)

pub returns : goal.returns
unfolding by_velocity
returns c = grind (arith, to_z-of_z)
