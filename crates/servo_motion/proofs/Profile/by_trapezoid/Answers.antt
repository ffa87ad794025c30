-- `servo_motion::Profile::by_trapezoid` meets its contract: the new speed is no larger than the old one and the greatest. Assumes nothing.
use Rattle.std.proofs.Common.{arith}
use Rattle.std.proofs.lemmas.Int.{ints, to_z-of_z}
use Rattle.servo_motion.specs.Profile.{by_trapezoid}
use Rattle.servo_motion.proofs.Apart.{distance_most}
use Rattle.servo_motion.proofs.Runs.{trapezoid_most}
use Rattle.servo_motion.proofs.Profile.by_trapezoid.Goals as goal

pub trapezoid-w-requires : goal.trapezoid-w-requires
trapezoid-w-requires c = grind (arith, ints, to_z-of_z, distance_most)

pub stepped-requires-clause-w_bound : goal.stepped-requires-clause-w_bound
stepped-requires-clause-w_bound c = grind (arith, to_z-of_z, trapezoid_most)

pub returns : goal.returns
unfolding by_trapezoid
returns c = grind (arith, to_z-of_z)
