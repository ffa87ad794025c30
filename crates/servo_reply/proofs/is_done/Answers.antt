-- `servo_reply::is_done` meets its contract. Assumes nothing.
use Rattle.std.proofs.Common.{arith}
use Rattle.std.proofs.lemmas.Int.{ints, to_z-of_z}
use Rattle.servo_rules.specs.Answers.{done}
use Rattle.base_integers.specs.Whole.{same}
use Rattle.servo_reply.proofs.is_done.Goals as goal

pub returns-in-Off : goal.returns-in-Off
unfolding done same
returns-in-Off c = grind arith

pub returns-in-Velocity : goal.returns-in-Velocity
unfolding done same
returns-in-Velocity c = grind (arith, ints)

pub returns-in-Trapezoid : goal.returns-in-Trapezoid
unfolding done same
returns-in-Trapezoid c = grind (arith, ints, to_z-of_z)
