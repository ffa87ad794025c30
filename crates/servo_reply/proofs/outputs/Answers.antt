-- `servo_reply::outputs` meets its contract. Assumes nothing.
use Rattle.std.proofs.Common.{arith}
use Rattle.std.proofs.lemmas.Int.{ints, to_z-of_z}
use Rattle.servo_rules.specs.Answers.{outputs_from}
use Rattle.servo_reply.proofs.outputs.Goals as goal

pub returns : goal.returns
unfolding outputs_from
returns c = grind (arith, ints, to_z-of_z)
