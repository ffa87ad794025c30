-- `servo_reply::numbers` meets its contract. Assumes nothing.
use Rattle.std.proofs.Common.{arith}
use Rattle.std.proofs.lemmas.Int.{to_z-of_z}
use Rattle.servo_rules.specs.Answers.{numbers_of}
use Rattle.servo_reply.proofs.numbers.Goals as goal

pub returns : goal.returns
unfolding numbers_of
returns c = grind (arith, to_z-of_z)
