-- `servo_perform::shifted` meets its contract. Assumes nothing.
use Rattle.std.proofs.Common.{arith}
use Rattle.servo_rules.specs.Perform.{shifted}
use Rattle.servo_perform.proofs.shifted.Goals as goal

pub returns : goal.returns
unfolding shifted
returns c = grind arith
