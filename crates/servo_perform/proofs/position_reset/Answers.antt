-- `servo_perform::position_reset` meets its contract. Assumes nothing.
use Rattle.std.proofs.Common.{arith}
use Rattle.servo_rules.specs.Perform.{reset_position}
use Rattle.servo_perform.proofs.position_reset.Goals as goal

pub returns : goal.returns
unfolding reset_position
returns c = grind arith
