-- `servo_start::beginning_at` meets its contract. Assumes nothing.
use Rattle.std.proofs.Common.{arith}
use Rattle.servo_rules.specs.Loads.{beginning_at}
use Rattle.servo_start.proofs.beginning_at.Goals as goal

pub returns-then-is_servo_off : goal.returns-then-is_servo_off
unfolding beginning_at
returns-then-is_servo_off c = grind arith

pub returns-else-is_servo_off : goal.returns-else-is_servo_off
unfolding beginning_at
returns-else-is_servo_off c = grind arith
