-- `servo_stop::smooth` meets its contract. Assumes nothing.
use Rattle.std.proofs.Common.{arith}
use Rattle.servo_rules.specs.Stops.{smooth}
use Rattle.servo_stop.proofs.smooth.Goals as goal

pub returns-then-is_servo_off : goal.returns-then-is_servo_off
unfolding smooth
returns-then-is_servo_off c = grind arith

pub returns : goal.returns
unfolding smooth
returns c = grind arith
