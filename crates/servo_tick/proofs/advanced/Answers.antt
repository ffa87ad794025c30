-- `servo_tick::advanced` meets its contract. Assumes nothing.
use Rattle.std.proofs.Common.{arith}
use Rattle.servo_rules.specs.Tick.{advanced}
use Rattle.servo_tick.proofs.advanced.Goals as goal

pub returns-in-Off : goal.returns-in-Off
unfolding advanced
returns-in-Off c = grind arith

pub returns-in-Velocity : goal.returns-in-Velocity
unfolding advanced
returns-in-Velocity c = grind arith

pub returns-in-Trapezoid : goal.returns-in-Trapezoid
unfolding advanced
returns-in-Trapezoid c = grind arith
