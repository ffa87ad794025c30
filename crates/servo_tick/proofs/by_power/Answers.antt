-- `servo_tick::by_power` meets its contract. Assumes nothing.
use Rattle.std.proofs.Common.{arith}
use Rattle.servo_rules.specs.Tick.{by_power}
use Rattle.servo_tick.proofs.by_power.Goals as goal

pub returns-then-power-ne0 : goal.returns-then-power-ne0
unfolding by_power
returns-then-power-ne0 c = grind arith

pub returns : goal.returns
unfolding by_power
returns c = grind arith
