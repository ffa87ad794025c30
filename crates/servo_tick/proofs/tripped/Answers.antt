-- `servo_tick::tripped` meets its contract. Assumes nothing.
use Rattle.std.proofs.Common.{rules}
use Rattle.servo_rules.specs.Tick.{tripped}
use Rattle.servo_tick.proofs.tripped.Goals as goal

pub returns : goal.returns
unfolding tripped
returns c = search rules
