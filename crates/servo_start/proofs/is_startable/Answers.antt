-- `servo_start::is_startable` meets its contract. Assumes nothing.
use Rattle.std.proofs.Common.{arith}
use Rattle.servo_rules.specs.Loads.{startable}
use Rattle.servo_start.proofs.is_startable.Goals as goal

pub returns : goal.returns
unfolding startable
returns c = grind arith
