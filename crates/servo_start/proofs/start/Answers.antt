-- `servo_start::start` meets its contract. Assumes nothing.
use Rattle.std.proofs.Common.{rules}
use Rattle.servo_rules.specs.Loads.{start}
use Rattle.servo_start.proofs.start.Goals as goal

pub returns : goal.returns
unfolding start
returns c = search rules
