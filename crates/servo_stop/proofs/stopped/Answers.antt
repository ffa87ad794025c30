-- `servo_stop::stopped` meets its contract. Assumes nothing.
use Rattle.std.proofs.Common.{rules}
use Rattle.servo_rules.specs.Perform.{stopped}
use Rattle.servo_stop.proofs.stopped.Goals as goal

pub returns : goal.returns
unfolding stopped
returns c = search rules
