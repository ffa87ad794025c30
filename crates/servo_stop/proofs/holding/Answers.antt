-- `servo_stop::holding` meets its contract. Assumes nothing.
use Rattle.std.proofs.Common.{rules}
use Rattle.servo_rules.specs.Stops.{holding}
use Rattle.servo_stop.proofs.holding.Goals as goal

pub returns : goal.returns
unfolding holding
returns c = search rules
