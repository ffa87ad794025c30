-- `servo_tick::ticked` meets its contract. Assumes nothing.
use Rattle.std.proofs.Common.{rules}
use Rattle.servo_rules.specs.Tick.{ticked, met}
use Rattle.servo_tick.proofs.ticked.Goals as goal

pub driven-requires : goal.driven-requires
unfolding ticked met
driven-requires c = search rules

pub returns : goal.returns
unfolding ticked met
returns c = search rules
