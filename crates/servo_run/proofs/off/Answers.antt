-- `servo_run::off` meets its contract. Assumes nothing.
use Rattle.std.proofs.Common.{rules}
use Rattle.servo_rules.specs.State.{off}
use Rattle.servo_run.proofs.off.Goals as goal

pub returns : goal.returns
unfolding off
returns c = search rules
