-- `servo_start::loaded` meets its contract. Assumes nothing.
use Rattle.std.proofs.Common.{rules}
use Rattle.servo_rules.specs.Loads.{loaded}
use Rattle.servo_start.proofs.loaded.Goals as goal

pub returns : goal.returns
unfolding loaded
returns c = search rules
