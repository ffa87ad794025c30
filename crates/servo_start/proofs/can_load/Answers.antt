-- `servo_start::can_load` meets its contract. Assumes nothing.
use Rattle.std.proofs.Common.{arith}
use Rattle.servo_rules.specs.Loads.{loaded}
use Rattle.servo_start.proofs.can_load.Goals as goal

pub is_startable-requires : goal.is_startable-requires
unfolding loaded
is_startable-requires c = grind arith
