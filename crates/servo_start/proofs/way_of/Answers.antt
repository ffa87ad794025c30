-- `servo_start::way_of` meets its contract. Assumes nothing.
use Rattle.std.proofs.Common.{arith}
use Rattle.servo_rules.specs.Loads.{way_of}
use Rattle.servo_start.proofs.way_of.Goals as goal

pub returns-then-not-is_set : goal.returns-then-not-is_set
unfolding way_of
returns-then-not-is_set c = grind arith

pub returns-then-is_set : goal.returns-then-is_set
unfolding way_of
returns-then-is_set c = grind arith

pub returns-else-is_set : goal.returns-else-is_set
unfolding way_of
returns-else-is_set c = grind arith
