-- `servo_start::is_movable` meets its contract. Assumes nothing.
use Rattle.std.proofs.Common.{arith}
use Rattle.servo_rules.specs.Loads.{movable}
use Rattle.servo_rules.proofs.Ranges.{beginning_small}
use Rattle.servo_start.proofs.is_movable.Goals as goal

pub whole-whole-requires : goal.whole-whole-requires
unfolding movable
whole-whole-requires c = grind (arith, beginning_small)

pub returns : goal.returns
unfolding movable
returns c = grind arith
