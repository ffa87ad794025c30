-- `servo_homing::is_changed` meets its contract. Assumes nothing.
use Rattle.std.proofs.Common.{arith}
use Rattle.servo_rules.specs.Homing.{changed}
use Rattle.servo_homing.proofs.is_changed.Goals as goal

pub returns-then-before-inputs : goal.returns-then-before-inputs
unfolding changed
returns-then-before-inputs c = grind arith

pub returns : goal.returns
unfolding changed
returns c = grind arith
