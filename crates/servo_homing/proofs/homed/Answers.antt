-- `servo_homing::homed` meets its contract. Assumes nothing.
use Rattle.std.proofs.Common.{arith}
use Rattle.servo_rules.specs.Homing.{homed}
use Rattle.servo_homing.proofs.homed.Goals as goal

pub returns-then-not-is_changed : goal.returns-then-not-is_changed
unfolding homed
returns-then-not-is_changed c = grind arith

pub returns : goal.returns
unfolding homed
returns c = grind arith
