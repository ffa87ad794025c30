-- `servo_homing::is_good` meets its contract. Assumes nothing.
use Rattle.std.proofs.Common.{arith}
use Rattle.servo_rules.specs.Homing.{good_byte}
use Rattle.servo_homing.proofs.is_good.Goals as goal

pub returns : goal.returns
unfolding good_byte
returns c = grind arith
