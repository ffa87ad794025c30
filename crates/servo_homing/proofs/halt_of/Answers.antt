-- `servo_homing::halt_of` meets its contract. Assumes nothing.
use Rattle.std.proofs.Common.{arith}
use Rattle.servo_rules.specs.Homing.{homing_halt}
use Rattle.servo_homing.proofs.halt_of.Goals as goal

pub returns-then-is_set : goal.returns-then-is_set
unfolding homing_halt
returns-then-is_set c = grind arith

pub returns-then-is_set-2 : goal.returns-then-is_set-2
unfolding homing_halt
returns-then-is_set-2 c = grind arith

pub returns-then-is_set-3 : goal.returns-then-is_set-3
unfolding homing_halt
returns-then-is_set-3 c = grind arith

pub returns : goal.returns
unfolding homing_halt
returns c = grind arith
