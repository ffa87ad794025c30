-- `servo_homing::halted_or` meets its contract. Assumes nothing.
use Rattle.std.proofs.Common.{arith}
use Rattle.servo_rules.specs.Homing.{halted_or}
use Rattle.servo_homing.proofs.halted_or.Goals as goal

pub returns-then-can_halt : goal.returns-then-can_halt
unfolding halted_or
returns-then-can_halt c = grind arith

pub returns : goal.returns
unfolding halted_or
returns c = grind arith
