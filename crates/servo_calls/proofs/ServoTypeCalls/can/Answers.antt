-- `servo_calls::ServoTypeCalls::can` meets its contract. Assumes nothing.
use Rattle.servo_slot_rules.proofs.Within.{defined}
use Rattle.servo_calls.proofs.ServoTypeCalls.can.Goals as goal

pub can-requires : goal.can-requires
can-requires c = (defined c.args.m c.requires).profile
