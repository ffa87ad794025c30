-- `servo_calls::ServoTypeCalls::perform` meets its contract. Assumes nothing.
use Rattle.servo_slot_rules.proofs.Within.{defined}
use Rattle.servo_calls.proofs.ServoTypeCalls.perform.Goals as goal

pub perform-after-requires : goal.perform-after-requires
perform-after-requires c = (defined c.args.m c.requires).profile
