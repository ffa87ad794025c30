-- `servo_slot_put::put` meets its contract. Assumes nothing.
use Rattle.std.proofs.Common.{refl, arith}
use Rattle.base_layout.proofs.Pasted.{put_next}
use Rattle.servo_slot_rules.specs.Slot.{rates_at, encode_of}
use Rattle.servo_slot_rules.specs.Parts.{front_of, back_of}
use Rattle.servo_slot_put.proofs.put.Goals as goal

pub returns : goal.returns
unfolding front_of back_of encode_of
returns c = put_next (front_of c.args.m) (back_of c.args.m) c.args.s.now 0 rates_at refl (omega (arith, c.requires)) c.put_front.ensures c.put_back.ensures
