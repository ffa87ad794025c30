-- `servo_calls::ServoTypeCalls::put_reply` meets its contract. Assumes nothing.
use native.Mathlib.Omega.{arith}
use Rattle.module_rules.specs.Touch.{frame_of}
use Rattle.servo_slot_rules.specs.Slot.{decode_of}
use Rattle.servo_slot_rules.proofs.Tested.{steady_in}
use Rattle.servo_calls.proofs.Telling.{told_is}
use Rattle.servo_calls.proofs.ServoTypeCalls.put_reply.Goals as goal

pub put_reply-requires : goal.put_reply-requires
unfolding decode_of
put_reply-requires c =
    let k = c in
    let a = k in
    record { ranged = rw c.run_in-run.ensures (steady_in a.args.s.now (λ i. omega (arith, k.type_inv.s i)) a.requires.1).profile; reply_size_in_bounds = a.requires.2 }

pub returns : goal.returns
returns c =
    let h = c in
    let u = h in
    let a = u.args in
    let r = told_is (frame_of a.f) a.s.now a.room.now a.from u.station_in-station.ensures u.latched_in-latched.ensures
    u.counts_in-counts.ensures u.run_in-run.ensures h.homing_in-homing.ensures (c.put_reply.ensures.value, c.put_reply.ensures.room_after) in
    record { value = r.0; room_after = r.1 }
