-- `host_frame::write_frame` meets its contract. Assumes nothing.
use Rattle.std.proofs.Common.{◌≡◌, ◌+◌, true, length, le-ltb, lt-ltb}
use Rattle.host_rules.specs.Writing.{unfit, written_of, room_after}
use Rattle.host_frame.proofs.write_frame.Goals as goal

pub returns-then-address-code : goal.returns-then-address-code
unfolding written_of room_after
returns-then-address-code c =
    let a = c.args in
    let u : unfit a.address a.code a.ds.now ≡ true = c.if-address-code.true in
    record { value = rw u; room_after = rw u }

pub returns-then-room-n : goal.returns-then-room-n
unfolding written_of room_after
returns-then-room-n c =
    let a = c.args in
    let s = lt-ltb (length a.room.now) (length a.ds.now + 4) c.if-room-n.true in
    record { value = rw (c.if-address-code.false, s); room_after = rw (c.if-address-code.false, s) }

pub returns : goal.returns
unfolding written_of room_after
returns c =
    let e = c in
    let a = e.args in
    let s = le-ltb (length a.room.now) (length a.ds.now + 4) e.if-room-n.false in
    record { value = rw (e.if-address-code.false, s); room_after = rw (e.if-address-code.false, s) c.put_frame.ensures }
