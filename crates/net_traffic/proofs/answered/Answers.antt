-- `net_traffic::answered` meets its contract. Assumes nothing.
use Rattle.net_rules.proofs.Taking.{nothing_more, frame-ended}
use Rattle.net_traffic.proofs.answered.Goals as goal

pub returns-in_default : goal.returns-in_default
returns-in_default c = let a = c.args in
    let r = nothing_more a.r a.net.now a.room.now c.in_default.is in
    record { value = r.0; net_after = r.1.0; room_after = r.1.1 }

pub returns : goal.returns
returns c =
    let a = c.args in
    let r = frame-ended a.r a.net.now a.room.now c.in-Some.is (c.hand_on.ensures.value, (c.hand_on.ensures.net_after, c.hand_on.ensures.room_after)) in
    record { value = r.0; net_after = r.1.0; room_after = r.1.1 }
