-- `module_reply::put_report` meets its contract. Assumes nothing.
use mathlib.Core.Path.{◌≡◌}
use Prim.Native.Nat.{◌<◌, ◌≤◌}
use lib.ListN.{length}
use Rattle.module_rules.proofs.Items.{end_is, report_is}
use native.Mathlib.Omega.{arith}
use Rattle.module_reply.proofs.put_report.Goals as goal
use Rattle.module_reply.proofs.put_report.Goals.{After-put_items-end}

-- where the items end, and the room's length, after they were put
ends : (c : After-put_items-end)
    → (c.put_items-end.result < length c.args.room.now) × (length c.put_items-end.new.room ≡ length c.args.room.now) × (c.args.from ≤ c.put_items-end.result)
ends c =
    let a = c.args in
    end_is a.room.now a.sizes a.numbers a.from a.status a.items c.requires.2 c.put_items-end.ensures.value c.put_items-end.ensures.room_after

pub bounds-room-end : goal.bounds-room-end
bounds-room-end c = let z = ends (goal.at.bounds-room-end c).After-put_items-end in omega arith

pub returns : goal.returns
returns c = let p = c in let a = p.args in
    let r = report_is a.room.now a.sizes a.numbers a.from a.status a.items p.requires.2 p.put_items-end.ensures.value p.put_items-end.ensures.room_after c.sum_on-sum.ensures in
    record { value = r.0; room_after = r.1 }
