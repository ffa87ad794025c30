-- `doljurven::take_bytes` meets its contract. Assumes nothing.
use Rattle.std.proofs.Common.{◌≡◌, refl, ◌∙◌, ℕ, Result, Ok, Err, IsErr}
use Rattle.host_rules.specs.declared.Refusal.{Refusal}
use Rattle.host_rules.specs.Writing.{reported}
use Rattle.host_rules.proofs.Refusals.{not_done}
use Rattle.api_rules.proofs.Refused.{buffer_refused, buffer_done}
use Rattle.doljurven.proofs.take_bytes.Goals as goal

-- nothing is written where there is a refusal
none_written : (r : Result ℕ Refusal) → IsErr r → (reported r).len ≡ 0
none_written (Ok n) h = cc
none_written (Err e) h = refl

pub returns-in_err-buffer_refusal-clause-net_after : goal.returns-in_err-buffer_refusal-clause-net_after
returns-in_err-buffer_refusal-clause-net_after c =
    let a = c.args in
    (buffer_refused a.net.now a.bytes.now a.marks.now a.room.now c.in_err-buffer_refusal.ensures (not_done _)).1.0

pub returns-in_err-buffer_refusal-clause-room_after : goal.returns-in_err-buffer_refusal-clause-room_after
returns-in_err-buffer_refusal-clause-room_after c =
    let a = c.args in
    (buffer_refused a.net.now a.bytes.now a.marks.now a.room.now c.in_err-buffer_refusal.ensures (not_done _)).1.1.0

pub returns-in_err-buffer_refusal-clause-written : goal.returns-in_err-buffer_refusal-clause-written
returns-in_err-buffer_refusal-clause-written c =
    let a = c.args in
    none_written _ c.from_residual.ensures.0
    ∙ (buffer_refused a.net.now a.bytes.now a.marks.now a.room.now c.in_err-buffer_refusal.ensures (not_done _)).1.1.1

pub returns : goal.returns
returns c =
    let a = c.args in
    let e = c.bytes.ensures in
    let r = buffer_done a.net.now a.bytes.now a.marks.now a.room.now c.in_ok-buffer_refusal.ensures refl (e.value, (e.net_after, e.room_after)) in
    record { value = r.0; net_after = r.1.0; room_after = r.1.1.0; written = r.1.1.1 }
