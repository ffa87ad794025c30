-- `doljurven::nmc_byte` meets its contract. Assumes nothing.
use Rattle.std.proofs.Common.{ap, ◌∙◌}
use Rattle.host_rules.specs.Refusals.{number_given}
use Rattle.host_rules.proofs.Refusals.{not_done}
use Rattle.api_rules.proofs.Refused.{byte_refused, byte-done}
use Rattle.doljurven.proofs.nmc_byte.Goals as goal

pub returns-in-Err : goal.returns-in-Err
returns-in-Err c = let a = c.args in
    let r = byte_refused a.net.now a.mark a.byte a.room.now c.in-Err.ensures (not_done _) in
    record { value = c.from.ensures ∙ r.0; net_after = r.1.0; room_after = r.1.1.0; written_after = r.1.1.1 }

pub returns : goal.returns
returns c = let a = c.args in
    let r = byte-done a.net.now a.mark a.byte a.room.now c.byte_refusal.ensures (ap number_given c.in_default.is) (c.byte-called.ensures.value, (c.byte-called.ensures.net_after, c.byte-called.ensures.room_after)) in
    record { value = c.ended_number.ensures ∙ r.0; net_after = r.1.0; room_after = r.1.1.0; written_after = r.1.1.1 }
