-- `net_record::cause` meets its contract. Assumes nothing.
use mathlib.Core.Path.{◌≡◌, ap}
use Prim.Native.Nat.{◌+◌, ◌*◌, ◌-◌}
use native.Mathlib.Omega.{arith}
use Rattle.module_rules.specs.Slots.{slot_size}
use Rattle.module_rules.specs.declared.Station.{Station}
use Rattle.net_rules.specs.Record.{slots_at}
use Rattle.net_rules.proofs.Calls.{placed, cause_at_lem}
use Rattle.net_record.proofs.cause.Goals as goal

pub slot-requires : goal.slot-requires
slot-requires c = omega (arith, placed c.args.net.now c.args.place c.requires.0 c.requires.1)

pub returns : goal.returns
returns c =
    let within = placed c.args.net.now c.args.place c.requires.0 c.requires.1 in
    let part : slots_at + slot_size * c.args.place + slot_size - (slots_at + slot_size * c.args.place) ≡ slot_size = omega arith in
    cause_at_lem c.args.net.now (λ i. omega (arith, c.type_inv.net i)) c.requires.0 c.args.place within.below
    (rw (part, ← c.slot.ensures.value) (ap (λ (x : Station). x.cause) c.station_in.ensures))
