-- `net_record::outputs` meets its contract. Assumes nothing.
use mathlib.Core.Path.{◌≡◌}
use Prim.Native.Nat.{◌+◌, ◌*◌, ◌-◌}
use native.Mathlib.Omega.{arith}
use Rattle.module_rules.specs.Slots.{slot_size}
use Rattle.net_rules.specs.Record.{slots_at}
use Rattle.net_rules.proofs.Calls.{placed, outputs_is}
use Rattle.net_record.proofs.outputs.Goals as goal

pub slot-requires : goal.slot-requires
slot-requires c = omega (arith, placed c.args.net.now c.args.place c.requires.0 c.requires.1)

pub outputs-requires : goal.outputs-requires
outputs-requires c = (c.slot.ensures.size, rw c.slot.ensures.value (placed c.args.net.now c.args.place c.requires.0 c.requires.1).good)

pub returns : goal.returns
returns c =
    let within = placed c.args.net.now c.args.place c.requires.0 c.requires.1 in
    let part : slots_at + slot_size * c.args.place + slot_size - (slots_at + slot_size * c.args.place) ≡ slot_size = omega arith in
    outputs_is c.args.net.now (λ i. omega (arith, c.type_inv.net i)) c.requires.0 c.args.place within.below
    (rw (part, ← c.slot.ensures.value) c.outputs.ensures)
