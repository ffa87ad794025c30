-- `net_record::is_of_type` meets its contract. Assumes nothing.
use mathlib.Core.Path.{◌∙◌}
use Prim.Native.Nat.{◌+◌, ◌*◌, ◌<◌}
use native.Mathlib.Omega.{arith}
use borrow.Author.Tests.{le-ltb}
use lib.ListN.{length}
use Rattle.module_rules.specs.Slots.{slot_size}
use Rattle.types_rules.specs.Types.{slots}
use Rattle.net_rules.specs.Record.{net_in, slots_at}
use Rattle.net_rules.proofs.Calls.{placed, type_at, type_beyond}
use Rattle.net_record.proofs.Part.{first_byte}
use Rattle.net_record.proofs.is_of_type.Goals as goal
use Rattle.net_record.proofs.is_of_type.Goals.{Then-place-n}

below : (c : Then-place-n) → c.args.place < length (net_in slots c.args.net.now).modules
below c = omega (arith, c.if-place-n.true, c.chain_len-n.ensures)

pub slot-requires : goal.slot-requires
slot-requires c = omega (arith, placed c.args.net.now c.args.place c.requires (below (goal.at.slot-requires c).Then-place-n))

pub returns-then-place-n : goal.returns-then-place-n
returns-then-place-n c =
    let net = c.args.net.now in
    let in_chain = below (goal.at.returns-then-place-n c).Then-place-n in
    let at = slots_at + slot_size * c.args.place in
    rw (c.slot.ensures.value, first_byte at net (omega (arith, placed net c.args.place c.requires in_chain)))
    (type_at net (λ i. omega (arith, c.type_inv.net i)) c.requires c.args.place c.args.t in_chain)

pub returns-else-place-n : goal.returns-else-place-n
returns-else-place-n c =
    le-ltb _ _ c.if-place-n.false
    ∙ type_beyond c.args.net.now c.args.place c.args.t (λ in_chain. omega (arith, c.if-place-n.false, c.chain_len-n.ensures, in_chain))
