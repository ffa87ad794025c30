-- `net_record::power_up_each` meets its contract. The invariant: the modules left, put into the record as it is, give the whole. Assumes nothing.
use mathlib.Core.Path.{◌≡◌, sym, ◌∙◌}
use mathlib.Core.List.{[]}
use Prim.Native.Nat.{ℕ, ◌+◌, ◌*◌}
use native.Mathlib.Omega.{arith}
use lib.ListN.{drop, drop_of_length-le}
use Rattle.module_rules.specs.Slots.{slot_size}
use Rattle.net_rules.specs.Record.{slots_at}
use Rattle.net_rules.proofs.OneTurn.{power_round, put_none}
use Rattle.net_record.proofs.power_up_each.Goals as goal

pub loop-place-preserved : goal.loop-place-preserved
loop-place-preserved c =
    let l = c.loop-place in
    let at : ℕ = slots_at + slot_size * l.place in
    let next_slot : slots_at + slot_size * (l.place + 1) ≡ at + slot_size = omega arith in
    rw next_slot (power_round c.args.types.now l.place at l.net (omega arith) (omega arith) c.power_up.ensures ∙ l.invariant)

pub returns : goal.returns
returns c =
    let l = c.loop-place in
    let types = c.args.types.now in
    let none_left : drop l.place types ≡ [] = drop_of_length-le types {i = l.place} (omega arith) in
    sym (put_none (slots_at + slot_size * l.place) l.net) ∙ rw none_left at l.invariant
