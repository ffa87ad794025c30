-- `net_record::is_each_ok` meets its contract. The invariant: what the slots left say is what they all say. Assumes nothing.
use mathlib.Core.Path.{◌≡◌, sym, ap, ◌∙◌}
use mathlib.Core.Bool.{◌&&◌}
use Prim.Native.Nat.{ℕ, ◌+◌, ◌*◌, ◌-◌}
use native.Mathlib.Omega.{arith}
use lib.ListN.{drop}
use Rattle.types_rules.specs.Types.{slots}
use Rattle.net_rules.specs.Record.{ok_slots, slots_at}
use Rattle.net_rules.proofs.Tests.{slots_turn, slots-done}
use Rattle.module_rules.specs.Slots.{slot_size}
use Rattle.net_record.proofs.is_each_ok.Goals as goal
use Rattle.net_record.proofs.is_each_ok.Goals.{After-is_ok}

turned : (c : After-is_ok)
    → (c.is_ok.result && ok_slots slots (c.args.n - (c.loop-place.place + 1)) (drop (slots_at + slot_size * (c.loop-place.place + 1)) c.args.net.now))
    ≡ ok_slots slots c.args.n (drop slots_at c.args.net.now)
turned c =
    let l = c.loop-place in
    let left : ℕ = c.args.n - l.place in
    let at : ℕ = slots_at + slot_size * l.place in
    let part : at + slot_size - at ≡ slot_size = omega arith in
    let one_less : c.args.n - (l.place + 1) ≡ left - 1 = omega arith in
    let next_slot : slots_at + slot_size * (l.place + 1) ≡ at + slot_size = omega arith in
    rw (one_less, next_slot) (slots_turn slots left at c.args.net.now (omega arith) (rw part (c.is_ok.ensures ∙ ap slots.ok c.slot.ensures.value)) ∙ l.invariant)

pub returns-then-not-is_ok : goal.returns-then-not-is_ok
returns-then-not-is_ok c = rw c.if-not-is_ok.true at (turned (goal.at.returns-then-not-is_ok c).After-is_ok)

pub loop-place-preserved : goal.loop-place-preserved
loop-place-preserved c = rw c.if-not-is_ok.false at (turned (goal.at.loop-place-preserved c).After-is_ok)

pub returns : goal.returns
returns c =
    let l = c.loop-place in
    let none_left : c.args.n - l.place ≡ 0 = omega arith in
    sym (slots-done slots (slots_at + slot_size * l.place) c.args.net.now) ∙ rw none_left at l.invariant
