-- `net_record::is_each_typed` meets its contract. The invariant: what the places left say is what they all say. Assumes nothing.
use mathlib.Core.Path.{◌≡◌, refl, sym, ◌∙◌}
use mathlib.Core.Bool.{◌&&◌}
use Prim.Native.Nat.{ℕ, ◌+◌, ◌*◌, ◌-◌}
use native.Mathlib.Omega.{arith}
use borrow.Author.Tests.{eq-eqb, ne_eqb}
use lib.Dec.{eqb}
use lib.ListN.{get_or, drop}
use Rattle.module_rules.specs.Slots.{slot_size, sample_size}
use Rattle.types_rules.specs.Types.{slots}
use Rattle.types_rules.proofs.Laws.{lawful}
use Rattle.net_rules.specs.Record.{modules_in, slots_at}
use Rattle.net_rules.specs.Calls.{all_typed}
use Rattle.net_rules.proofs.Ahead.{ahead_ok}
use Rattle.net_rules.proofs.Listed.{typed_turn, typed_done}
use Rattle.net_record.proofs.Part.{first_byte}
use Rattle.net_record.proofs.is_each_typed.Goals as goal
use Rattle.net_record.proofs.is_each_typed.Goals.{After-slot}

-- the test of a place, and what the places behind it say
turned : (c : After-slot)
    → (eqb (get_or c.args.samples.now (sample_size * c.loop-place.place) 0) (get_or c.slot.result.now 0 0)
    && all_typed (modules_in slots (c.args.n - (c.loop-place.place + 1)) (drop (slots_at + slot_size * (c.loop-place.place + 1)) c.args.net.now)) (drop (sample_size * (c.loop-place.place + 1)) c.args.samples.now))
    ≡ all_typed (modules_in slots c.args.n (drop slots_at c.args.net.now)) c.args.samples.now
turned c =
    let l = c.loop-place in
    let net = c.args.net.now in
    let samples = c.args.samples.now in
    let left : ℕ = c.args.n - l.place in
    let at : ℕ = slots_at + slot_size * l.place in
    let from : ℕ = sample_size * l.place in
    let one_less : c.args.n - (l.place + 1) ≡ left - 1 = omega arith in
    let next_slot : slots_at + slot_size * (l.place + 1) ≡ at + slot_size = omega arith in
    let next_sample : sample_size * (l.place + 1) ≡ from + sample_size = omega arith in
    rw (one_less, next_slot, next_sample, c.slot.ensures.value, first_byte at net (omega arith))
    (typed_turn left at from net samples (omega arith) (omega arith) l.invariant.0 ∙ l.invariant.1)

pub returns-then-samples-place : goal.returns-then-samples-place
returns-then-samples-place c = rw (ne_eqb _ _ c.if-samples-place.true) at (turned (goal.at.returns-then-samples-place c).After-slot)

pub loop-place-preserved : goal.loop-place-preserved
loop-place-preserved c =
    let l = c.loop-place in
    let net = c.args.net.now in
    let left : ℕ = c.args.n - l.place in
    let at : ℕ = slots_at + slot_size * l.place in
    let one_less : c.args.n - (l.place + 1) ≡ left - 1 = omega arith in
    let next_slot : slots_at + slot_size * (l.place + 1) ≡ at + slot_size = omega arith in (
      rw (one_less, next_slot) (ahead_ok lawful left at net net (omega arith) refl l.invariant.0),
      rw (eq-eqb _ _ c.if-samples-place.false) at (turned (goal.at.loop-place-preserved c).After-slot),
    )

pub returns : goal.returns
returns c =
    let l = c.loop-place in
    let none_left : c.args.n - l.place ≡ 0 = omega arith in
    sym (typed_done (slots_at + slot_size * l.place) c.args.net.now (drop (sample_size * l.place) c.args.samples.now)) ∙ rw none_left at l.invariant.1
