-- `net_traffic::tick` meets its contract. The invariant: the ticks left, at the record as it is, give the whole. Assumes nothing.
use mathlib.Core.Path.{◌≡◌, sym, ap, ◌∙◌}
use mathlib.Core.List.{List}
use Prim.Native.Nat.{ℕ, ◌+◌, ◌*◌, ◌-◌}
use native.Mathlib.Omega.{arith}
use borrow.Author.Rules.{rules}
use lib.ListN.{drop}
use Rattle.module_rules.specs.Slots.{slot_size, sample_size}
use Rattle.types_rules.specs.Table.{measured}
use Rattle.types_rules.specs.Types.{kind, slots}
use Rattle.types_rules.proofs.Laws.{lawful}
use Rattle.net_rules.specs.Record.{net_in, slots_at}
use Rattle.net_rules.specs.Walk.{changed_at, ticked}
use Rattle.net_rules.specs.Calls.{samples_in, samples_for}
use Rattle.net_rules.proofs.Ahead.{turn_ok, ahead_ok, changed-after}
use Rattle.net_rules.proofs.Exact.{ticked_is, length-modules}
use Rattle.net_rules.proofs.Listed.{length_samples}
use Rattle.net_rules.proofs.OneTurn.{changed_turn, tick_round, tick_over}
use Rattle.net_rules.proofs.Valid.{Valid, valid_is}
use Rattle.net_traffic.proofs.tick.Goals as goal

pub loop-place-init : goal.loop-place-init
loop-place-init c =
    let net = c.args.net.now in
    let k : Valid slots net = valid_is slots net c.requires.0 in
    let n = c.chain_len-n.ensures ∙ length-modules slots net in
    let all_left : c.chain_len-n.result - 0 ≡ c.chain_len-n.result = omega arith in
    (omega (arith, k, n), rw all_left, rw (all_left, n) k.slots)

pub tick-requires : goal.tick-requires
tick-requires c =
    let l = c.loop-place in
    let at : ℕ = slots_at + l.place * slot_size in
    let size : at + slot_size - at ≡ slot_size = omega arith in
    (search rules, rw size (turn_ok lawful (c.chain_len-n.result - l.place) at l.net (omega arith) l.invariant.2))

pub loop-place-preserved : goal.loop-place-preserved
loop-place-preserved c =
    let l = c.loop-place in
    let list : List ℕ = c.args.samples.now in
    let x = c.sample_in-x.result in
    let n : ℕ = c.chain_len-n.result in
    let left : ℕ = n - l.place in
    let at : ℕ = slots_at + l.place * slot_size in
    let from : ℕ = l.place * sample_size in
    let one_less : n - (l.place + 1) ≡ left - 1 = omega arith in
    let next_slot : slots_at + (l.place + 1) * slot_size ≡ at + slot_size = omega arith in
    let next_sample : (l.place + 1) * sample_size ≡ from + sample_size = omega arith in
    rw (one_less, next_slot, next_sample) (
      omega (arith, l.invariant.0),
      tick_round left at from l.net list (measured x) (omega arith) (omega (arith, l.invariant.0)) c.sample_in-x.ensures c.tick.ensures ∙ l.invariant.1,
      rw (changed_turn (kind.tick (measured x)) at l.net (omega (arith, l.invariant.0)) c.tick.ensures)
          (ahead_ok lawful left at l.net (changed_at kind slots (kind.tick (measured x)) at l.net) (omega arith)
          (changed-after kind lawful (kind.tick (measured x)) at l.net (omega (arith, l.invariant.0))) l.invariant.2),
    )

pub returns : goal.returns
returns c =
    let l = c.loop-place in
    let net = c.args.net.now in
    let list = c.args.samples.now in
    let none_left : c.chain_len-n.result - l.place ≡ 0 = omega arith in
    sym (tick_over (slots_at + l.place * slot_size) l.net (drop (l.place * sample_size) list))
    ∙ rw none_left at l.invariant.1
    ∙ ap (λ (k : ℕ). ticked kind slots (samples_in k list) slots_at net) c.chain_len-n.ensures
    ∙ ticked_is kind lawful net (search rules) c.requires.0 (samples_for (net_in slots net) list) (length_samples _ list ∙ length-modules slots net)
