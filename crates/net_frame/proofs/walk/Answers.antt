-- `net_frame::walk` meets its contract. The invariant: the rest of the walk, from the record as it is, gives the whole. Assumes nothing.
use mathlib.Core.Path.{◌≡◌, ap₂, ◌∙◌}
use mathlib.Core.List.{List}
use Prim.Native.Nat.{ℕ, ◌+◌, ◌*◌, ◌-◌}
use native.Mathlib.Omega.{arith}
use Rattle.module_rules.specs.Touch.{frame_of}
use Rattle.module_rules.specs.Slots.{slot_size}
use Rattle.types_rules.specs.Types.{kind, slots}
use Rattle.types_rules.proofs.Laws.{lawful}
use Rattle.net_rules.specs.Record.{slots_at}
use Rattle.net_rules.specs.Walk.{turned, turn_of, walk_of}
use Rattle.net_rules.proofs.Ahead.{turn_ok, ahead_ok, turned-after}
use Rattle.net_rules.proofs.Rounds.{Round, round, done}
use Rattle.net_frame.proofs.walk.Goals as goal

pub take_turn-t-requires : goal.take_turn-t-requires
take_turn-t-requires c =
    let l = c.loop-place in
    (omega arith, omega (arith, l.invariant.0), turn_ok lawful (c.args.n - l.place) (slots_at + slot_size * l.place) l.net (omega arith) l.invariant.5)

pub loop-place-preserved : goal.loop-place-preserved
unfolding turn_of
loop-place-preserved c =
    let l = c.loop-place in
    let f = frame_of c.args.f in
    let e = c.take_turn-t.ensures in
    let left : ℕ = c.args.n - l.place in
    let at : ℕ = slots_at + slot_size * l.place in
    let one_less : c.args.n - (l.place + 1) ≡ left - 1 = omega arith in
    let next_slot : slots_at + slot_size * (l.place + 1) ≡ at + slot_size = omega arith in
    let r : Round f l.enabled left at l.place l.written l.net l.room l.lengths =
    round f l.enabled left at l.place l.written l.net l.room l.lengths (omega arith) (omega (arith, l.invariant.0)) in
    rw (one_less, next_slot) (
      omega (arith, l.invariant.0),
      rw (e.value, e.net_after) (r.net ∙ l.invariant.1),
      rw (e.value, e.net_after, e.room_after) (r.said ∙ l.invariant.2),
      rw (e.value, e.net_after) (r.total ∙ l.invariant.3),
      rw (e.value, e.net_after) (r.each ∙ l.invariant.4),
      rw e.net_after (ahead_ok lawful left at l.net (turned kind slots f l.enabled at l.net) (omega arith) (turned-after kind lawful f l.enabled at l.net (omega arith)) l.invariant.5),
    )

pub returns : goal.returns
unfolding walk_of
returns c =
    let l = c.loop-place in
    let a = c.args in
    let d = done (frame_of a.f) l.enabled (a.n - l.place) (slots_at + slot_size * l.place) l.place l.written l.net l.room l.lengths (omega arith) l.invariant.1 l.invariant.2 l.invariant.3 l.invariant.4 in
    record { value = ap₂ (λ (w : ℕ) (k : List ℕ). record { written = w; lengths = k }) d.2 d.3; net_after = d.0; room_after = d.1 }
