-- `text_export::put_text` meets its contract. The invariant: the text of the records left, put where the loop stands, gives the whole. Assumes nothing.
use Rattle.std.specs.Slice.Iter.{chunks_exact_rest}
use mathlib.Core.List.{List}
use mathlib.Core.Path.{subst, ◌∙◌}
use Prim.Native.Nat.{ℕ}
use native.Mathlib.Omega.{arith}
use Rattle.text_rules.proofs.Showing.{Showing, show_start, show_room, show_turn, show_closing, show_end}
use Rattle.text_export.proofs.put_text.Goals as goal

pub loop-record-init : goal.loop-record-init
loop-record-init c =
    let a = c.args in
    (cc, subst (λ (rest : List ℕ). Showing a.records.now a.room.now 0 0 rest a.room.now) (cc) (show_start a.records.now a.room.now c.requires.0))

pub put_byte-at-requires : goal.put_byte-at-requires
put_byte-at-requires c =
    let l = c.loop-record in
    let a = c.args in
    let steps = c.in-Some.ensures.steps.1 in
    show_room a.records.now a.room.now l.column l.at c.in-Some.record.now (chunks_exact_rest c.next.new.self) l.room (steps.1 ∙ l.invariant.0)
    (subst (λ (rest : List ℕ). Showing a.records.now a.room.now l.column l.at rest l.room) steps.0 l.invariant.1) c.requires.1

pub loop-record-preserved : goal.loop-record-preserved
loop-record-preserved c =
    let l = c.loop-record in
    let a = c.args in
    let steps = c.in-Some.ensures.steps.1 in
    let p = c.put_byte-at in (
      cc,
      show_turn a.records.now a.room.now l.column l.at c.in-Some.record.now (chunks_exact_rest c.next.new.self) l.room (steps.1 ∙ l.invariant.0)
          (subst (λ (rest : List ℕ). Showing a.records.now a.room.now l.column l.at rest l.room) steps.0 l.invariant.1) c.requires.1
          p.result p.new.room p.ensures.value (omega (arith, p.auto)) p.ensures.room_after,
    )

pub put_closing-requires : goal.put_closing-requires
put_closing-requires c =
    let l = c.loop-record in
    let a = c.args in
    show_closing a.records.now a.room.now l.column l.at (chunks_exact_rest l.record-iterator) l.room (omega (arith, c.in-None.ensures.steps.1.0, l.invariant.0)) l.invariant.1 c.requires.1

pub returns : goal.returns
returns c =
    let l = c.loop-record in
    let a = c.args in
    let p = c.put_closing in
    show_end a.records.now a.room.now l.column l.at (chunks_exact_rest l.record-iterator) l.room (omega (arith, c.in-None.ensures.steps.1.0, l.invariant.0)) l.invariant.1 p.new.room p.ensures.room_after
