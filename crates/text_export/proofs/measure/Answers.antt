-- `text_export::measure` meets its contract. The invariant: the records left give what all of them do. Assumes nothing.
use Rattle.std.specs.Slice.Iter.{chunks_exact_rest}
use mathlib.Core.List.{List}
use mathlib.Core.Path.{sym, subst, ◌∙◌}
use Prim.Native.Nat.{ℕ}
use native.Mathlib.Omega.{arith}
use Rattle.text_rules.proofs.Records.{Along, along_turn, along-cut, along-kind, along_mark, along_end}
use Rattle.text_export.proofs.measure.Goals as goal

pub returns-then-record-ne-LINE_KIND : goal.returns-then-record-ne-LINE_KIND
returns-then-record-ne-LINE_KIND c =
    let l = c.loop-record in
    let rs = c.args.records.now in
    let steps = c.in-Some.ensures.steps.1 in
    let r = c.in-Some.record.now in
    sym (along-kind rs r (chunks_exact_rest c.next.new.self) l.marks (steps.1 ∙ l.invariant.0)
    (subst (λ (rest : List ℕ). Along rs rest l.marks) steps.0 l.invariant.1) (λ e. c.if-record-ne-LINE_KIND.true e))

pub returns-then-mark-gt1 : goal.returns-then-mark-gt1
returns-then-mark-gt1 c =
    let l = c.loop-record in
    let rs = c.args.records.now in
    let steps = c.in-Some.ensures.steps.1 in
    let r = c.in-Some.record.now in
    sym (along_mark rs r (chunks_exact_rest c.next.new.self) l.marks (steps.1 ∙ l.invariant.0)
    (subst (λ (rest : List ℕ). Along rs rest l.marks) steps.0 l.invariant.1) (omega arith) (omega arith))

pub loop-record-preserved : goal.loop-record-preserved
loop-record-preserved c =
    let l = c.loop-record in
    let rs = c.args.records.now in
    let steps = c.in-Some.ensures.steps.1 in
    let r = c.in-Some.record.now in (
      cc,
      along_turn rs r (chunks_exact_rest c.next.new.self) l.marks (steps.1 ∙ l.invariant.0)
          (subst (λ (rest : List ℕ). Along rs rest l.marks) steps.0 l.invariant.1) (omega arith) (omega arith),
    )

pub returns-then-records-ne0 : goal.returns-then-records-ne0
returns-then-records-ne0 c =
    let l = c.loop-record in
    sym (along-cut c.args.records.now (chunks_exact_rest l.record-iterator) l.marks (omega (arith, c.in-None.ensures.steps.1.0, l.invariant.0)) l.invariant.1 (λ e. c.if-records-ne0.true e))

pub returns : goal.returns
returns c =
    let l = c.loop-record in
    sym (along_end c.args.records.now (chunks_exact_rest l.record-iterator) l.marks (omega (arith, c.in-None.ensures.steps.1.0, l.invariant.0)) l.invariant.1 (omega arith))
