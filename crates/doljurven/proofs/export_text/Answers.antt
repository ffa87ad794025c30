-- `doljurven::export_text` meets its contract. Assumes nothing.
use mathlib.Core.Path.{sym, ◌∙◌}
use Prim.Native.Nat.{◌+◌}
use native.Mathlib.Omega.{arith}
use borrow.Author.Tests.{ltb-true, ltb-false}
use lib.ListN.{length}
use Rattle.text_rules.proofs.Records.{measured-line, measured_other, text_length}
use Rattle.api_rules.proofs.Text.{export_other, export_short, export_done}
use Rattle.doljurven.proofs.export_text.Goals as goal

pub returns-in_default : goal.returns-in_default
returns-in_default c =
    let a = c.args in
    let l = export_other a.records.now a.room.now (measured_other a.records.now (sym c.measure.ensures ∙ c.in_default.is)) in
    record { value = l.0; room_after = l.1; written = l.2 }

pub returns-then-is_short : goal.returns-then-is_short
returns-then-is_short c =
    let a = c.args in
    let k = c.in-Some.marks in
    let m = measured-line a.records.now k (sym c.measure.ensures ∙ c.in-Some.is) in
    let h = ltb-true (length a.room.now) (length a.records.now + k) (sym c.is_short.ensures ∙ c.if-is_short.true) in
    let l = export_short a.records.now a.room.now m.0 (omega (arith, m.1, h)) in
    record { value = l.0; room_after = l.1; written = l.2 }

pub put_text-requires : goal.put_text-requires
put_text-requires c =
    let a = c.args in
    let k = c.in-Some.marks in
    let m = measured-line a.records.now k (sym c.measure.ensures ∙ c.in-Some.is) in
    let h = ltb-false (length a.room.now) (length a.records.now + k) (sym c.is_short.ensures ∙ c.if-is_short.false) in
    (m.0, omega (arith, text_length a.records.now m.0, m.1, h))

pub returns : goal.returns
returns c =
    let a = c.args in
    let k = c.in-Some.marks in
    let m = measured-line a.records.now k (sym c.measure.ensures ∙ c.in-Some.is) in
    let h = ltb-false (length a.room.now) (length a.records.now + k) (sym c.is_short.ensures ∙ c.if-is_short.false) in
    let l = export_done a.records.now a.room.now m.0 (omega (arith, m.1, h)) c.put_text.ensures in
    record { value = l.0; room_after = l.1; written = omega (arith, l.2, m.1) }
