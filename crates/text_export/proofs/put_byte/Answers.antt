-- `text_export::put_byte` meets its contract: its four parts stand one behind the other. Assumes nothing.
use mathlib.Core.Path.{refl, sym}
use mathlib.Core.Bool.{not}
use Prim.Native.Nat.{◌-◌}
use native.Mathlib.Omega.{arith}
use lib.Dec.{eqb}
use Rattle.base_layout.proofs.Pasted.{put_four}
use Rattle.base_text.specs.Digits.{space, newline, hex_pair}
use Rattle.text_rules.specs.Text.{bang}
use Rattle.text_rules.specs.Export.{per_line, only_if}
use Rattle.text_rules.proofs.Columns.{column_length}
use Rattle.text_export.proofs.put_byte.Goals as goal

pub returns-clause-room_after : goal.returns-clause-room_after
returns-clause-room_after c =
    let a = c.args in
    let p = c.put_if-digits in
    let q = c.put_digits-bang in
    let r = c.put_if-end in
    let t = c.put_if in
    let l = column_length a.column a.value a.mark in
    put_four (only_if (not (eqb a.column 0)) space) (hex_pair a.value) (only_if a.mark bang) (only_if (eqb a.column (per_line - 1)) newline) a.room.now
    a.at p.result q.result r.result (sym p.ensures.value) (sym q.ensures.value) (sym r.ensures.value)
    (omega (arith, l, c.requires, p.ensures.value, q.ensures.value, r.ensures.value)) refl refl refl refl p.ensures.room_after q.ensures.room_after r.ensures.room_after t.ensures.room_after
