-- The promises of the line monitor's text calls. Assumes nothing.
use mathlib.Core.Path.{◌≡◌, refl, sym, ap, subst⁻¹, ◌∙◌}
use mathlib.Core.List.{List, [], ◌∷◌}
use mathlib.Core.Bool.{Bool, true, false}
use Prim.Native.Nat.{ℕ, zero, suc, ◌+◌, ◌*◌, ◌<◌, ◌≤◌}
use native.Mathlib.Omega.{arith}
use borrow.Author.Tests.{ltb-false, not-false}
use lib.ListN.{length}
use Rattle.base_layout.specs.Bytes.{pasted, Bytes}
use Rattle.base_layout.proofs.First.{none_applies}
use Rattle.line_receiver.specs.Frames.{Byte}
use Rattle.text_rules.specs.Text.{Text}
use Rattle.text_rules.specs.Records.{records, all_line, bytes_in, marks}
use Rattle.text_rules.specs.Export.{exported}
use Rattle.text_rules.specs.Import.{read_text, is_text}
use Rattle.text_rules.specs.Promises.{Small, normal}
use Rattle.text_rules.proofs.Accepted.{accepts}
use Rattle.text_rules.proofs.Offset.{offset}
use Rattle.text_rules.proofs.Export.{is_text_lem, length_exported}
use Rattle.text_rules.proofs.Normal.{length-records, lengths, line_records}
use Rattle.api_rules.specs.Table.{import_out, export_out, import_table, export_table}
use Rattle.api_rules.specs.Calls.{import_room, import_written, import_offset, export_room, export_written}
use Rattle.api_rules.specs.Promises.{Passes}
use Rattle.api_rules.specs.TextPromises.{ImportBounds, ExportBounds, TextWritten, imported_text, exported_text, ThereAndBackAsText, ToNormalForm}
use Rattle.api_rules.proofs.Room.{put_there}
use Rattle.api_rules.proofs.Text.{import_none, import_short, import_done, export_other, export_short, export_done}

no_offset : (text : List ℕ) → is_text text ≡ true → import_offset text ≡ 0
unfolding import_offset
no_offset text e = rw e refl

-- a text of the grammar is one to the reader, and what is none is none
is_one : (text : List ℕ) (bs : List Byte) → Text text bs → (is_text text ≡ true) × ((read_text text).bytes ≡ bs)
is_one text bs t = (accepts text bs).0 t

is_none : (text : List ℕ) → ((bs : List Byte) → Text text bs → ⊥) → is_text text ≡ false
is_none text h = go (is_text text) refl
  where
    go : (t : Bool) → is_text text ≡ t → t ≡ false
    go true e = absurd (h (read_text text).bytes ((accepts text (read_text text).bytes).1 (e, refl)))
    go false e = refl

pub import_bounds : ImportBounds
import_bounds text room = record {
  done = λ bs t h. let p = is_one text bs t in sym (import_done text room p.0 (enough p.1 h) refl).0;
  wrote = λ bs t h. let p = is_one text bs t in sym (import_done text room p.0 (enough p.1 h) refl).1 ∙ ap (λ (l : List Byte). pasted 0 (records l) room) p.1;
  told = λ bs t h. let p = is_one text bs t in sym (import_done text room p.0 (enough p.1 h) refl).2 ∙ ap (λ (l : List Byte). 3 * length l) p.1;
  fifteen = λ bs t h. let p = is_one text bs t in sym (import_short text room p.0 (short p.1 h)).0;
  offset_none = λ bs t. no_offset text (is_one text bs t).0;
  twenty_one = λ h. sym (import_none text room (is_none text h)).0;
  offset = λ h. (offset text (is_none text h) (import_offset text)).0 (import_none text room (is_none text h)).3;
  needs = λ bs t. omega (arith, lengths.text t, lengths.bangs t);
}
  where
    enough : {bs : List Byte} → (read_text text).bytes ≡ bs → 3 * length bs ≤ length room → 3 * length (read_text text).bytes ≤ length room
    enough e h = rw e h

    short : {bs : List Byte} → (read_text text).bytes ≡ bs → length room < 3 * length bs → length room < 3 * length (read_text text).bytes
    short e h = rw e h

-- records of some bytes are taken, and what is none is not
is_line_lem : (rs : List ℕ) (bs : List Byte) → rs ≡ records bs → (all_line rs ≡ true) × (bytes_in rs ≡ bs)
is_line_lem rs bs e = rw e (line_records.given bs)

is_other : (rs : List ℕ) → ((bs : List Byte) → rs ≡ records bs → ⊥) → all_line rs ≡ false
is_other rs h = go (all_line rs) refl
  where
    go : (t : Bool) → all_line rs ≡ t → t ≡ false
    go true e = absurd (h (bytes_in rs) (sym (line_records.taken rs e)))
    go false e = refl

pub export_bounds : ExportBounds
export_bounds rs room = record {
  done = λ bs e h. let p = is_line_lem rs bs e in sym (export_done rs room p.0 (enough p.1 h) refl).0;
  wrote = λ bs e h. let p = is_line_lem rs bs e in sym (export_done rs room p.0 (enough p.1 h) refl).1 ∙ ap (λ (l : List Byte). pasted 0 (exported l) room) p.1;
  told = λ bs e h. let p = is_line_lem rs bs e in sym (export_done rs room p.0 (enough p.1 h) refl).2 ∙ ap (λ (l : List Byte). length rs + marks l) p.1;
  fifteen = λ bs e h. let p = is_line_lem rs bs e in sym (export_short rs room p.0 (short p.1 h)).0;
  twenty_two = λ h. sym (export_other rs room (is_other rs h)).0;
}
  where
    enough : {bs : List Byte} → bytes_in rs ≡ bs → length rs + marks bs ≤ length room → length rs + marks (bytes_in rs) ≤ length room
    enough e h = rw e h

    short : {bs : List Byte} → bytes_in rs ≡ bs → length room < length rs + marks bs → length room < length rs + marks (bytes_in rs)
    short e h = rw e h

-- what passes a table of two lines
import_passes : (text room : List ℕ) → Passes (import_table text room) → (is_text text ≡ true) × (length (import_out text) ≤ length room)
import_passes text room p =
    let n = none_applies (import_table text room) (omega arith, (omega arith, tt)) p in
    (not-false _ n.0, ltb-false _ _ n.1.0)

export_passes : (rs room : List ℕ) → Passes (export_table rs room) → (all_line rs ≡ true) × (length (export_out rs) ≤ length room)
export_passes rs room p =
    let n = none_applies (export_table rs room) (omega arith, (omega arith, tt)) p in
    (not-false _ n.0, ltb-false _ _ n.1.0)

pub text_written : TextWritten
unfolding import_room import_written export_room export_written
text_written = record {
  import = λ text room. put_there (import_table text room) (import_out text) room (λ p. (import_passes text room p).1);
  export = λ rs room. put_there (export_table rs room) (export_out rs) room (λ p. (export_passes rs room p).1);
}

-- the values of records that are bytes are bytes
small_records : (bs : List Byte) → Bytes (records bs) → Small bs
small_records [] h i = h i
small_records (b ∷ bs) h zero = h 2
small_records (b ∷ bs) h (suc i) = small_records bs (λ j. h (suc (suc (suc j)))) i

pub there_and_back_as_text : ThereAndBackAsText
there_and_back_as_text rs room back small p l =
    let e = (export_passes rs room p).0 in
    let bs : List Byte = bytes_in rs in
    let same = line_records.taken rs e in
    let t : exported_text rs room ≡ exported bs = (text_written.export rs room).begins p in
    let x : Text (exported_text rs room) bs = subst⁻¹ (λ (u : List ℕ). Text u bs) t (is_text_lem bs (small_records bs (subst⁻¹ Bytes same small))) in
    let q = (accepts (exported_text rs room) bs).0 x in
    let fits : 3 * length bs ≤ length back = omega (arith, l, ap (λ (r : List ℕ). length r) same, length-records bs) in
    let d = (import_bounds (exported_text rs room) back).done bs x fits in
    (d, (text_written.import (exported_text rs room) back).begins d ∙ ap records q.1 ∙ same)

pub to_normal_form : ToNormalForm
to_normal_form text room back p l =
    let e = (import_passes text room p).0 in
    let bs : List Byte = (read_text text).bytes in
    let x = (accepts text bs).1 (e, refl) in
    let r : imported_text text room ≡ records bs = (text_written.import text room).begins p in
    let n : length (normal text) ≡ length text = omega (arith, length_exported bs, lengths.text x) in
    let fits : length (imported_text text room) + marks bs ≤ length back =
    omega (arith, l, ap (λ (z : List ℕ). length z) r, length-records bs, lengths.text x) in
    let d = (export_bounds (imported_text text room) back).done bs r fits in
    (d, (text_written.export (imported_text text room) back).begins d ∙ ap exported (is_line_lem (imported_text text room) bs r).1, n)
