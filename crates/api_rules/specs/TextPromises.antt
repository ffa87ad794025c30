-- What is promised of the two calls of the line monitor's text (document 02, P7), by the grammar and by the records alone. Each is proved under its name,
-- with small letters, in proofs/.
use Rattle.std.specs.Prelude.{◌≡◌, List, ◌⊎◌, ℕ, ◌+◌, ◌*◌, ◌<◌, ◌≤◌, length, take}
use Rattle.base_layout.specs.Bytes.{pasted, Bytes}
use Rattle.base_layout.specs.First.{first}
use Rattle.line_receiver.specs.Frames.{Byte}
use Rattle.text_rules.specs.Text.{bang, Text}
use Rattle.text_rules.specs.Records.{records, marks}
use Rattle.text_rules.specs.Export.{exported}
use Rattle.text_rules.specs.Promises.{FaultAt, BreaksOff, occurs, normal}
use Rattle.api_rules.specs.Table.{import_out, export_out, import_table, export_table}
use Rattle.api_rules.specs.Calls.{import_room, import_written, import_offset, export_room, export_written}
use Rattle.api_rules.specs.Promises.{Passes, Put}

-- 02 P7, import: a text of some bytes gives their records, with a room of three bytes for each of them, else 15; what is no text of any bytes is 21,
-- whatever the room, with the offset of the first character that can't stand there, or the length where it breaks off; and the room that a text needs is its
-- length less its exclamation marks.
pub record Imports (text room : List ℕ) : Type 0 where
  pub done : (bs : List Byte) → Text text bs → 3 * length bs ≤ length room → first (import_table text room) ≡ 0
  pub wrote : (bs : List Byte) → Text text bs → 3 * length bs ≤ length room → import_room text room ≡ pasted 0 (records bs) room
  pub told : (bs : List Byte) → Text text bs → 3 * length bs ≤ length room → import_written text room ≡ 3 * length bs
  pub fifteen : (bs : List Byte) → Text text bs → length room < 3 * length bs → first (import_table text room) ≡ 15
  pub offset_none : (bs : List Byte) → Text text bs → import_offset text ≡ 0
  pub twenty_one : ((bs : List Byte) → Text text bs → ⊥) → first (import_table text room) ≡ 21
  pub offset : ((bs : List Byte) → Text text bs → ⊥) → FaultAt text (import_offset text) ⊎ BreaksOff text (import_offset text)
  pub needs : (bs : List Byte) → Text text bs → 3 * length bs + occurs bang text ≡ length text

abbrev pub ImportBounds : Type 0
ImportBounds = (text room : List ℕ) → Imports text room

-- 02 P7, export: the records of some bytes give their text, with a room of the records' length and one byte for each mark, else 15; what is not the records of
-- any bytes is 22, whatever the room.
pub record Exports (rs room : List ℕ) : Type 0 where
  pub done : (bs : List Byte) → rs ≡ records bs → length rs + marks bs ≤ length room → first (export_table rs room) ≡ 0
  pub wrote : (bs : List Byte) → rs ≡ records bs → length rs + marks bs ≤ length room → export_room rs room ≡ pasted 0 (exported bs) room
  pub told : (bs : List Byte) → rs ≡ records bs → length rs + marks bs ≤ length room → export_written rs room ≡ length rs + marks bs
  pub fifteen : (bs : List Byte) → rs ≡ records bs → length room < length rs + marks bs → first (export_table rs room) ≡ 15
  pub twenty_two : ((bs : List Byte) → rs ≡ records bs → ⊥) → first (export_table rs room) ≡ 22

abbrev pub ExportBounds : Type 0
ExportBounds = (rs room : List ℕ) → Exports rs room

-- 02 P7: what each of them writes stands at the room's start, and the rest of the room is as it was.
pub record TextWritten : Type 0 where
  pub import : (text room : List ℕ) → Put (import_table text room) (import_out text) room (import_room text room) (import_written text room)
  pub export : (rs room : List ℕ) → Put (export_table rs room) (export_out rs) room (export_room rs room) (export_written rs room)

-- what a call wrote
abbrev pub imported_text : List ℕ → List ℕ → List ℕ
imported_text text room = take (import_written text room) (import_room text room)

abbrev pub exported_text : List ℕ → List ℕ → List ℕ
exported_text rs room = take (export_written rs room) (export_room rs room)

-- 02 P7: exported then imported gives back the same records, and a room of their length is enough.
abbrev pub ThereAndBackAsText : Type 0
ThereAndBackAsText =
    (rs room back : List ℕ)
    → Bytes rs
    → Passes (export_table rs room)
    → length rs ≤ length back
    → Passes (import_table (exported_text rs room) back) × (imported_text (exported_text rs room) back ≡ rs)

-- 02 P7: exporting an import gives the text's normal form, which is as long as the text.
abbrev pub ToNormalForm : Type 0
ToNormalForm =
    (text room back : List ℕ)
    → Passes (import_table text room)
    → length text ≤ length back
    → Passes (export_table (imported_text text room) back) × (exported_text (imported_text text room) back ≡ normal text) × (length (normal text) ≡ length text)
