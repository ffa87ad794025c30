-- The calls of the line monitor's text, by their tables. Assumes nothing.
use mathlib.Core.Path.{◌≡◌, refl, sym}
use mathlib.Core.List.{List}
use mathlib.Core.Bool.{true, false}
use Prim.Native.Nat.{ℕ, ◌+◌, ◌*◌, ◌<◌, ◌≤◌}
use native.Mathlib.Omega.{arith}
use borrow.Author.Tests.{lt-ltb, le-ltb}
use lib.ListN.{length}
use lib.Dec.{ltb}
use Rattle.base_layout.specs.Bytes.{pasted}
use Rattle.base_layout.specs.First.{first}
use Rattle.text_rules.specs.Records.{all_line, bytes_in, marks}
use Rattle.text_rules.specs.Import.{read_text, is_text}
use Rattle.text_rules.proofs.Normal.{length-records}
use Rattle.text_rules.proofs.Records.{text_length}
use Rattle.api_rules.specs.Table.{import_out, export_out, import_table, export_table}
use Rattle.api_rules.specs.Calls.{import_room, import_written, import_offset, export_room, export_written}

-- what a call for C gives back and leaves where a text is none, where the room is short, and where its records are written
pub import_none : (text room : List ℕ) → is_text text ≡ false
    → (21 ≡ first (import_table text room)) × (room ≡ import_room text room) × (0 ≡ import_written text room) × ((read_text text).count ≡ import_offset text)
unfolding import_room import_written import_offset
import_none text room e = rw e (refl, refl, refl, refl)

pub import_short : (text room : List ℕ) → is_text text ≡ true → length room < 3 * length (read_text text).bytes
    → (15 ≡ first (import_table text room)) × (room ≡ import_room text room) × (0 ≡ import_written text room) × (0 ≡ import_offset text)
unfolding import_room import_written import_offset
import_short text room e h =
    let s : ltb (length room) (length (import_out text)) ≡ true = lt-ltb (length room) (length (import_out text)) (omega (arith, length-records (read_text text).bytes)) in
    rw (e, s) (refl, refl, refl, refl)

pub import_done : (text room : List ℕ) → is_text text ≡ true → 3 * length (read_text text).bytes ≤ length room → {room' : List ℕ}
    → room' ≡ pasted 0 (import_out text) room
    → (0 ≡ first (import_table text room)) × (room' ≡ import_room text room) × (3 * length (read_text text).bytes ≡ import_written text room) × (0 ≡ import_offset text)
unfolding import_room import_written import_offset
import_done text room e h p =
    let l = length-records (read_text text).bytes in
    let s : ltb (length room) (length (import_out text)) ≡ false = le-ltb (length room) (length (import_out text)) (omega (arith, l)) in
    rw (e, s) (refl, p, sym l, refl)

pub export_other : (rs room : List ℕ) → all_line rs ≡ false
    → (22 ≡ first (export_table rs room)) × (room ≡ export_room rs room) × (0 ≡ export_written rs room)
unfolding export_room export_written
export_other rs room e = rw e (refl, refl, refl)

pub export_short : (rs room : List ℕ) → all_line rs ≡ true → length room < length rs + marks (bytes_in rs)
    → (15 ≡ first (export_table rs room)) × (room ≡ export_room rs room) × (0 ≡ export_written rs room)
unfolding export_room export_written
export_short rs room e h =
    let s : ltb (length room) (length (export_out rs)) ≡ true = lt-ltb (length room) (length (export_out rs)) (omega (arith, text_length rs e)) in
    rw (e, s) (refl, refl, refl)

pub export_done : (rs room : List ℕ) → all_line rs ≡ true → length rs + marks (bytes_in rs) ≤ length room → {room' : List ℕ}
    → room' ≡ pasted 0 (export_out rs) room
    → (0 ≡ first (export_table rs room)) × (room' ≡ export_room rs room) × (length rs + marks (bytes_in rs) ≡ export_written rs room)
unfolding export_room export_written
export_done rs room e h p =
    let l = text_length rs e in
    let s : ltb (length room) (length (export_out rs)) ≡ false = le-ltb (length room) (length (export_out rs)) (omega (arith, l)) in
    rw (e, s) (refl, p, sym l)
