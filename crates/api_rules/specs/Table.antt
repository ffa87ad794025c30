-- The refusals of each call of a network and of the line monitor's text, in the order of the table (document 01, "Numbers given back"; document 02, P1, P2,
-- P7 and P11).
use Rattle.std.specs.Prelude.{ℕ, List, [], ◌∷◌, not, ◌||◌, length, eqb, ltb}
use Rattle.base_layout.specs.First.{Line}
use Rattle.types_rules.specs.Types.{slots}
use Rattle.net_rules.specs.Record.{chain_most, record_size, room_size, buffer_most, buffer_room_size, net_in, valid}
use Rattle.net_rules.specs.Calls.{all_known, all_marks, list_size, all_typed, all_in_range}
use Rattle.text_rules.specs.Records.{records, all_line, bytes_in}
use Rattle.text_rules.specs.Export.{exported}
use Rattle.text_rules.specs.Import.{read_text, is_text}

-- 16: the record breaks the list of what a record satisfies, its length among it
abbrev pub broken : List ℕ → Line
broken net = record { number = 16; applies = not (valid slots net) }

-- 13: the place is not below the chain length
abbrev pub beyond : List ℕ → ℕ → Line
beyond net place = record { number = 13; applies = not (ltb place (length (net_in slots net).modules)) }

-- setup: 16 the record's length, 11 the chain's length, 12 an unknown type
abbrev pub setup_table : List ℕ → List ℕ → List Line
setup_table net types =
    record { number = 16; applies = not (eqb (length net) record_size) }
    ∷ record { number = 11; applies = eqb (length types) 0 || ltb chain_most (length types) }
    ∷ record { number = 12; applies = not (all_known types) }
    ∷ []

-- a line byte: 16, 14 the mark is neither 0 nor 1, 15 the room is under what all replies need
abbrev pub byte_table : List ℕ → ℕ → List ℕ → List Line
byte_table net mark room =
    broken net
    ∷ record { number = 14; applies = ltb 1 mark }
    ∷ record { number = 15; applies = ltb (length room) room_size }
    ∷ []

-- 02 P2, a buffer of bytes with their marks: 16, 20 the two lists differ in length or are longer than 64, 14 any of the marks is neither 0 nor 1, 15 the
-- room is under what a buffer needs, however few bytes there are
abbrev pub buffer_table : List ℕ → List ℕ → List ℕ → List ℕ → List Line
buffer_table net bytes marks room =
    broken net
    ∷ record { number = 20; applies = not (eqb (length bytes) (length marks)) || ltb buffer_most (length bytes) }
    ∷ record { number = 14; applies = not (all_marks marks) }
    ∷ record { number = 15; applies = ltb (length room) buffer_room_size }
    ∷ []

-- 02 P11, a tick with its list of samples: 16, 20 the list is not as long as the chain asks, 13 a sample is of another type than its module, 14 a
-- field of a sample is out of range
abbrev pub tick_table : List ℕ → List ℕ → List Line
tick_table net samples =
    broken net
    ∷ record { number = 20; applies = not (eqb (length samples) (list_size (length (net_in slots net).modules))) }
    ∷ record { number = 13; applies = not (all_typed (net_in slots net).modules samples) }
    ∷ record { number = 14; applies = not (all_in_range (length (net_in slots net).modules) samples) }
    ∷ []

-- a call that reads the module at a place: 16, 13
abbrev pub place_table : List ℕ → ℕ → List Line
place_table net place = broken net ∷ beyond net place ∷ []

-- 02 P7: what an import writes, a record for each byte of the text; and what an export writes, the text of the records' bytes
abbrev pub import_out : List ℕ → List ℕ
import_out text = records (read_text text).bytes

abbrev pub export_out : List ℕ → List ℕ
export_out rs = exported (bytes_in rs)

-- 02 P7, a text to import: 21 it is no text, 15 the room is shorter than its records
abbrev pub import_table : List ℕ → List ℕ → List Line
import_table text room =
    record { number = 21; applies = not (is_text text) }
    ∷ record { number = 15; applies = ltb (length room) (length (import_out text)) }
    ∷ []

-- 02 P7, records to export: 22 they are not all whole records of kind 1 with a mark of 0 or 1, 15 the room is shorter than their text
abbrev pub export_table : List ℕ → List ℕ → List Line
export_table rs room =
    record { number = 22; applies = not (all_line rs) }
    ∷ record { number = 15; applies = ltb (length room) (length (export_out rs)) }
    ∷ []
