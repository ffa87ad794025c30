-- What each exported call of a network and of the line monitor's text gives back and leaves behind, for all inputs: one thing where a line of its table applies, another
-- where none does (document 01, "Numbers given back", "How tight the statements are").
use Rattle.std.specs.Prelude.{ℕ, zero, suc, ◌+◌, List, [], ◌∷◌, ◌++◌, cond, length, get_or, eqb}
use Rattle.base_layout.specs.Bytes.{le, pasted}
use Rattle.chain_rules.specs.Chain.{Step, Outcome, flat, byte_step, taking}
use Rattle.types_rules.specs.Types.{Module, kind, slots}
use Rattle.net_rules.specs.Record.{net_in, stored}
use Rattle.net_rules.specs.Calls.{byte_of, bytes_of, fresh, tick_step, samples_for, outputs_at, cause_at}
use Rattle.host_rules.specs.declared.Reading.{Reading}
use Rattle.base_layout.specs.First.{Line, first}
use Rattle.api_rules.specs.Table.{setup_table, byte_table, buffer_table, tick_table, place_table, import_out, export_out, import_table, export_table}
use Rattle.text_rules.specs.Import.{read_text, is_text}

-- what holds where no line of a table applies, and what where one does
abbrev pub unless : {A : Type 0} → List Line → A → A → A
unless ls refused done = cond (eqb (first ls) 0) done refused

-- setup
unfoldable pub setup_record : List ℕ → List ℕ → List ℕ
setup_record net types = unless (setup_table net types) net (fresh types)

-- a line byte: the step of the network that the record holds
abbrev pub step_of : List ℕ → ℕ → ℕ → Step Module
step_of net mark byte = byte_step kind (net_in slots net) (byte_of byte (eqb mark 1))

unfoldable pub byte_number : List ℕ → ℕ → ℕ → List ℕ → ℕ
byte_number net mark byte room = unless (byte_table net mark room) (first (byte_table net mark room)) (step_of net mark byte).number

unfoldable pub byte_record : List ℕ → ℕ → ℕ → List ℕ → List ℕ
byte_record net mark byte room = unless (byte_table net mark room) net (stored slots (step_of net mark byte).net net)

unfoldable pub byte_room : List ℕ → ℕ → ℕ → List ℕ → List ℕ
byte_room net mark byte room = unless (byte_table net mark room) room (pasted 0 (flat (step_of net mark byte).replies) room)

unfoldable pub byte_written : List ℕ → ℕ → ℕ → List ℕ → ℕ
byte_written net mark byte room = unless (byte_table net mark room) 0 (length (flat (step_of net mark byte).replies))

-- a buffer (02 P2): what its bytes, one after another, make of the network that the record holds. Its number is its table's
abbrev pub buffer_of : List ℕ → List ℕ → List ℕ → Outcome Module
buffer_of net bytes marks = taking kind (bytes_of bytes marks) (net_in slots net)

unfoldable pub buffer_record : List ℕ → List ℕ → List ℕ → List ℕ → List ℕ
buffer_record net bytes marks room = unless (buffer_table net bytes marks room) net (stored slots (buffer_of net bytes marks).net net)

unfoldable pub buffer_room : List ℕ → List ℕ → List ℕ → List ℕ → List ℕ
buffer_room net bytes marks room = unless (buffer_table net bytes marks room) room (pasted 0 (flat (buffer_of net bytes marks).replies) room)

unfoldable pub buffer_written : List ℕ → List ℕ → List ℕ → List ℕ → ℕ
buffer_written net bytes marks room = unless (buffer_table net bytes marks room) 0 (length (flat (buffer_of net bytes marks).replies))

-- a tick with its list of samples (02 P11)
unfoldable pub tick_record : List ℕ → List ℕ → List ℕ
tick_record net samples =
    unless (tick_table net samples) net (stored slots (tick_step (samples_for (net_in slots net) samples) (net_in slots net)) net)

-- the outputs
unfoldable pub outputs_bytes : List ℕ → ℕ → List ℕ → List ℕ
outputs_bytes net place bytes = unless (place_table net place) bytes (outputs_at (net_in slots net) place)

-- the last cause (02 P1)
unfoldable pub cause_byte : List ℕ → ℕ → ℕ → ℕ
cause_byte net place byte = unless (place_table net place) byte (cause_at (net_in slots net) place)

-- what the status reader hands to C: the status byte, and k numbers of four bytes from number i on
abbrev pub numbers_bytes : ℕ → ℕ → List ℕ → List ℕ
numbers_bytes zero i ns = []
numbers_bytes (suc k) i ns = le 4 (get_or ns i 0) ++ numbers_bytes k (i + 1) ns

unfoldable pub reading_bytes : Reading → List ℕ
reading_bytes r = r.status ∷ numbers_bytes 8 0 r.numbers

-- an import of the line monitor's text (02 P7): its records at the room's start, how many bytes they have, and where the text stops being one, which is told
-- where its number is 21 and else is 0. Its number is its table's, and so is an export's
unfoldable pub import_room : List ℕ → List ℕ → List ℕ
import_room text room = unless (import_table text room) room (pasted 0 (import_out text) room)

unfoldable pub import_written : List ℕ → List ℕ → ℕ
import_written text room = unless (import_table text room) 0 (length (import_out text))

unfoldable pub import_offset : List ℕ → ℕ
import_offset text = cond (is_text text) 0 (read_text text).count

-- an export
unfoldable pub export_room : List ℕ → List ℕ → List ℕ
export_room rs room = unless (export_table rs room) room (pasted 0 (export_out rs) room)

unfoldable pub export_written : List ℕ → List ℕ → ℕ
export_written rs room = unless (export_table rs room) 0 (length (export_out rs))
