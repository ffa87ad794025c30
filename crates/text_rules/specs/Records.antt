-- Bytes of the line as records of a replay file (document 01, "Replay file"; document 02, P7).
use Rattle.std.specs.Prelude.{List, [], ◌∷◌, ◌++◌, Bool, true, false, cond, ◌&&◌, ℕ, ◌+◌, eqb, leb, Option, Some, None}
use Rattle.line_receiver.specs.Frames.{Byte}

-- 01 Replay file: the kind of a line byte's record.
abbrev pub line_kind : ℕ
line_kind = 1

-- 01 Replay file: a mark as a number.
abbrev pub mark_of : Bool → ℕ
mark_of m = cond m 1 0

-- 01 Replay file: the record of a byte: its kind, the mark, the byte.
abbrev pub record_of : Byte → List ℕ
record_of b = line_kind ∷ mark_of b.mark ∷ b.value ∷ []

-- 02 P7: a record for each byte.
abbrev pub records : List Byte → List ℕ
records [] = []
records (b ∷ bs) = record_of b ++ records bs

-- 02 P7, 22: whether these are whole records of kind 1, each with a mark of 0 or 1.
unfoldable pub all_line : List ℕ → Bool
all_line [] = true
all_line (k ∷ []) = false
all_line (k ∷ m ∷ []) = false
all_line (k ∷ m ∷ b ∷ rs) = eqb k line_kind && leb m 1 && all_line rs

-- 02 P7: the bytes of such records.
unfoldable pub bytes_in : List ℕ → List Byte
bytes_in [] = []
bytes_in (k ∷ []) = []
bytes_in (k ∷ m ∷ []) = []
bytes_in (k ∷ m ∷ b ∷ rs) = record { value = b; mark = eqb m 1 } ∷ bytes_in rs

-- 02 P7: how many of these bytes are marked.
abbrev pub marks : List Byte → ℕ
marks [] = 0
marks (b ∷ bs) = mark_of b.mark + marks bs

-- 02 P7, 22: of records of line bytes alone, how many are marked; nothing of anything else.
unfoldable pub measured_of : List ℕ → Option ℕ
measured_of rs = cond (all_line rs) (Some (marks (bytes_in rs))) None
