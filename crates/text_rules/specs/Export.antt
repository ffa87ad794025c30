-- Bytes of the line as the line monitor would show them: the text's normal form (document 02, P7).
use Rattle.std.specs.Prelude.{List, [], ◌∷◌, ◌++◌, Bool, cond, not, ℕ, zero, suc, ◌+◌, ◌-◌, ◌%◌, length, take, drop, eqb}
use Rattle.base_text.specs.Digits.{space, newline, hex_pair}
use Rattle.line_receiver.specs.Frames.{Byte}
use Rattle.text_rules.specs.Text.{bang}

-- 02 P7: how many bytes fill a line.
abbrev pub per_line : ℕ
per_line = 16

-- a character that stands there only if something holds
abbrev pub only_if : Bool → ℕ → List ℕ
only_if t c = cond t (c ∷ []) []

-- 02 P7: a byte in upper case, with its mark straight after it if it has one.
abbrev pub shown : Byte → List ℕ
shown b = hex_pair b.value ++ only_if b.mark bang

-- 02 P7: the rest of a line: a space before each byte, and the newline.
abbrev pub spaced : List Byte → List ℕ
spaced [] = newline ∷ []
spaced (b ∷ bs) = space ∷ shown b ++ spaced bs

-- 02 P7: lines of 16 bytes, the last of them shorter; k is as many lines as there can be.
abbrev pub lines_of : ℕ → List Byte → List ℕ
lines_of zero bs = []
lines_of (suc k) [] = []
lines_of (suc k) (b ∷ bs) = shown b ++ spaced (take (per_line - 1) bs) ++ lines_of k (drop (per_line - 1) bs)

-- 02 P7: the text of some bytes; nothing for none.
unfoldable pub exported : List Byte → List ℕ
exported bs = lines_of (length bs) bs

-- The same text, byte by byte: a byte in a column of its line, counted from 0. A space stands before it but in the first column, and the line ends behind
-- the last one.
abbrev pub in_column : ℕ → Byte → List ℕ
in_column column b = only_if (not (eqb column 0)) space ++ hex_pair b.value ++ only_if b.mark bang ++ only_if (eqb column (per_line - 1)) newline

-- the column after so many bytes more
abbrev pub column_after : ℕ → ℕ → ℕ
column_after column n = (column + n) % per_line

unfoldable pub text_from : ℕ → List Byte → List ℕ
text_from column [] = []
text_from column (b ∷ bs) = in_column column b ++ text_from (column_after column 1) bs

-- what ends a line that is not full
abbrev pub closing : ℕ → List ℕ
closing column = only_if (not (eqb column 0)) newline
