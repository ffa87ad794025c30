-- What is promised of the line monitor's text (document 02, P7). Each is proved under its name, with small letters, in proofs/.
use Rattle.std.specs.Prelude.{◌≡◌, List, [], ◌∷◌, ◌++◌, Bool, true, false, cond, ◌↔◌, ◌⊎◌, ℕ, zero, suc, ◌+◌, ◌*◌, ◌<◌, ◌≤◌, length, get_or, take, replicate, eqb}
use Rattle.base_layout.specs.Bytes.{Bytes}
use Rattle.line_receiver.specs.Frames.{Byte, values}
use Rattle.text_rules.specs.Text.{bang, OneLine, Text, Begins}
use Rattle.text_rules.specs.Records.{mark_of, records, all_line, bytes_in, marks}
use Rattle.text_rules.specs.Export.{exported, column_after, text_from, closing}
use Rattle.text_rules.specs.Fold.{Brought, folded, in_pieces, together}
use Rattle.text_rules.specs.Import.{read_text, is_text}

-- 02 P7: the reader accepts exactly the texts of the grammar, and gives the bytes that they are.
abbrev pub Accepts : Type 0
Accepts = (t : List ℕ) (bs : List Byte) → Text t bs ↔ ((is_text t ≡ true) × ((read_text t).bytes ≡ bs))

-- 02 P7, 21: the first character that can't stand there: no text begins with the characters up to it, and with fewer of them some text does.
pub record FaultAt (t : List ℕ) (k : ℕ) : Type 0 where
  pub within : k < length t
  pub none : Begins (take (k + 1) t) → ⊥
  pub least : (j : ℕ) → j < k → Begins (take (j + 1) t)

-- 02 P7, 21: there is no such character, and the number is the text's length.
pub record BreaksOff (t : List ℕ) (k : ℕ) : Type 0 where
  pub whole : k ≡ length t
  pub each : (j : ℕ) → j < length t → Begins (take (j + 1) t)

-- 02 P7, 21: of what is no text, the number of characters that the reader takes is the offset asked for, and no other number is.
abbrev pub Offset : Type 0
Offset = (t : List ℕ) → is_text t ≡ false → (k : ℕ) → ((read_text t).count ≡ k) ↔ (FaultAt t k ⊎ BreaksOff t k)

-- every value is a byte's
abbrev pub Small : List Byte → Type 0
Small bs = Bytes (values bs)

-- 02 P7: what is exported is a text of the grammar, for the same bytes.
abbrev pub IsText : Type 0
IsText = (bs : List Byte) → Small bs → Text (exported bs) bs

-- 02 P7: the normal form of a text: its bytes, exported.
abbrev pub normal : List ℕ → List ℕ
normal t = exported (read_text t).bytes

-- 02 P7: a text's normal form is a text and its own normal form, and is read as the same bytes.
pub record Normal (t : List ℕ) : Type 0 where
  pub text : is_text (normal t) ≡ true
  pub same : (read_text (normal t)).bytes ≡ (read_text t).bytes
  pub fixed : normal (normal t) ≡ normal t

abbrev pub NormalForm : Type 0
NormalForm = (t : List ℕ) → is_text t ≡ true → Normal t

-- 02 P7: how often a character stands in a text.
abbrev pub occurs : ℕ → List ℕ → ℕ
occurs c [] = 0
occurs c (x ∷ xs) = mark_of (eqb x c) + occurs c xs

-- 02 P7: lengths, so that the room is known before a call. A text has three characters for a byte, and one for a mark; so its records have its length
-- less its exclamation marks, and a text that is exported has the records' length and its marks.
pub record Lengths : Type 0 where
  pub text : {t : List ℕ} {bs : List Byte} → Text t bs → length t ≡ 3 * length bs + marks bs
  pub bangs : {t : List ℕ} {bs : List Byte} → Text t bs → occurs bang t ≡ marks bs
  pub records : (bs : List Byte) → length (records bs) ≡ 3 * length bs
  pub exported : (bs : List Byte) → length (exported bs) ≡ 3 * length bs + marks bs

-- 02 P7, 22: records are taken exactly where they are the records of some bytes of the line, which are then those read from them.
pub record LineRecords : Type 0 where
  pub taken : (rs : List ℕ) → all_line rs ≡ true → records (bytes_in rs) ≡ rs
  pub given : (bs : List Byte) → (all_line (records bs) ≡ true) × (bytes_in (records bs) ≡ bs)

-- 02 P7: byte by byte, with the line that is not full ended, it is the same text.
abbrev pub ByteByByte : Type 0
ByteByByte = (bs : List Byte) → text_from 0 bs ++ closing (column_after 0 (length bs)) ≡ exported bs

-- 02 P7: what is exported has 16 bytes a line, the last line shorter: up to 16 bytes are one line of the grammar, and after 16 bytes the text goes on as if it
-- began; nothing for no bytes.
pub record SixteenALine : Type 0 where
  pub none : exported [] ≡ []
  pub line : (bs : List Byte) → 1 ≤ length bs → length bs ≤ 16 → Small bs → OneLine (exported bs) bs
  pub more : (bs cs : List Byte) → length bs ≡ 16 → exported (bs ++ cs) ≡ exported bs ++ exported cs

-- 02 P7: it is written in upper case: no character from the letter a on stands in it.
abbrev pub NoLowerCase : Type 0
NoLowerCase = (bs : List Byte) → Small bs → (i : ℕ) → get_or (exported bs) i 0 < 97

-- 02 P7: in whatever pieces characters are handed over, they come to what all of them do.
abbrev pub InPieces : Type 1
InPieces = (S : Type 0) (f : S → ℕ → Brought S) (s : S) (ps : List (List ℕ)) → in_pieces f s ps ≡ folded f s (together ps)

-- a byte of the line, unmarked and marked
abbrev pub clear : ℕ → Byte
clear v = record { value = v; mark = false }

abbrev pub hurt : ℕ → Byte
hurt v = record { value = v; mark = true }

-- "AA" so many times, a space behind each, and once more at the line's end
abbrev pub many_of : ℕ → List ℕ
many_of zero = 65 ∷ 65 ∷ 10 ∷ []
many_of (suc n) = 65 ∷ 65 ∷ 32 ∷ many_of n

-- 02 P7: texts as they are read, "aB 0f!", a line more with "7D!", the empty one, and a line of 21 bytes; where what is none stops: a blank line at its newline, also the
-- second, a space before a newline at the newline, two spaces at the second, a mark with no byte, two marks, a CR, a tab, "AA" at 2, "A" at 1, "AA " at 3; and two
-- bytes as they are shown and as records.
pub record Examples : Type 0 where
  pub line : (read_text (97 ∷ 66 ∷ 32 ∷ 48 ∷ 102 ∷ 33 ∷ 10 ∷ [])).bytes ≡ clear 0xAB ∷ hurt 0x0F ∷ []
  pub lines : (read_text (97 ∷ 66 ∷ 32 ∷ 48 ∷ 102 ∷ 33 ∷ 10 ∷ 55 ∷ 68 ∷ 33 ∷ 10 ∷ [])).bytes ≡ clear 0xAB ∷ hurt 0x0F ∷ hurt 0x7D ∷ []
  pub nothing : (is_text [] ≡ true) × ((read_text []).bytes ≡ [])
  pub blank : (read_text (10 ∷ [])).count ≡ 0
  pub second : (read_text (65 ∷ 65 ∷ 10 ∷ 10 ∷ [])).count ≡ 3
  pub trailing : (read_text (65 ∷ 65 ∷ 32 ∷ 10 ∷ [])).count ≡ 3
  pub spaces : (read_text (65 ∷ 65 ∷ 32 ∷ 32 ∷ 65 ∷ 65 ∷ 10 ∷ [])).count ≡ 3
  pub mark : (read_text (33 ∷ 65 ∷ 65 ∷ 10 ∷ [])).count ≡ 0
  pub marks : (read_text (65 ∷ 65 ∷ 33 ∷ 33 ∷ 10 ∷ [])).count ≡ 3
  pub return : (read_text (65 ∷ 65 ∷ 13 ∷ 10 ∷ [])).count ≡ 2
  pub tab : (read_text (65 ∷ 65 ∷ 9 ∷ 65 ∷ 65 ∷ 10 ∷ [])).count ≡ 2
  pub long : (read_text (many_of 20)).bytes ≡ replicate 21 (clear 0xAA)
  pub byte : (is_text (65 ∷ 65 ∷ []) ≡ false) × ((read_text (65 ∷ 65 ∷ [])).count ≡ 2)
  pub digit : (is_text (65 ∷ []) ≡ false) × ((read_text (65 ∷ [])).count ≡ 1)
  pub space : (is_text (65 ∷ 65 ∷ 32 ∷ []) ≡ false) × ((read_text (65 ∷ 65 ∷ 32 ∷ [])).count ≡ 3)
  pub shown : exported (clear 0xAB ∷ hurt 0x0F ∷ []) ≡ 65 ∷ 66 ∷ 32 ∷ 48 ∷ 70 ∷ 33 ∷ 10 ∷ []
  pub recorded : records (clear 0xAB ∷ hurt 0x0F ∷ []) ≡ 1 ∷ 0 ∷ 0xAB ∷ 1 ∷ 1 ∷ 0x0F ∷ []
