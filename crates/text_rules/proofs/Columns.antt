-- The exported text byte by byte: the columns of a line come one after another, and a full line ends by itself. Assumes nothing.
use mathlib.Core.Path.{◌≡◌, refl, sym, ap, ap₂, ◌∙◌}
use mathlib.Core.List.{List, [], ◌∷◌, ◌++◌, append_assoc, append-nil}
use mathlib.Core.Bool.{Bool, true, false, not}
use Prim.Native.Nat.{ℕ, zero, suc, ◌+◌, ◌*◌, ◌-◌, ◌<◌, ◌≤◌}
use native.Mathlib.Omega.{arith}
use borrow.Author.Tests.{ne_eqb}
use lib.ListN.{length, take, drop, drop_of_length-le, length-append}
use lib.Seq.{take_all}
use Rattle.base_layout.specs.Bytes.{pasted}
use Rattle.base_layout.proofs.Pasted.{pasted_twice}
use lib.Dec.{eqb}
use Rattle.base_text.specs.Digits.{space, newline, hex_pair}
use Rattle.line_receiver.specs.Frames.{Byte}
use Rattle.text_rules.specs.Text.{bang}
use Rattle.text_rules.specs.Export.{per_line, only_if, shown, spaced, lines_of, exported, in_column, column_after, text_from, closing}
use Rattle.text_rules.specs.Promises.{ByteByByte}

-- what is left from a column on, with the last line ended
abbrev pub ended : ℕ → List Byte → List ℕ
ended c bs = text_from c bs ++ closing (column_after c (length bs))

-- the column after one byte and then others
pub column_on : (c n : ℕ) → column_after (column_after c 1) n ≡ column_after c (suc n)
column_on c n = omega arith

pub ended-on : (c : ℕ) (b : Byte) (bs : List Byte) → ended c (b ∷ bs) ≡ in_column c b ++ ended (column_after c 1) bs
unfolding text_from
ended-on c b bs =
    append_assoc (in_column c b) (text_from (column_after c 1) bs) (closing (column_after c (suc (length bs))))
    ∙ ap (λ (k : ℕ). in_column c b ++ (text_from (column_after c 1) bs ++ closing k)) (sym (column_on c (length bs)))

-- a byte in the first column, and between the first and the last
first_column : (b : Byte) → in_column 0 b ≡ shown b
first_column b = append-nil (shown b)

mid_column : (c : ℕ) (b : Byte) → 0 < c → c < 15 → in_column c b ≡ space ∷ shown b
mid_column c b h g = rw (ne_eqb c 0 (λ e. omega arith), ne_eqb c 15 (λ e. omega arith)) (append-nil (space ∷ shown b))

pub lines_none : (k : ℕ) → lines_of k [] ≡ []
lines_none zero = refl
lines_none (suc k) = refl

-- what is left at the start of a line, and in a column where so many bytes are left of the line
record Rest (bs : List Byte) : Type 0 where
  lined : (k : ℕ) → length bs ≤ k → ended 0 bs ≡ lines_of k bs
  within : (k n c : ℕ) → 0 < c → c + suc n ≡ 16 → length bs ≤ k → ended c bs ≡ spaced (take (suc n) bs) ++ lines_of k (drop (suc n) bs)

rest_none : Rest []
unfolding text_from
rest_none = record {
  lined = λ k h. sym (lines_none k);
  within = λ k n c h e l. ap (λ (t : Bool). only_if (not t) newline) (ne_eqb (column_after c 0) 0 (λ z. omega arith)) ∙ ap (λ (l : List ℕ). newline ∷ l) (sym (lines_none k));
}

rest-on : (b : Byte) (bs : List Byte) → Rest bs → Rest (b ∷ bs)
rest-on b bs r = record { lined = lined; within = within }
  where
    lined : (k : ℕ) → suc (length bs) ≤ k → ended 0 (b ∷ bs) ≡ lines_of k (b ∷ bs)
    lined zero h = absurd (omega arith)
    lined (suc k) h =
        ended-on 0 b bs
        ∙ ap₂ (λ (x y : List ℕ). x ++ y) (first_column b) (r.within k 14 1 (omega arith) (omega arith) (omega arith))
        ∙ sym (append_assoc (shown b) (spaced (take 15 bs)) (lines_of k (drop 15 bs)))

    within : (k n c : ℕ) → 0 < c → c + suc n ≡ 16 → suc (length bs) ≤ k → ended c (b ∷ bs) ≡ spaced (b ∷ take n bs) ++ lines_of k (drop n bs)
    within k zero c p e l =
        let z : c ≡ 15 = omega arith in
        rw z (ended-on 15 b bs ∙ ap (λ (x : List ℕ). in_column 15 b ++ x) (r.lined k (omega arith)))
    within k (suc n) c p e l =
        let z : column_after c 1 ≡ c + 1 = omega arith in
        ended-on c b bs
        ∙ ap₂ (λ (x y : List ℕ). x ++ y) (mid_column c b p (omega arith)) (ap (λ (d : ℕ). ended d bs) z ∙ r.within k n (c + 1) (omega arith) (omega arith) (omega arith))
        ∙ sym (append_assoc (space ∷ shown b) (spaced (take (suc n) bs)) (lines_of k (drop (suc n) bs)))

rest : (bs : List Byte) → Rest bs
rest [] = rest_none
rest (b ∷ bs) = rest-on b bs (rest bs)

pub byte_by_byte : ByteByByte
unfolding exported
byte_by_byte bs = (rest bs).lined (length bs) (omega arith)

pub ended-length : (c : ℕ) (b : Byte) (bs : List Byte) → length (ended c (b ∷ bs)) ≡ length (in_column c b) + length (ended (column_after c 1) bs)
ended-length c b bs = ap (λ (t : List ℕ). length t) (ended-on c b bs) ∙ length-append (in_column c b) (ended (column_after c 1) bs)

-- A turn of a loop that puts bytes one by one: this byte, and then those to come with the end of the last line.
pub ended_turn : (c : ℕ) (b : Byte) (bs : List Byte) (at : ℕ) (room : List ℕ) {room' : List ℕ} → at + length (ended c (b ∷ bs)) ≤ length room
    → room' ≡ pasted at (in_column c b) room
    → pasted (at + length (in_column c b)) (ended (column_after c 1) bs) room' ≡ pasted at (ended c (b ∷ bs)) room
ended_turn c b bs at room h e =
    let x : List ℕ = in_column c b in
    let y : List ℕ = ended (column_after c 1) bs in
    let z = ended-on c b bs in
    let l = ended-length c b bs in
    rw e (pasted_twice at x y room (omega arith)) ∙ ap (λ (t : List ℕ). pasted at t room) (sym z)

-- the four parts of a byte in its column
pub column_length : (c v : ℕ) (m : Bool)
    → length (in_column c (record { value = v; mark = m }))
    ≡ length (only_if (not (eqb c 0)) space) + 2 + length (only_if m bang) + length (only_if (eqb c (per_line - 1)) newline)
column_length c v m =
    let A : List ℕ = only_if (not (eqb c 0)) space in
    let C : List ℕ = only_if m bang in
    let D : List ℕ = only_if (eqb c (per_line - 1)) newline in
    omega (arith, length-append (A ++ hex_pair v ++ C) D, length-append (A ++ hex_pair v) C, length-append A (hex_pair v))

-- a byte takes five characters at most, with the space before it and the line's end behind it
pub only_one : (t : Bool) (c : ℕ) → length (only_if t c) ≤ 1
only_one true c = omega arith
only_one false c = omega arith

pub text_short : (c : ℕ) (bs : List Byte) → length (text_from c bs) ≤ 5 * length bs
unfolding text_from
text_short c [] = omega arith
text_short c (b ∷ bs) =
    omega (
      arith,
      length-append (in_column c b) (text_from (column_after c 1) bs),
      text_short (column_after c 1) bs,
      column_length c b.value b.mark,
      only_one (not (eqb c 0)) space,
      only_one b.mark bang,
      only_one (eqb c (per_line - 1)) newline,
    )

pub text_length : (c : ℕ) (b : Byte) (bs : List Byte) → length (text_from c (b ∷ bs)) ≡ length (in_column c b) + length (text_from (column_after c 1) bs)
unfolding text_from
text_length c b bs = length-append (in_column c b) (text_from (column_after c 1) bs)

-- this byte, and then those to come
pub text_turn : (c : ℕ) (b : Byte) (bs : List Byte) (at : ℕ) (room : List ℕ) {room' : List ℕ} → at + length (text_from c (b ∷ bs)) ≤ length room
    → room' ≡ pasted at (in_column c b) room
    → pasted (at + length (in_column c b)) (text_from (column_after c 1) bs) room' ≡ pasted at (text_from c (b ∷ bs)) room
unfolding text_from
text_turn c b bs at room h e =
    let l = text_length c b bs in
    rw e (pasted_twice at (in_column c b) (text_from (column_after c 1) bs) room (omega arith))

-- up to 16 bytes are one line
pub alone : (b : Byte) (bs : List Byte) → length bs ≤ 15 → exported (b ∷ bs) ≡ shown b ++ spaced bs
unfolding exported
alone b bs h =
    ap₂ (λ (x y : List Byte). shown b ++ spaced x ++ lines_of (length bs) y) (take_all 15 bs h) (drop_of_length-le bs {i = 15} h)
    ∙ ap (λ (l : List ℕ). shown b ++ spaced bs ++ l) (lines_none (length bs))
    ∙ append-nil (shown b ++ spaced bs)
