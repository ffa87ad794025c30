-- Lengths by the grammar, records and bytes, and the normal form. Assumes nothing.
use mathlib.Core.Path.{◌≡◌, refl, ap, ap₂, ◌∙◌}
use mathlib.Core.List.{List, [], ◌∷◌, ◌++◌}
use mathlib.Core.Bool.{Bool, true}
use Prim.Native.Nat.{ℕ, zero, suc, ◌+◌, ◌*◌, ◌-◌, ◌<◌, ◌≤◌}
use native.Mathlib.Omega.{arith}
use borrow.Author.Tests.{ne_eqb}
use lib.ListN.{length, length-append}
use lib.Dec.{eqb}
use Rattle.base_text.specs.Digits.{space, newline}
use Rattle.line_receiver.specs.Frames.{Byte}
use Rattle.text_rules.specs.declared.Read.{Read}
use Rattle.text_rules.specs.Text.{bang, Hex, figure, upper, lower, OneByte, plain, marked, OneLine, last, next, Text, empty, lines}
use Rattle.text_rules.specs.Records.{mark_of, records, marks}
use Rattle.text_rules.specs.Export.{exported}
use Rattle.text_rules.specs.Import.{Stage, read_text, whole_by, is_text, stage_of, CameTo}
use Rattle.text_rules.specs.Promises.{Small, NormalForm, normal, occurs, Lengths, LineRecords}
use Rattle.text_rules.proofs.Hexed.{hex_small}
use Rattle.text_rules.proofs.Accepted.{accepts}
use Rattle.text_rules.proofs.ThereAndBack.{taken, given}
use Rattle.text_rules.proofs.Export.{is_text_lem, length_exported}

-- lengths
length-byte : {t : List ℕ} {b : Byte} → OneByte t b → length t ≡ 2 + mark_of b.mark
length-byte (plain p q) = refl
length-byte (marked p q) = refl

marks-append : (bs cs : List Byte) → marks (bs ++ cs) ≡ marks bs + marks cs
marks-append [] cs = omega arith
marks-append (b ∷ bs) cs = omega (arith, marks-append bs cs)

length-line : {t : List ℕ} {bs : List Byte} → OneLine t bs → length t ≡ 3 * length bs + marks bs
length-line (last {t = t} b) = omega (arith, length-append t (newline ∷ []), length-byte b)
length-line (next {t = t} {u = u} b l) = omega (arith, length-append t (space ∷ u), length-byte b, length-line l)

length_text : {t : List ℕ} {bs : List Byte} → Text t bs → length t ≡ 3 * length bs + marks bs
length_text empty = refl
length_text (lines {t = t} {u = u} {bs = bs} {cs = cs} l x) =
    omega (arith, length-append t u, length-append bs cs, marks-append bs cs, length-line l, length_text x)

-- exclamation marks
occurs-append : (c : ℕ) (t u : List ℕ) → occurs c (t ++ u) ≡ occurs c t + occurs c u
occurs-append c [] u = omega arith
occurs-append c (x ∷ xs) u = omega (arith, occurs-append c xs u)

no_bang : {c d : ℕ} → Hex c d → mark_of (eqb c bang) ≡ 0
no_bang {c} (figure h e) = rw (ne_eqb c bang (λ z. omega arith))
no_bang {c} (upper g h e) = rw (ne_eqb c bang (λ z. omega arith))
no_bang {c} (lower g h e) = rw (ne_eqb c bang (λ z. omega arith))

bangs_byte : {t : List ℕ} {b : Byte} → OneByte t b → occurs bang t ≡ mark_of b.mark
bangs_byte (plain p q) = omega (arith, no_bang p, no_bang q)
bangs_byte (marked p q) = omega (arith, no_bang p, no_bang q)

bangs_line : {t : List ℕ} {bs : List Byte} → OneLine t bs → occurs bang t ≡ marks bs
bangs_line (last {t = t} b) = omega (arith, occurs-append bang t (newline ∷ []), bangs_byte b)
bangs_line (next {t = t} {u = u} b l) = omega (arith, occurs-append bang t (space ∷ u), bangs_byte b, bangs_line l)

bangs_text : {t : List ℕ} {bs : List Byte} → Text t bs → occurs bang t ≡ marks bs
bangs_text empty = refl
bangs_text (lines {t = t} {u = u} {bs = bs} {cs = cs} l x) =
    omega (arith, occurs-append bang t u, marks-append bs cs, bangs_line l, bangs_text x)

pub length-records : (bs : List Byte) → length (records bs) ≡ 3 * length bs
length-records [] = refl
length-records (b ∷ bs) = omega (arith, length-records bs)

pub lengths : Lengths
lengths = record { text = length_text; bangs = bangs_text; records = length-records; exported = length_exported }

pub line_records : LineRecords
line_records = record { taken = taken; given = given }

-- the bytes of a text are bytes
small_byte : {t : List ℕ} {b : Byte} → OneByte t b → b.value < 256
small_byte (plain p q) = omega (arith, hex_small p, hex_small q)
small_byte (marked p q) = omega (arith, hex_small p, hex_small q)

small_append : (bs cs : List Byte) → Small bs → Small cs → Small (bs ++ cs)
small_append [] cs h k i = k i
small_append (b ∷ bs) cs h k zero = h zero
small_append (b ∷ bs) cs h k (suc i) = small_append bs cs (λ i. h (suc i)) k i

small_line : {t : List ℕ} {bs : List Byte} → OneLine t bs → Small bs
small_line (last b) zero = small_byte b
small_line (last b) (suc i) = omega arith
small_line (next b l) zero = small_byte b
small_line (next b l) (suc i) = small_line l i

pub small_text : {t : List ℕ} {bs : List Byte} → Text t bs → Small bs
small_text empty i = omega arith
small_text (lines {bs = bs} {cs = cs} l t) i = small_append bs cs (λ j. small_line l j) (λ j. small_text t j) i

pub normal_form : NormalForm
normal_form t e =
    let bs : List Byte = (read_text t).bytes in
    let x = (accepts t bs).1 (e, refl) in
    let n = (accepts (normal t) bs).0 (is_text_lem bs (small_text x)) in
    record { text = n.0; same = n.1; fixed = ap exported n.1 }

-- the reader's structs say whether a text is one, and a text is as long as its records at least
pub whole_is : (t : List ℕ) {r : Read} {b : Bool} → CameTo r (read_text t) → b ≡ whole_by (stage_of r.reader) r.count (length t) → b ≡ is_text t
unfolding is_text
whole_is t e f = f ∙ ap₂ (λ (s : Stage) (n : ℕ). whole_by s n (length t)) e.stage e.count

pub records_fit : (t : List ℕ) → is_text t ≡ true → 3 * length (read_text t).bytes ≤ length t
records_fit t e = omega (arith, length_text ((accepts t (read_text t).bytes).1 (e, refl)))
