-- Lines of 16 bytes, upper case, pieces, and the examples. Assumes nothing.
use mathlib.Core.Path.{◌≡◌, refl, sym, ap, ap₂, subst⁻¹, ◌∙◌}
use mathlib.Core.List.{List, [], ◌∷◌, ◌++◌}
use mathlib.Core.Bool.{Bool, true, false, cond}
use Prim.Native.Nat.{ℕ, zero, suc, ◌+◌, ◌-◌, ◌/◌, ◌%◌, ◌<◌, ◌≤◌}
use native.Mathlib.Omega.{arith}
use lib.ListN.{length, get_or, take, drop, length-append, length-drop}
use lib.Seq.{take_at, drop-append_seam}
use lib.Dec.{ltb}
use Rattle.base_text.specs.Digits.{space, newline, hex_digit, hex_pair}
use Rattle.line_receiver.specs.Frames.{Byte}
use Rattle.text_rules.specs.Text.{bang, OneLine}
use Rattle.text_rules.specs.Fold.{folded}
use Rattle.text_rules.specs.Export.{per_line, only_if, shown, spaced, lines_of, exported}
use Rattle.text_rules.specs.Import.{value_of, step, is_text}
use Rattle.text_rules.specs.Promises.{Small, SixteenALine, NoLowerCase, InPieces, Examples}
use Rattle.text_rules.proofs.Folding.{pieces_is}
use Rattle.text_rules.proofs.Export.{line-shown, small_take, small_drop}
use Rattle.text_rules.proofs.Columns.{alone}

pub in_pieces : InPieces
in_pieces S f s ps = pieces_is f s ps

pub examples : Examples
unfolding folded step value_of is_text exported
examples = record {
  line = refl;
  lines = refl;
  nothing = (refl, refl);
  blank = refl;
  second = refl;
  trailing = refl;
  spaces = refl;
  mark = refl;
  marks = refl;
  return = refl;
  tab = refl;
  long = refl;
  byte = (refl, refl);
  digit = (refl, refl);
  space = (refl, refl);
  shown = refl;
  recorded = refl;
}

-- any number of lines that is enough gives the same
lines_same : (k j : ℕ) (bs : List Byte) → length bs ≤ k → length bs ≤ j → lines_of k bs ≡ lines_of j bs
lines_same zero zero bs h g = refl
lines_same zero (suc j) [] h g = refl
lines_same zero (suc j) (b ∷ bs) h g = absurd (omega arith)
lines_same (suc k) zero [] h g = refl
lines_same (suc k) zero (b ∷ bs) h g = absurd (omega arith)
lines_same (suc k) (suc j) [] h g = refl
lines_same (suc k) (suc j) (b ∷ bs) h g =
    let l = length-drop (per_line - 1) bs in
    ap (λ (t : List ℕ). shown b ++ spaced (take (per_line - 1) bs) ++ t) (lines_same k j (drop (per_line - 1) bs) (omega arith) (omega arith))

one_line : (bs : List Byte) → 1 ≤ length bs → length bs ≤ 16 → Small bs → OneLine (exported bs) bs
one_line [] h g s = absurd (omega arith)
one_line (b ∷ bs) h g s = subst⁻¹ (λ (l : List ℕ). OneLine l (b ∷ bs)) (alone b bs (omega arith)) (line-shown b bs s)

sixteen_more : (bs cs : List Byte) → length bs ≡ 16 → exported (bs ++ cs) ≡ exported bs ++ exported cs
unfolding exported
sixteen_more [] cs h = absurd (omega arith)
sixteen_more (b ∷ bs) cs h =
    let l = length-append bs cs in
    let n : length bs ≡ 15 = omega arith in
    let d : drop 15 (bs ++ cs) ≡ cs = ap (λ (k : ℕ). drop k (bs ++ cs)) (sym n) ∙ drop-append_seam bs cs in
    ap₂ (λ (x y : List Byte). shown b ++ spaced x ++ lines_of (length (bs ++ cs)) y) (take_at bs cs 15 n) d
    ∙ ap (λ (l : List ℕ). shown b ++ spaced bs ++ l) (lines_same (length (bs ++ cs)) (length cs) cs (omega arith) (omega arith))
    ∙ ap (λ (l : List ℕ). l ++ lines_of (length cs) cs) (sym (alone b bs (omega arith)))

pub sixteen_a_line : SixteenALine
unfolding exported
sixteen_a_line = record { none = refl; line = one_line; more = sixteen_more }

-- every character is below the letter a
abbrev Below : List ℕ → Type 0
Below t = (i : ℕ) → get_or t i 0 < 97

below_on : (c : ℕ) (t : List ℕ) → c < 97 → Below t → Below (c ∷ t)
below_on c t h g zero = h
below_on c t h g (suc i) = g i

below_append : (t u : List ℕ) → Below t → Below u → Below (t ++ u)
below_append [] u h g i = g i
below_append (c ∷ t) u h g zero = h zero
below_append (c ∷ t) u h g (suc i) = below_append t u (λ i. h (suc i)) g i

below_none : Below []
below_none i = omega arith

below_digit : (d : ℕ) → d < 16 → hex_digit d < 97
below_digit d h = go (ltb d 10)
  where
    go : (q : Bool) → cond q (48 + d) (55 + d) < 97
    go true = omega arith
    go false = omega arith

below_shown : (b : Byte) → b.value < 256 → Below (shown b)
below_shown b h =
    let v : ℕ = b.value in
    below_append (hex_pair v) (only_if b.mark bang) (below_on (hex_digit (v / 16)) (hex_digit (v % 16) ∷ []) (below_digit (v / 16) (omega arith)) (below_on (hex_digit (v % 16)) [] (below_digit (v % 16) (omega arith)) below_none))
    (go b.mark)
  where
    go : (m : Bool) → Below (only_if m bang)
    go true = below_on bang [] (omega arith) below_none
    go false = below_none

below_spaced : (bs : List Byte) → Small bs → Below (spaced bs)
below_spaced [] h i = below_on newline [] (omega arith) below_none i
below_spaced (b ∷ bs) h i =
    below_on space (shown b ++ spaced bs) (omega arith) (λ j. below_append (shown b) (spaced bs) (λ k. below_shown b (h 0) k) (λ k. below_spaced bs (λ m. h (suc m)) k) j) i

below_lines : (k : ℕ) (bs : List Byte) → Small bs → Below (lines_of k bs)
below_lines zero bs h i = below_none i
below_lines (suc k) [] h i = below_none i
below_lines (suc k) (b ∷ bs) h i =
    let tail : Small bs = λ j. h (suc j) in
    below_append (shown b ++ spaced (take (per_line - 1) bs)) (lines_of k (drop (per_line - 1) bs))
    (λ j. below_append (shown b) (spaced (take (per_line - 1) bs)) (λ m. below_shown b (h 0) m) (λ m. below_spaced (take (per_line - 1) bs) (small_take (per_line - 1) bs tail) m) j)
    (λ j. below_lines k (drop (per_line - 1) bs) (small_drop (per_line - 1) bs tail) j)
    i

pub no_lower_case : NoLowerCase
unfolding exported
no_lower_case bs h i = below_lines (length bs) bs h i
