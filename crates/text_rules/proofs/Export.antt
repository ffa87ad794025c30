-- What is exported: a text of the grammar, its length, and the same text byte by byte. Assumes nothing.
use mathlib.Core.Path.{◌≡◌, refl, sym, ap, subst, ◌∙◌}
use mathlib.Core.List.{List, [], ◌∷◌, ◌++◌}
use mathlib.Core.Bool.{Bool, true, false, cond}
use Prim.Native.Nat.{ℕ, zero, suc, ◌+◌, ◌*◌, ◌-◌, ◌≤◌}
use native.Mathlib.Omega.{arith}
use lib.ListN.{length, take, drop, take-append-drop, length-append, length-drop}
use Rattle.base_text.specs.Digits.{hex_pair}
use Rattle.line_receiver.specs.Frames.{Byte}
use Rattle.text_rules.specs.Text.{bang, OneLine, last, next, Text, empty, lines}
use Rattle.text_rules.specs.Records.{mark_of, marks}
use Rattle.text_rules.specs.Export.{per_line, shown, spaced, lines_of, exported}
use Rattle.text_rules.specs.Promises.{Small, IsText}
use Rattle.text_rules.proofs.ByteShown.{byte-shown}

pub line-shown : (b : Byte) (bs : List Byte) → Small (b ∷ bs) → OneLine (shown b ++ spaced bs) (b ∷ bs)
line-shown b [] h = last (byte-shown b (h 0))
line-shown b (c ∷ bs) h = next (byte-shown b (h 0)) (line-shown c bs (λ i. h (suc i)))

-- parts of bytes with values of bytes
pub small_take : (n : ℕ) (bs : List Byte) → Small bs → Small (take n bs)
small_take zero bs h i = omega arith
small_take (suc n) [] h i = h i
small_take (suc n) (b ∷ bs) h zero = h zero
small_take (suc n) (b ∷ bs) h (suc i) = small_take n bs (λ i. h (suc i)) i

pub small_drop : (n : ℕ) (bs : List Byte) → Small bs → Small (drop n bs)
small_drop zero bs h i = h i
small_drop (suc n) [] h i = h i
small_drop (suc n) (b ∷ bs) h i = small_drop n bs (λ i. h (suc i)) i

lines-shown : (k : ℕ) (bs : List Byte) → length bs ≤ k → Small bs → Text (lines_of k bs) bs
lines-shown zero [] l h = empty
lines-shown zero (b ∷ bs) l h = absurd (omega arith)
lines-shown (suc k) [] l h = empty
lines-shown (suc k) (b ∷ bs) l h =
    let n : ℕ = per_line - 1 in
    let d = length-drop n bs in
    let small : Small (b ∷ take n bs) = small_take (suc n) (b ∷ bs) h in
    let t = lines (line-shown b (take n bs) small) (lines-shown k (drop n bs) (omega arith) (small_drop n bs (λ i. h (suc i)))) in
    subst (Text (lines_of (suc k) (b ∷ bs))) (ap (λ (l : List Byte). b ∷ l) (take-append-drop n bs)) t

pub is_text_lem : IsText
unfolding exported
is_text_lem bs h = lines-shown (length bs) bs (omega arith) h

-- lengths
length-shown : (b : Byte) → length (shown b) ≡ 2 + mark_of b.mark
length-shown b = go b.mark
  where
    go : (m : Bool) → length (hex_pair b.value ++ cond m (bang ∷ []) []) ≡ 2 + mark_of m
    go true = refl
    go false = refl

length-spaced : (bs : List Byte) → length (spaced bs) ≡ 3 * length bs + marks bs + 1
length-spaced [] = refl
length-spaced (b ∷ bs) = omega (arith, length-append (shown b) (spaced bs), length-shown b, length-spaced bs)

marks_parts : (n : ℕ) (bs : List Byte) → marks (take n bs) + marks (drop n bs) ≡ marks bs
marks_parts zero bs = omega arith
marks_parts (suc n) [] = refl
marks_parts (suc n) (b ∷ bs) = omega (arith, marks_parts n bs)

length_parts : (n : ℕ) (bs : List Byte) → length (take n bs) + length (drop n bs) ≡ length bs
length_parts n bs = sym (length-append (take n bs) (drop n bs)) ∙ ap (λ (l : List Byte). length l) (take-append-drop n bs)

length-lines : (k : ℕ) (bs : List Byte) → length bs ≤ k → length (lines_of k bs) ≡ 3 * length bs + marks bs
length-lines zero [] l = refl
length-lines zero (b ∷ bs) l = absurd (omega arith)
length-lines (suc k) [] l = refl
length-lines (suc k) (b ∷ bs) l =
    let n : ℕ = per_line - 1 in
    let d = length-drop n bs in
    let r = length-lines k (drop n bs) (omega arith) in
    omega (
      arith,
      r,
      length-append (shown b ++ spaced (take n bs)) (lines_of k (drop n bs)),
      length-append (shown b) (spaced (take n bs)),
      length-shown b,
      length-spaced (take n bs),
      marks_parts n bs,
      length_parts n bs,
    )

pub length_exported : (bs : List Byte) → length (exported bs) ≡ 3 * length bs + marks bs
unfolding exported
length_exported bs = length-lines (length bs) bs (omega arith)
