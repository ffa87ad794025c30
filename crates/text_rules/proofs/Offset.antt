-- Where what is no text stops being one: every stage can still be brought to an end, and a character that the step does not take ends no text.
-- Assumes nothing.
use mathlib.Core.Path.{◌≡◌, refl, sym, ap, ◌∙◌}
use mathlib.Core.List.{List, [], ◌∷◌, ◌++◌}
use mathlib.Core.Bool.{Bool, true, false, cond}
use mathlib.Core.Logic.{◌↔◌, ◌⊎◌, inl, inr}
use Prim.Native.Nat.{ℕ, suc, ◌+◌, ◌*◌, ◌<◌, ◌≤◌}
use native.Mathlib.Numerals.{add-one}
use native.Mathlib.Omega.{arith}
use borrow.Author.Tests.{ltb-true, ltb-false}
use lib.ListN.{length, take, length-append}
use lib.Seq.{length-take-le}
use lib.Dec.{ltb}
use Rattle.base_text.specs.Digits.{newline}
use Rattle.line_receiver.specs.Frames.{Byte}
use Rattle.text_rules.specs.Text.{Text, Begins}
use Rattle.text_rules.specs.Fold.{Reading, folded, joined}
use Rattle.text_rules.specs.Import.{Stage, Line, Space, Digit, Whole, Mark, value_of, step, read_from, read_text, is_text}
use Rattle.text_rules.specs.Promises.{FaultAt, BreaksOff, Offset}
use Rattle.text_rules.proofs.Folding.{fold-within, fold-append, fold_stops, fold-take}
use Rattle.text_rules.proofs.Accepted.{Goes, at_end, goes_more, goes_gives, text_goes, goes_text}

-- characters that bring a stage to an end, and the bytes that they give
record Ending (s : Stage) : Type 0 where
  rest : List ℕ
  bytes : List Byte
  goes : Goes s rest bytes

behind-byte : (b : ℕ) → Ending (Whole b)
unfolding step
behind-byte b = record { rest = newline ∷ []; bytes = record { value = b; mark = false } ∷ []; goes = goes_gives (Whole b) Line newline b false refl at_end }

behind-digit : (d : ℕ) → Ending (Digit d)
unfolding step value_of
behind-digit d =
    let e = behind-byte (16 * d + 0) in
    record { rest = 48 ∷ e.rest; bytes = e.bytes; goes = goes_more (Digit d) (Whole (16 * d + 0)) 48 refl e.goes }

ending : (s : Stage) → Ending s
unfolding step value_of
ending Line = record { rest = []; bytes = []; goes = at_end }
ending Space =
    let e = behind-digit 0 in
    record { rest = 48 ∷ e.rest; bytes = e.bytes; goes = goes_more Space (Digit 0) 48 refl e.goes }
ending (Digit d) = behind-digit d
ending (Whole b) = behind-byte b
ending Mark = record { rest = newline ∷ []; bytes = []; goes = goes_more Mark Line newline refl at_end }

-- so characters that are all taken begin a text
taken_begins : (p : List ℕ) → (read_text p).count ≡ length p → Begins p
taken_begins p h =
    let e = ending (read_text p).stage in
    let f = fold-append step Line p e.rest h in
    let g : Goes Line (p ++ e.rest) ((read_text p).bytes ++ e.bytes) = record {
      all = ap (λ (r : Reading Stage). r.count) f ∙ omega (arith, h, e.goes.all, length-append p e.rest);
      ends = ap (λ (r : Reading Stage). r.stage) f ∙ e.goes.ends;
      same = ap (λ (r : Reading Stage). r.bytes) f ∙ ap (λ (l : List Byte). (read_text p).bytes ++ l) e.goes.same;
    } in
    record { rest = e.rest; bytes = (read_text p).bytes ++ e.bytes; text = goes_text g }

some_begin : (t : List ℕ) (j : ℕ) → j < (read_text t).count → Begins (take (j + 1) t)
some_begin t j h =
    let w = fold-within step Line t in
    let k : j + 1 ≤ (read_text t).count = omega arith in
    taken_begins (take (j + 1) t) (fold-take step (j + 1) Line t k ∙ sym (length-take-le (j + 1) t (omega arith)))

none_begins : (t : List ℕ) → (read_text t).count < length t → Begins (take ((read_text t).count + 1) t) → ⊥
none_begins t h b =
    let k : ℕ = (read_text t).count in
    let g = text_goes b.text in
    let e : read_from Line (take (k + 1) t ++ b.rest) ≡ read_text t =
    ap (λ (n : ℕ). read_from Line (take n t ++ b.rest)) (add-one k) ∙ fold_stops step Line t b.rest h in
    let c : k ≡ length (take (k + 1) t ++ b.rest) = sym (ap (λ (r : Reading Stage). r.count) e) ∙ g.all in
    omega (arith, c, length-append (take (k + 1) t) b.rest, length-take-le (k + 1) t (omega arith))

-- the reader's number is one of the two, and only one number is
reached : (t : List ℕ) → FaultAt t (read_text t).count ⊎ BreaksOff t (read_text t).count
reached t = go (ltb (read_text t).count (length t)) refl
  where
    go : (q : Bool) → ltb (read_text t).count (length t) ≡ q → FaultAt t (read_text t).count ⊎ BreaksOff t (read_text t).count
    go true e = inl (record { within = ltb-true _ _ e; none = none_begins t (ltb-true _ _ e); least = some_begin t })
    go false e =
        let w : (read_text t).count ≡ length t = omega (arith, fold-within step Line t, ltb-false (read_text t).count (length t) e) in
        inr (record { whole = w; each = λ j h. some_begin t j (omega arith) })

equal : (a b : ℕ) → (a < b → ⊥) → (b < a → ⊥) → a ≡ b
equal a b h g = go (ltb a b) refl (ltb b a) refl
  where
    go : (p : Bool) → ltb a b ≡ p → (q : Bool) → ltb b a ≡ q → a ≡ b
    go true e q f = absurd (h (ltb-true a b e))
    go false e true f = absurd (g (ltb-true b a f))
    go false e false f = omega (arith, ltb-false a b e, ltb-false b a f)

only : (t : List ℕ) (j k : ℕ) → FaultAt t j ⊎ BreaksOff t j → FaultAt t k ⊎ BreaksOff t k → j ≡ k
only t j k (inl x) (inl y) = equal j k (λ h. x.none (y.least j h)) (λ h. y.none (x.least k h))
only t j k (inl x) (inr y) = absurd (x.none (y.each j x.within))
only t j k (inr x) (inl y) = absurd (y.none (x.each k y.within))
only t j k (inr x) (inr y) = x.whole ∙ sym y.whole

pub offset : Offset
offset t n k = (λ e. rw (← e) (reached t), λ h. only t (read_text t).count k (reached t) h)
