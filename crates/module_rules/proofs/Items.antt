-- The chosen items, one after another. Assumes nothing.
use mathlib.Core.Path.{◌≡◌, refl, sym, ap, ◌∙◌}
use mathlib.Core.List.{List, [], ◌∷◌, ◌++◌}
use mathlib.Core.Bool.{Bool, true, false}
use Prim.Native.Nat.{ℕ, zero, suc, ◌+◌, ◌-◌, ◌/◌, ◌%◌, ◌<◌, ◌≤◌}
use native.Mathlib.Nat.{zero-add}
use native.Mathlib.Numerals.{add-one}
use native.Mathlib.Omega.{arith}
use lib.ListN.{length, get_or, take, drop, set, length-append}
use lib.Seq.{drop-cons}
use lib.Dec.{eqb}
use Rattle.base_layout.specs.Bytes.{pasted}
use Rattle.base_layout.proofs.Laws.{length-le}
use Rattle.base_layout.proofs.Pasted.{pasted_one, pasted_twice, length-pasted, read_pasted}
use Rattle.line_receiver.specs.Receive.{total}
use Rattle.module_rules.specs.Report.{item, chosen, report}
use Rattle.module_rules.specs.Owes.{AtMostFour}

pub item_short : (t : Bool) (k x : ℕ) → length (item t k x) ≤ k
item_short true k x = omega (arith, length-le k x)
item_short false k x = omega arith

-- no more bytes than all sizes together
pub chosen_short : (b : ℕ) (ks xs : List ℕ) → length (chosen b ks xs) ≤ total ks
chosen_short b [] xs = omega arith
chosen_short b (k ∷ ks) [] = omega arith
chosen_short b (k ∷ ks) (x ∷ xs) =
    let t : Bool = eqb (b % 2) 1 in
    omega (arith, length-append (item t k x) (chosen (b / 2) ks xs), item_short t k x, chosen_short (b / 2) ks xs)

pub total-drop : (ks : List ℕ) (i : ℕ) → i < length ks → total (drop i ks) ≡ get_or ks i 0 + total (drop (i + 1) ks)
total-drop ks i h = rw (add-one i, drop-cons ks i 0 h)

module _ (room ks xs : List ℕ) (at b i : ℕ) (hk : i < length ks) (hx : i < length xs) (fits : at + total (drop i ks) ≤ length room) where
  first : List ℕ
  first = item (eqb (b % 2) 1) (get_or ks i 0) (get_or xs i 0)

  rest : List ℕ
  rest = chosen (b / 2) (drop (i + 1) ks) (drop (i + 1) xs)

  both : chosen b (drop i ks) (drop i xs) ≡ first ++ rest
  unfolding first rest
  both = rw (add-one i, drop-cons ks i 0 hk, drop-cons xs i 0 hx)

  -- a turn of the loop that puts the items
  pub turn : (at + length (item (eqb (b % 2) 1) (get_or ks i 0) (get_or xs i 0)) + total (drop (i + 1) ks) ≤ length room)
      × (pasted (at + length (item (eqb (b % 2) 1) (get_or ks i 0) (get_or xs i 0))) (chosen (b / 2) (drop (i + 1) ks) (drop (i + 1) xs))
      (pasted at (item (eqb (b % 2) 1) (get_or ks i 0) (get_or xs i 0)) room)
      ≡ pasted at (chosen b (drop i ks) (drop i xs)) room)
      × (at + length (item (eqb (b % 2) 1) (get_or ks i 0) (get_or xs i 0)) + length (chosen (b / 2) (drop (i + 1) ks) (drop (i + 1) xs))
      ≡ at + length (chosen b (drop i ks) (drop i xs)))
  unfolding first rest
  turn =
      let l = item_short (eqb (b % 2) 1) (get_or ks i 0) (get_or xs i 0) in
      let r = chosen_short (b / 2) (drop (i + 1) ks) (drop (i + 1) xs) in
      let z = total-drop ks i hk in (
        omega arith,
        pasted_twice at first rest room (omega arith) ∙ ap (λ (x : List ℕ). pasted at x room) (sym both),
        omega (arith, length-append first rest, ap length both),
      )

-- what the calls of put_report give, put together
module _ (room ks xs : List ℕ) (from status items : ℕ) (fits : from + 2 + total ks ≤ length room) {end : ℕ} {after : List ℕ}
    (ends : end ≡ from + 1 + length (chosen items ks xs)) (puts : after ≡ pasted (from + 1) (chosen items ks xs) (set room from status)) where
  body : List ℕ
  body = status ∷ chosen items ks xs

  length_body : end ≡ from + length body
  unfolding body
  length_body = omega arith

  body_put : after ≡ pasted from body room
  unfolding body
  body_put =
      let s = chosen_short items ks xs in
      puts ∙ rw (pasted_one from status room (omega arith)) (pasted_twice from (status ∷ []) (chosen items ks xs) room (omega arith))

  pub end_is : (end < length room) × (length after ≡ length room) × (from ≤ end)
  unfolding body
  end_is =
      let s = chosen_short items ks xs in
      (omega arith, rw body_put (length-pasted from body room (omega (arith, length_body))), omega arith)

  pub report_is : {sum : ℕ} → sum ≡ (0 + total (take (end - from) (drop from after))) % 256
      → (end + 1 - from ≡ length (report status items ks xs)) × (set after end sum ≡ pasted from (report status items ks xs) room)
  unfolding body report
  report_is {sum} e =
      let s = chosen_short items ks xs in
      let n : end - from ≡ length body = omega arith in
      let part : take (end - from) (drop from after) ≡ body = rw (n, body_put) (read_pasted from body room (omega arith)) in
      let sums : sum ≡ total body % 256 = e ∙ rw (part, zero-add) refl in
      let z = end_is in (
        omega (arith, length-append body (total body % 256 ∷ [])),
        pasted_one end sum after (omega arith)
            ∙ rw (length_body, sums, body_put) (pasted_twice from body (total body % 256 ∷ []) room (omega arith)),
      )

-- no item of at most four bytes each has more
pub at_most_four : (ks : List ℕ) → AtMostFour ks → (i : ℕ) → get_or ks i 0 ≤ 4
at_most_four [] h i = omega arith
at_most_four (k ∷ ks) h zero = h.0
at_most_four (k ∷ ks) h (suc i) = at_most_four ks h.1 i
