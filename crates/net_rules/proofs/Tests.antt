-- Tests that hold together, and tests made in turn. Assumes nothing.
use mathlib.Core.Path.{◌≡◌, refl, sym, ap, ◌∙◌}
use mathlib.Core.List.{List, [], ◌∷◌, map}
use mathlib.Core.Bool.{Bool, true, false, cond, ◌&&◌, and_assoc, and-true as and-nothing}
use Prim.Native.Nat.{ℕ, zero, suc, ◌+◌, ◌-◌, ◌/◌, ◌<◌, ◌≤◌}
use native.Mathlib.Numerals.{add-one}
use native.Mathlib.Omega.{arith}
use lib.ListN.{length, get_or, take, drop, drop_of_length-le}
use lib.Seq.{drop-cons, drop-drop}
use lib.Dec.{eqb, leb}
use borrow.Author.Tests.{eq-eqb}
use Rattle.base_layout.specs.Bytes.{read_at}
use Rattle.base_layout.specs.Every.{every, every_from}
use Rattle.module_rules.specs.Slots.{Slots, slot_size}
use Rattle.types_rules.specs.Types.{known}
use Rattle.net_rules.specs.Calls.{all_known, all_marks}
use Rattle.net_rules.specs.Record.{blank, ok_receiver, ok_slots, receiver_size, fill_at, command_at, marked_at}

pub cond_true : (a b : Bool) → cond a b false ≡ true → (a ≡ true) × (b ≡ true)
cond_true true b e = (refl, e)
cond_true false b e = let z : false ≡ true = e in (z, cc)

pub and-true : (a b : Bool) → (a && b) ≡ true → (a ≡ true) × (b ≡ true)
and-true true b e = (refl, e)
and-true false b e = let z : false ≡ true = e in (z, cc)

module _ {M : Type 0} (L : Slots M) where
  -- a turn of the loop that tests the slots
  pub slots_turn : (k at : ℕ) (s : List ℕ) {r : Bool} → 0 < k → r ≡ L.ok (take (at + slot_size - at) (drop at s))
      → (r && ok_slots L (k - 1) (drop (at + slot_size) s)) ≡ ok_slots L k (drop at s)
  unfolding ok_slots
  slots_turn zero at s h e = absurd (omega arith)
  slots_turn (suc k) at s h e =
      let n : at + slot_size - at ≡ slot_size = omega arith in
      let m : suc k - 1 ≡ k = omega arith in
      rw (e, n, m, drop-drop slot_size at s)

  pub slots-done : (at : ℕ) (s : List ℕ) → ok_slots L 0 (drop at s) ≡ true
  unfolding ok_slots
  slots-done at s = refl

-- bytes tested one after another
blank_from : (bs : List ℕ) (a : Bool) → every_from a (map (λ b. eqb b 0) bs) ≡ (a && blank bs)
blank_from [] true = refl
blank_from [] false = refl
blank_from (b ∷ bs) a = blank_from bs (a && eqb b 0) ∙ and_assoc a (eqb b 0) (blank bs)

pub blank-every : (bs : List ℕ) → every (map (λ b. eqb b 0) bs) ≡ blank bs
blank-every [] = refl
blank-every (b ∷ bs) = blank_from bs (eqb b 0)

-- an idle receiver is tested for being blank
pub idle_test : (s : List ℕ) {r : Bool} → get_or s fill_at 0 ≡ 0 → r ≡ blank (read_at receiver_size 0 s) → r ≡ ok_receiver s
unfolding ok_receiver
idle_test s z e =
    e ∙ sym (ap (λ (b : Bool). cond b (blank (read_at receiver_size 0 s)) (leb (get_or s fill_at 0) (3 + get_or s command_at 0 / 16) && leb (get_or s marked_at 0) 1)) (eq-eqb (get_or s fill_at 0) 0 z))

-- a turn of the loop that looks for an unknown type
pub known_turn : (ts : List ℕ) (i : ℕ) → i < length ts → all_known (drop i ts) ≡ (known (get_or ts i 0) && all_known (drop (i + 1) ts))
known_turn ts i h = rw (add-one i, drop-cons ts i 0 h)

-- marks: those looked at so far are good, and those that are left
pub marks_turn : (ms : List ℕ) (i : ℕ) (so_far : Bool) {all : Bool} → i < length ms → (so_far && all_marks (drop i ms)) ≡ all
    → ((so_far && leb (get_or ms i 0) 1) && all_marks (drop (i + 1) ms)) ≡ all
unfolding all_marks
marks_turn ms i so_far h e = and_assoc so_far (leb (get_or ms i 0) 1) (all_marks (drop (i + 1) ms)) ∙ rw (add-one i) (rw (drop-cons ms i 0 h) at e)

pub marks_over : (ms : List ℕ) (i : ℕ) (so_far : Bool) {all : Bool} → length ms ≤ i → (so_far && all_marks (drop i ms)) ≡ all → so_far ≡ all
unfolding all_marks
marks_over ms i so_far h e = let z : drop i ms ≡ [] = drop_of_length-le ms {i = i} h in sym (and-nothing so_far) ∙ rw z at e
