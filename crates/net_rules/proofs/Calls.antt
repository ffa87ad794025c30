-- What the calls on a valid record give, put together. Assumes nothing.
use mathlib.Core.Path.{◌≡◌, refl, sym, ap, ◌∙◌}
use mathlib.Core.List.{List, [], ◌∷◌, ◌++◌, map}
use mathlib.Core.Bool.{true, false, false≢true}
use mathlib.Core.Option.{some, none}
use Prim.Native.Nat.{ℕ, zero, suc, ◌+◌, ◌*◌, ◌-◌, ◌<◌, ◌≤◌}
use native.Mathlib.Omega.{arith}
use lib.Dec.{eqb}
use lib.ListN.{length, get_or, get_elem?, take, drop, replicate, length-map}
use Rattle.base_layout.specs.Bytes.{pasted, Bytes}
use lib.Seq.{drop-cons}
use Rattle.std.specs.Prelude.{Some}
use Rattle.line_receiver.specs.Receive.{idle}
use Rattle.line_receiver.specs.Frames.{Frame}
use Rattle.chain_rules.specs.Chain.{Net}
use Rattle.module_rules.specs.Slot.{station}
use Rattle.module_rules.specs.Slots.{slot_size, station_at}
use Rattle.types_rules.specs.Types.{kind, slots, powered, outputs, Module}
use Rattle.types_rules.proofs.Laws.{lawful, type_is, cause_is}
use Rattle.net_rules.specs.declared.Called.{Called}
use Rattle.net_rules.specs.declared.Walked.{Walked}
use Rattle.net_rules.specs.Record.{count_at, slots_at, record_size, receiver_bytes, net_in, stored, put_modules, valid, chain_most}
use Rattle.net_rules.specs.Walk.{module_at, walk_of, ended_of}
use Rattle.net_rules.specs.Calls.{fresh, is_of, of_type, outputs_in, outputs_at, cause_in, cause_at}
use Rattle.net_rules.proofs.Valid.{valid_is}
use Rattle.net_rules.proofs.Exact.{module_at_lem, length-modules}
use Rattle.net_rules.proofs.Ahead.{place_ok}

-- a place of the chain has its slot within the record, and the slot is valid
pub record Placed (s : List ℕ) (place : ℕ) : Type 0 where
  pub size : length s ≡ record_size
  pub most : get_or s count_at 0 ≤ chain_most
  pub below : place < get_or s count_at 0
  pub good : slots.ok (take slot_size (drop (slots_at + slot_size * place) s)) ≡ true

pub placed : (s : List ℕ) (place : ℕ) → valid slots s ≡ true → place < length (net_in slots s).modules → Placed s place
placed s place v h =
    let w = valid_is slots s v in
    let l : place < get_or s count_at 0 = omega (arith, length-modules slots s) in
    record { size = w.size; most = w.most; below = l; good = place_ok lawful place (get_or s count_at 0) slots_at s l w.slots }

-- what a frame that ended hands back, from the walk
pub handed_on : (f : Frame) (n : ℕ) (s : List ℕ) {w : Walked} → w ≡ walk_of f n s
    → ◌≡◌ {A = Called} (record { ended = Some f.damaged; written = w.written; lengths = w.lengths }) (ended_of f n s)
unfolding walk_of ended_of
handed_on f n s e = ap (λ (w : Walked). record { ended = Some f.damaged; written = w.written; lengths = w.lengths }) e

-- beyond the chain there is no module
none_beyond : {A : Type 0} (xs : List A) (i : ℕ) → (i < length xs → ⊥) → get_elem? xs i ≡ none
none_beyond [] i h = refl
none_beyond (x ∷ xs) zero h = absurd (h (omega arith))
none_beyond (x ∷ xs) (suc i) h = none_beyond xs i (λ l. h (omega arith))

pub type_beyond : (s : List ℕ) (place t : ℕ) → (place < length (net_in slots s).modules → ⊥) → false ≡ of_type t (net_in slots s) place
type_beyond s place t h = sym (ap (is_of t) (none_beyond (net_in slots s).modules place h))

pub of_type_below : (n : Net Module) (place t : ℕ) → of_type t n place ≡ true → place < length n.modules
of_type_below n place t e = at n.modules place e
  where
    at : (ms : List Module) (i : ℕ) → is_of t (get_elem? ms i) ≡ true → i < length ms
    at [] i e = absurd (false≢true e)
    at (m ∷ ms) zero e = omega arith
    at (m ∷ ms) (suc i) e = let h = at ms i e in omega arith

module _ (s : List ℕ) (b : Bytes s) (v : valid slots s ≡ true) where
  -- the slot of a place, as the code reads it
  abbrev part_at : ℕ → List ℕ
  part_at place = take (slots_at + slot_size * place + slot_size - (slots_at + slot_size * place)) (drop (slots_at + slot_size * place) s)

  -- the first byte of a slot is its module's type
  pub type_at : (place t : ℕ) → place < length (net_in slots s).modules → eqb (get_or s (slots_at + slot_size * place) 0) t ≡ of_type t (net_in slots s) place
  unfolding module_at
  type_at place t h =
      let p = placed s place v h in
      let at : ℕ = slots_at + slot_size * place in
      let first : get_or (take slot_size (drop at s)) 0 0 ≡ get_or s at 0 = ap (λ (l : List ℕ). get_or (take slot_size l) 0 0) (drop-cons s at 0 (omega (arith, p))) in
      ap (λ (n : ℕ). eqb n t) (sym first ∙ type_is (take slot_size (drop at s)) p.good)
      ∙ sym (ap (is_of t) (module_at_lem kind lawful s b v place p.below))

  -- the slot of a place, as a part of the record, holds the module there
  held_at : (place : ℕ) → place < get_or s count_at 0 → some (slots.dec (part_at place)) ≡ get_elem? (net_in slots s).modules place
  unfolding module_at
  held_at place h =
      let n : slots_at + slot_size * place + slot_size - (slots_at + slot_size * place) ≡ slot_size = omega arith in
      ap (λ (k : ℕ). some (slots.dec (take k (drop (slots_at + slot_size * place) s)))) n ∙ sym (module_at_lem kind lawful s b v place h)

  -- what the board drives
  pub outputs_is : (place : ℕ) {r : List ℕ} → place < get_or s count_at 0 → r ≡ outputs (slots.dec (part_at place)) → r ≡ outputs_at (net_in slots s) place
  outputs_is place h e = e ∙ ap outputs_in (held_at place h)

  -- the last cause
  pub cause_at_lem : (place : ℕ) {r : ℕ} → place < get_or s count_at 0 → r ≡ (station.codec.dec station_at (part_at place)).cause → r ≡ cause_at (net_in slots s) place
  cause_at_lem place h e = e ∙ sym (cause_is (part_at place)) ∙ ap cause_in (held_at place h)

-- setup: a cleared record, its head, its modules
pub set_up_is : (s types : List ℕ) {x y z : List ℕ} → length s ≡ record_size → x ≡ replicate (length s) 0
    → y ≡ pasted 0 (receiver_bytes idle ++ length types ∷ []) x → z ≡ put_modules slots (map powered types) slots_at y → z ≡ fresh types
unfolding fresh stored
set_up_is s types l ex ey ez =
    ez
    ∙ ap (put_modules slots (map powered types) slots_at)
    (ey
    ∙ ap (pasted 0 (receiver_bytes idle ++ length types ∷ [])) (ex ∙ ap (λ (k : ℕ). replicate k 0) l)
    ∙ ap (λ (n : ℕ). pasted 0 (receiver_bytes idle ++ n ∷ []) (replicate record_size 0)) (sym (length-map types powered)))
