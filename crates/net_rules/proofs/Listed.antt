-- The list of samples that a tick takes: place by place, and a turn of each loop along it. Assumes nothing.
use mathlib.Core.Path.{◌≡◌, refl, sym, ap, subst, ◌∙◌}
use mathlib.Core.List.{List, [], ◌∷◌}
use mathlib.Core.Bool.{Bool, true, ◌&&◌}
use mathlib.Core.Option.{Option, some, none}
use Prim.Native.Nat.{ℕ, zero, suc, ◌+◌, ◌-◌, ◌*◌, ◌<◌}
use native.Mathlib.Nat.{add-zero, mul-suc}
use native.Mathlib.Omega.{arith}
use lib.Dec.{eqb}
use borrow.Author.Tests.{eq-eqb, eqb-true}
use lib.ListN.{length, get_or, get_elem?, take, drop}
use lib.Seq.{drop-cons, drop-drop, get_or-drop}
use Rattle.base_layout.specs.Bytes.{Bytes}
use Rattle.base_layout.proofs.Every.{every_hold, hold_every}
use Rattle.base_layout.proofs.Laws.{bytes_take, bytes_drop}
use Rattle.module_rules.specs.Slots.{slot_size, sample_size}
use Rattle.types_rules.specs.Types.{Module, type_of, slots, sample_in, in_range, Good}
use Rattle.types_rules.proofs.Laws.{lawful, type_is}
use Rattle.types_rules.proofs.Sampled.{good_in}
use Rattle.net_rules.specs.Record.{modules_in, ok_slots}
use Rattle.net_rules.specs.Calls.{samples_in, ten_at, all_typed, all_in_range}
use Rattle.net_rules.specs.Promises.{Each}
use Rattle.net_rules.proofs.Ahead.{turn_ok}

pub length_samples : (k : ℕ) (l : List ℕ) → length (samples_in k l) ≡ k
unfolding samples_in
length_samples zero l = refl
length_samples (suc k) l = ap suc (length_samples k (drop sample_size l))

-- samples in range are good ones
pub samples_good : (k : ℕ) (l : List ℕ) → Bytes l → all_in_range k l ≡ true → Each Good (samples_in k l)
unfolding samples_in all_in_range
samples_good zero l b e = tt
samples_good (suc k) l b e =
    let h = every_hold (in_range (take sample_size l) ∷ all_in_range k (drop sample_size l) ∷ []) e in
    (good_in (take sample_size l) (bytes_take sample_size l b) h.0, samples_good k (drop sample_size l) (bytes_drop sample_size l b) h.1.0)

-- the sample of a place is that of its ten bytes
pub sample_at_lem : (i k : ℕ) (l : List ℕ) → i < k → get_elem? (samples_in k l) i ≡ some (sample_in (ten_at l i))
unfolding samples_in
sample_at_lem i zero l h = absurd (omega arith)
sample_at_lem zero (suc k) l h = refl
sample_at_lem (suc i) (suc k) l h =
    let z : sample_size + sample_size * i ≡ sample_size * suc i = omega (arith, mul-suc sample_size i) in
    sample_at_lem i k (drop sample_size l) (omega arith)
    ∙ ap (λ (r : List ℕ). some (sample_in (take sample_size r))) (drop-drop (sample_size * i) sample_size l ∙ ap (λ (n : ℕ). drop n l) z)

-- a turn of the loop that compares types, with k modules to go before it
pub typed_turn : (k at from : ℕ) (s l : List ℕ) → 0 < k → at < length s → ok_slots slots k (drop at s) ≡ true
    → (eqb (get_or l from 0) (get_or s at 0) && all_typed (modules_in slots (k - 1) (drop (at + slot_size) s)) (drop (from + sample_size) l))
    ≡ all_typed (modules_in slots k (drop at s)) (drop from l)
unfolding all_typed modules_in
typed_turn zero at from s l h f v = absurd (omega arith)
typed_turn (suc k) at from s l h f v =
    let one : suc k - 1 ≡ k = omega arith in
    let slot : List ℕ = take slot_size (drop at s) in
    let first : get_or slot 0 0 ≡ get_or s at 0 = ap (λ (r : List ℕ). get_or (take slot_size r) 0 0) (drop-cons s at 0 f) in
    let here : get_or (drop from l) 0 0 ≡ get_or l from 0 = get_or-drop from l 0 0 ∙ ap (λ (n : ℕ). get_or l n 0) (add-zero from) in
    let type : type_of (slots.dec slot) ≡ get_or s at 0 = sym (type_is slot (turn_ok lawful (suc k) at s h v)) ∙ first in
    rw (one, here, type, drop-drop slot_size at s, drop-drop sample_size from l)

pub typed_done : (at : ℕ) (s l : List ℕ) → all_typed (modules_in slots 0 (drop at s)) l ≡ true
unfolding all_typed modules_in
typed_done at s l = refl

-- a turn of the loop that looks at the samples' fields
pub range_turn : (k from : ℕ) (l : List ℕ) {r : Bool} → 0 < k → r ≡ in_range (take (from + sample_size - from) (drop from l))
    → (r && all_in_range (k - 1) (drop (from + sample_size) l)) ≡ all_in_range k (drop from l)
unfolding all_in_range
range_turn zero from l h e = absurd (omega arith)
range_turn (suc k) from l h e =
    let n : from + sample_size - from ≡ sample_size = omega arith in
    let one : suc k - 1 ≡ k = omega arith in
    rw (e, n, one, drop-drop sample_size from l)

pub range_done : (l : List ℕ) → all_in_range 0 l ≡ true
unfolding all_in_range
range_done l = refl

-- every sample is of its module's type exactly if each is; n is the number that the sample of a place begins with
abbrev TypedBy : ℕ → Option Module → Type 0
TypedBy n none = Unit {0}
TypedBy n (some m) = n ≡ type_of m

typed_here : (ms : List Module) (l : List ℕ) → all_typed ms l ≡ true → (i : ℕ) → TypedBy (get_or l (sample_size * i) 0) (get_elem? ms i)
unfolding all_typed
typed_here [] l e i = tt
typed_here (k ∷ ms) l e zero = eqb-true _ _ (every_hold (eqb (get_or l 0 0) (type_of k) ∷ all_typed ms (drop sample_size l) ∷ []) e).0
typed_here (k ∷ ms) l e (suc i) =
    let h = every_hold (eqb (get_or l 0 0) (type_of k) ∷ all_typed ms (drop sample_size l) ∷ []) e in
    let z : sample_size + sample_size * i ≡ sample_size * suc i = omega (arith, mul-suc sample_size i) in
    subst (λ (n : ℕ). TypedBy n (get_elem? ms i)) (get_or-drop sample_size l (sample_size * i) 0 ∙ ap (λ (n : ℕ). get_or l n 0) z)
    (typed_here ms (drop sample_size l) h.1.0 i)

pub typed_each : (ms : List Module) (l : List ℕ) → all_typed ms l ≡ true → (i : ℕ) (m : Module) → get_elem? ms i ≡ some m → get_or l (sample_size * i) 0 ≡ type_of m
typed_each ms l e i m q = subst (TypedBy (get_or l (sample_size * i) 0)) q (typed_here ms l e i)

pub typed_all : (ms : List Module) (l : List ℕ) → ((i : ℕ) (m : Module) → get_elem? ms i ≡ some m → get_or l (sample_size * i) 0 ≡ type_of m) → all_typed ms l ≡ true
unfolding all_typed
typed_all [] l h = refl
typed_all (k ∷ ms) l h =
    hold_every (eqb (get_or l 0 0) (type_of k) ∷ all_typed ms (drop sample_size l) ∷ []) (
      eq-eqb _ _ (h 0 k refl),
      (
        typed_all ms (drop sample_size l) (λ i m q.
            let z : sample_size * suc i ≡ sample_size + sample_size * i = omega (arith, mul-suc sample_size i) in
            get_or-drop sample_size l (sample_size * i) 0 ∙ ap (λ (n : ℕ). get_or l n 0) (sym z) ∙ h (suc i) m q),
        tt,
      ),
    )

-- the fields of all samples are in range exactly if those of each are
pub range_each : (k : ℕ) (l : List ℕ) → all_in_range k l ≡ true → (i : ℕ) → i < k → in_range (ten_at l i) ≡ true
unfolding all_in_range
range_each zero l e i h = absurd (omega arith)
range_each (suc k) l e zero h = (every_hold (in_range (take sample_size l) ∷ all_in_range k (drop sample_size l) ∷ []) e).0
range_each (suc k) l e (suc i) h =
    let z : sample_size + sample_size * i ≡ sample_size * suc i = omega (arith, mul-suc sample_size i) in
    ap (λ (r : List ℕ). in_range (take sample_size r)) (sym (drop-drop (sample_size * i) sample_size l ∙ ap (λ (n : ℕ). drop n l) z))
    ∙ range_each k (drop sample_size l) (every_hold (in_range (take sample_size l) ∷ all_in_range k (drop sample_size l) ∷ []) e).1.0 i (omega arith)

pub range_all : (k : ℕ) (l : List ℕ) → ((i : ℕ) → i < k → in_range (ten_at l i) ≡ true) → all_in_range k l ≡ true
unfolding all_in_range
range_all zero l h = refl
range_all (suc k) l h =
    hold_every (in_range (take sample_size l) ∷ all_in_range k (drop sample_size l) ∷ []) (
      h 0 (omega arith),
      (
        range_all k (drop sample_size l) (λ i g.
            let z : sample_size + sample_size * i ≡ sample_size * suc i = omega (arith, mul-suc sample_size i) in
            ap (λ (r : List ℕ). in_range (take sample_size r)) (drop-drop (sample_size * i) sample_size l ∙ ap (λ (n : ℕ). drop n l) z) ∙ h (suc i) (omega arith)),
        tt,
      ),
    )
