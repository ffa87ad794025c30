-- Each line of the tick's table at its bounds, and what a tick makes of each place. Assumes nothing.
use mathlib.Core.Path.{◌≡◌, refl, sym, ap, ap₂, subst, ◌∙◌}
use mathlib.Core.List.{List, [], ◌∷◌}
use mathlib.Core.Bool.{Bool, true, false, not, ◌&&◌}
use mathlib.Core.Option.{Option, some, none, map}
use Prim.Native.Nat.{ℕ, zero, suc, ◌+◌, ◌*◌, ◌<◌}
use native.Mathlib.Nat.{add-zero}
use native.Mathlib.Omega.{arith}
use borrow.Author.Tests.{eq-eqb, ne_eqb, leb-true, leb-false}
use lib.ListN.{length, get_or, get_elem?, take, drop}
use lib.Seq.{get_or-take, get_or-drop}
use lib.Dec.{eqb, leb}
use Rattle.base_layout.specs.Bytes.{Bytes}
use Rattle.base_layout.specs.Every.{every}
use Rattle.base_layout.specs.First.{here, later}
use Rattle.base_layout.proofs.First.{none_first}
use Rattle.module_rules.specs.Slots.{measured_at}
use Rattle.types_rules.specs.Table.{ModuleType, servo, inout, stepper, rules_of, sample_of}
use Rattle.types_rules.specs.Types.{Module, AnySample, kind, slots, in_range}
use Rattle.types_rules.proofs.Dispatch.{type_at}
use Rattle.types_rules.proofs.Sampled.{own_tick_lem}
use Rattle.chain_rules.specs.Chain.{Net}
use Rattle.chain_rules.specs.Promises.{handed_in}
use Rattle.chain_rules.proofs.Timing.{own_sample}
use Rattle.net_rules.specs.Record.{net_in}
use Rattle.net_rules.specs.Calls.{ten_at, samples_for, all_typed, all_in_range}
use Rattle.net_rules.proofs.Tests.{and-true}
use Rattle.net_rules.proofs.Listed.{sample_at_lem, typed_each, typed_all, range_each, range_all}
use Rattle.api_rules.specs.Table.{tick_table}
use Rattle.api_rules.specs.TablePromises.{stands_at, chain_length, Far, TypedAt, TickBounds}
use Rattle.api_rules.specs.Promises.{OwnTen}
use Rattle.api_rules.proofs.Bounds.{gives}
use Rattle.api_rules.proofs.Refused.{tick_passes}
use Rattle.api_rules.proofs.Kept.{holds}

-- whether a module stands at a place, and whether the place is below the chain's length
Is : Option Module → Type 0
Is none = ⊥
Is (some m) = Unit {0}

is_below : (ms : List Module) (i : ℕ) → Is (get_elem? ms i) → i < length ms
unfolding Is
is_below [] i z = absurd z
is_below (m ∷ ms) zero z = omega arith
is_below (m ∷ ms) (suc i) z = let h = is_below ms i z in omega arith

below_is : (ms : List Module) (i : ℕ) → i < length ms → Is (get_elem? ms i)
unfolding Is
below_is [] i h = absurd (omega arith)
below_is (m ∷ ms) zero h = tt
below_is (m ∷ ms) (suc i) h = below_is ms i (omega arith)

some_below : (ms : List Module) (i : ℕ) (m : Module) → get_elem? ms i ≡ some m → i < length ms
unfolding Is
some_below ms i m e = is_below ms i (subst Is (sym e) tt)

-- what is not found to hold does not
refuted : (t : Bool) → (t ≡ true → ⊥) → t ≡ false
refuted true h = absurd (h refl)
refuted false h = refl

-- the ten bytes of a place
module _ (samples : List ℕ) (i : ℕ) where
  abbrev ten : List ℕ
  ten = take 10 (drop (10 * i) samples)

  byte_of : (j : ℕ) → j < 10 → get_or ten j 0 ≡ get_or samples (10 * i + j) 0
  byte_of j h = get_or-take 10 (drop (10 * i) samples) j 0 h ∙ get_or-drop (10 * i) samples j 0

  -- which test its fields stand, by its type
  tested : (t : ModuleType) → get_or samples (10 * i) 0 ≡ (rules_of t).number → in_range ten ≡ every ((sample_of t).codec.tests measured_at ten)
  tested t e =
      let first : get_or ten 0 0 ≡ (rules_of t).number = byte_of 0 (omega arith) ∙ ap (λ (n : ℕ). get_or samples n 0) (add-zero (10 * i)) ∙ e in
      ap (λ (u : ModuleType). every ((sample_of u).codec.tests measured_at ten)) (type_at (get_or ten 0 0) t first)

  servo_test : get_or samples (10 * i) 0 ≡ 0 → in_range ten ≡ (leb (get_or samples (10 * i + 1) 0) 2 && leb (get_or samples (10 * i + 7) 0) 3)
  servo_test e = tested servo e ∙ ap₂ (λ (n k : ℕ). leb n 2 && leb k 3) (byte_of 1 (omega arith)) (byte_of 7 (omega arith))

  inout_test : get_or samples (10 * i) 0 ≡ 2 → in_range ten ≡ leb (get_or samples (10 * i + 2) 0) 15
  inout_test e = tested inout e ∙ ap (λ (n : ℕ). leb n 15) (byte_of 2 (omega arith))

  stepper_test : get_or samples (10 * i) 0 ≡ 3 → in_range ten ≡ leb (get_or samples (10 * i + 1) 0) 1
  stepper_test e = tested stepper e ∙ ap (λ (n : ℕ). leb n 1) (byte_of 1 (omega arith))

module _ (net samples : List ℕ) (b : Bytes samples) where
  abbrev chain : List Module
  chain = (net_in slots net).modules

  -- a field out of range fails its test
  far_fails : (i : ℕ) → TypedAt net samples i → Far net samples i → all_in_range (length chain) samples ≡ true → ⊥
  far_fails i t (Far.power m e h) a =
      let r = range_each (length chain) samples a i (some_below chain i _ e) in
      let p = leb-true (get_or samples (10 * i + 1) 0) 2 (and-true _ (leb (get_or samples (10 * i + 7) 0) 3) (sym (servo_test samples i (t _ e)) ∙ r)).0 in
      omega arith
  far_fails i t (Far.limits m e h) a =
      let r = range_each (length chain) samples a i (some_below chain i _ e) in
      let p = leb-true (get_or samples (10 * i + 7) 0) 3 (and-true (leb (get_or samples (10 * i + 1) 0) 2) _ (sym (servo_test samples i (t _ e)) ∙ r)).1 in
      omega arith
  far_fails i t (Far.inputs m e h) a =
      let r = range_each (length chain) samples a i (some_below chain i _ e) in
      let p = leb-true (get_or samples (10 * i + 2) 0) 15 (sym (inout_test samples i (t _ e)) ∙ r) in
      let low = b (10 * i + 1) in
      let two : 10 * i + 1 + 1 ≡ 10 * i + 2 = omega arith in
      let high : get_or samples (10 * i + 1 + 1) 0 ≡ get_or samples (10 * i + 2) 0 = ap (λ (n : ℕ). get_or samples n 0) two in
      omega arith
  far_fails i t (Far.stop m e h) a =
      let r = range_each (length chain) samples a i (some_below chain i _ e) in
      let p = leb-true (get_or samples (10 * i + 1) 0) 1 (sym (stepper_test samples i (t _ e)) ∙ r) in
      omega arith

  -- and one in range stands it
  near_holds : (i : ℕ) → TypedAt net samples i → (Far net samples i → ⊥) → i < length chain → in_range (ten samples i) ≡ true
  unfolding Is
  near_holds i t n h = by (stands_at net i) refl (below_is chain i h)
    where
      by : (x : Option Module) → stands_at net i ≡ x → Is x → in_range (ten samples i) ≡ true
      by none e z = absurd z
      by (some (servo, m)) e z =
          servo_test samples i (t _ e) ∙ at (leb (get_or samples (10 * i + 1) 0) 2) (leb (get_or samples (10 * i + 7) 0) 3) refl refl
        where
          at : (a b : Bool) → leb (get_or samples (10 * i + 1) 0) 2 ≡ a → leb (get_or samples (10 * i + 7) 0) 3 ≡ b → (a && b) ≡ true
          at true true q p = refl
          at true false q p = absurd (n (Far.limits m e (leb-false _ 3 p)))
          at false b q p = absurd (n (Far.power m e (leb-false _ 2 q)))
      by (some (inout, m)) e z = inout_test samples i (t _ e) ∙ at (leb (get_or samples (10 * i + 2) 0) 15) refl
        where
          at : (a : Bool) → leb (get_or samples (10 * i + 2) 0) 15 ≡ a → a ≡ true
          at true q = refl
          at false q =
              let h = leb-false (get_or samples (10 * i + 2) 0) 15 q in
              let two : 10 * i + 1 + 1 ≡ 10 * i + 2 = omega arith in
              let high : get_or samples (10 * i + 1 + 1) 0 ≡ get_or samples (10 * i + 2) 0 = ap (λ (n : ℕ). get_or samples n 0) two in
              absurd (n (Far.inputs m e (omega arith)))
      by (some (stepper, m)) e z = stepper_test samples i (t _ e) ∙ at (leb (get_or samples (10 * i + 1) 0) 1) refl
        where
          at : (a : Bool) → leb (get_or samples (10 * i + 1) 0) 1 ≡ a → a ≡ true
          at true q = refl
          at false q = absurd (n (Far.stop m e (leb-false _ 1 q)))

pub tick_bounds : TickBounds
tick_bounds net samples b v = record {
  done = λ l t n.
      none_first (tick_table net samples)
      (ap not v, (size l, (typed t, (ap not (range_all (chain_length net) samples (λ i h. near_holds net samples b i (t i) (n i) h)), tt))));
  twenty = λ n. gives (tick_table net samples) (later (ap not v) (here refl (ap not (ne_eqb (length samples) _ n))));
  thirteen = λ l i n.
      gives (tick_table net samples)
      (later (ap not v) (later (size l) (here refl (ap not (refuted (all_typed (chain net samples b) samples) (λ e. n (λ m q. typed_each (chain net samples b) samples e i m q)))))));
  fourteen = λ l t i f.
      gives (tick_table net samples)
      (later (ap not v) (later (size l) (later (typed t) (here refl (ap not (refuted (all_in_range (chain_length net) samples) (far_fails net samples b i (t i) f)))))));
}
  where
    size : length samples ≡ 10 * chain_length net → not (eqb (length samples) (10 * chain_length net)) ≡ false
    size l = ap not (eq-eqb _ _ l)

    typed : ((i : ℕ) → TypedAt net samples i) → not (all_typed (net_in slots net).modules samples) ≡ false
    typed t = ap not (typed_all (net_in slots net).modules samples (λ i m q. t i m q))

-- ---- what a tick that is done makes of each place

pub own_ten : OwnTen
own_ten net samples i t m b s p e =
    let n : Net Module = net_in slots net in
    let done = tick_passes net samples p in
    let l : i < length n.modules = some_below n.modules i _ e in
    let first : get_or (ten_at samples i) 0 0 ≡ (rules_of t).number =
    byte_of samples i 0 (omega arith) ∙ ap (λ (k : ℕ). get_or samples k 0) (add-zero (10 * i)) ∙ typed_each n.modules samples done.typed i _ e in
    ap (λ (n : Net Module). get_elem? n.modules i) (holds.tick net samples s b p)
    ∙ (own_sample kind (samples_for n samples) n.modules).0 i
    ∙ ap₂ (λ (x : Option AnySample) (y : Option Module). map (handed_in kind x) y) (sample_at_lem i (length n.modules) samples l) e
    ∙ ap some (own_tick_lem (ten_at samples i) t m first)
