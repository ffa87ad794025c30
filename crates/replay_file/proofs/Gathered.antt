-- A module record: when it is bad, and what it leaves when it is not. Assumes nothing.
use mathlib.Core.Path.{◌≡◌, refl, sym, ap, ◌∙◌}
use mathlib.Core.List.{List, [], ◌∷◌, ◌++◌}
use mathlib.Core.Bool.{Bool, true, false, cond, not, ◌&&◌, ◌||◌}
use Prim.Native.Nat.{ℕ, suc, ◌+◌, ◌<◌, ◌≤◌}
use native.Mathlib.Numerals.{add-one}
use native.Mathlib.Omega.{arith}
use lib.ListN.{length, take, drop, set, replicate, length-append}
use lib.Seq.{length-take-le, take-suc-set, set_split, append_snoc}
use lib.Dec.{leb, ltb}
use borrow.Author.Tests.{ltb-true, ltb-false, lt-leb, le-leb}
use Rattle.base_layout.specs.Bytes.{pasted}
use Rattle.base_layout.proofs.Pasted.{pasted-start}
use Rattle.types_rules.specs.Types.{slots, known}
use Rattle.net_rules.specs.Record.{net_in, chain_most}
use Rattle.net_rules.specs.Calls.{all_known, list_size}
use Rattle.replay_file.specs.declared.Place.{Place}
use Rattle.replay_file.specs.Records.{gathering, running, Effect, goes, bad, module_record, unmeasured}
use Rattle.replay_file.specs.Turns.{stage_in}
use Rattle.replay_file.proofs.Measured.{unmeasured_more}

pub never : {A : Type 0} → false ≡ true → A
never e = let z : ◌≡◌ {A = ℕ} 0 1 = cc in absurd (omega arith)

-- the code tests the other way round
full_not : (k : ℕ) → leb chain_most k ≡ not (ltb k chain_most)
full_not k = go (ltb k chain_most) refl
  where
    go : (u : Bool) → ltb k chain_most ≡ u → leb chain_most k ≡ not u
    go true e = lt-leb chain_most k (omega (arith, ltb-true k chain_most e))
    go false e = le-leb chain_most k (omega (arith, ltb-false k chain_most e))

either_bad : (u v : Bool) (x : Effect) → (not u || not v) ≡ true → cond (u && v) x bad ≡ bad
either_bad true true x h = never h
either_bad true false x h = refl
either_bad false v x h = refl

both_good : (u v : Bool) (x : Effect) → (not u || not v) ≡ false → cond (u && v) x bad ≡ x
both_good true true x h = refl
both_good true false x h = never (sym h)
both_good false v x h = never (sym h)

good_parts : (u v : Bool) → (not u || not v) ≡ false → (u ≡ true) × (v ≡ true)
good_parts true true h = (refl, refl)
good_parts true false h = never (sym h)
good_parts false v h = never (sym h)

-- the types gathered, with one more behind them
pub known_more : (ts : List ℕ) (t : ℕ) → all_known ts ≡ true → known t ≡ true → all_known (ts ++ t ∷ []) ≡ true
known_more [] t a h = rw h refl
known_more (x ∷ ts) t a h = go (known x) (λ b. known_more ts t b h) a
  where
    go : (u : Bool) → (all_known ts ≡ true → all_known (ts ++ t ∷ []) ≡ true) → (u && all_known ts) ≡ true → (u && all_known (ts ++ t ∷ [])) ≡ true
    go true on a = on a
    go false on a = never a

module _ (at : Place) (types samples net : List ℕ) (t : ℕ) (size : length types ≡ chain_most) (most : at.count ≤ chain_most) where
  abbrev ts : List ℕ
  ts = take at.count types

  length_ts : length ts ≡ at.count
  length_ts = length-take-le at.count types (omega arith)

  test_is : (r : Bool) → ((r || leb chain_most at.count) || not (known t)) ≡ (r || (not (ltb (length ts) chain_most) || not (known t)))
  test_is true = refl
  test_is false = rw (full_not at.count, length_ts) refl

  -- a module that is bad, by the code's test
  pub module_bad : ((at.running || leb chain_most at.count) || not (known t)) ≡ true → module_record (stage_in at types samples net) t ≡ bad
  module_bad h = go at.running (sym (test_is at.running) ∙ h)
    where
      go : (r : Bool) → (r || (not (ltb (length ts) chain_most) || not (known t))) ≡ true → module_record (cond r (running (net_in slots net) (take (list_size at.count) samples)) (gathering ts)) t ≡ bad
      go true h = refl
      go false h = either_bad (ltb (length ts) chain_most) (known t) (goes (gathering (ts ++ t ∷ [])) []) h

  -- one that is not
  module _ (h : ((at.running || leb chain_most at.count) || not (known t)) ≡ false) where
    parts : (r : Bool) → (r || (not (ltb (length ts) chain_most) || not (known t))) ≡ false → (r ≡ false) × ((not (ltb (length ts) chain_most) || not (known t)) ≡ false)
    parts true h = never (sym h)
    parts false h = (refl, h)

    split : (at.running ≡ false) × ((not (ltb (length ts) chain_most) || not (known t)) ≡ false)
    split = parts at.running (sym (test_is at.running) ∙ h)

    pub module-room : at.count < chain_most
    module-room = omega (arith, ltb-true (length ts) chain_most (good_parts (ltb (length ts) chain_most) (known t) split.1).0, length_ts)

    pub module-good : module_record (stage_in at types samples net) t ≡ goes (gathering (ts ++ t ∷ [])) []
    module-good =
        rw split.0 (both_good (ltb (length ts) chain_most) (known t) (goes (gathering (ts ++ t ∷ [])) []) split.1)

    -- what the code leaves
    pub types-put : set types at.count t ≡ pasted 0 (ts ++ t ∷ []) types
    types-put =
        let r = module-room in
        let l = length_ts in
        let n : length (ts ++ t ∷ []) ≡ suc at.count = omega (arith, length-append ts (t ∷ [])) in
        set_split types at.count t (omega arith) ∙ sym (append_snoc ts t (drop (suc at.count) types))
        ∙ ap (λ (k : ℕ). ts ++ (t ∷ []) ++ drop k types) (sym n)
        ∙ sym (pasted-start (ts ++ t ∷ []) types)

    pub types-taken : take (at.count + 1) (set types at.count t) ≡ ts ++ t ∷ []
    types-taken =
        let r = module-room in
        rw (add-one at.count) (take-suc-set types at.count t (omega arith))

    pub types_more : length (take (at.count + 1) (set types at.count t)) ≡ at.count + 1
    types_more = rw types-taken (omega (arith, length-append ts (t ∷ []), length_ts))

    -- and a place in the list of samples, in which nothing is measured yet
    pub samples-put : length samples ≡ list_size chain_most → (at.running ≡ false → take (list_size at.count) samples ≡ unmeasured ts)
        → pasted (list_size at.count) (t ∷ replicate 9 0) samples ≡ pasted 0 (unmeasured (ts ++ t ∷ [])) samples
    samples-put room blank =
        let r = module-room in
        let ten : List ℕ = t ∷ replicate 9 0 in
        let j : ℕ = list_size at.count in
        let l : List ℕ = take j samples in
        let n : length (l ++ ten) ≡ j + 10 = omega (arith, length-append l ten, length-take-le j samples (omega arith)) in
        ap (λ (k : ℕ). (l ++ ten) ++ drop k samples) (sym n)
        ∙ sym (pasted-start (l ++ ten) samples)
        ∙ ap (λ (x : List ℕ). pasted 0 (x ++ ten) samples) (blank split.0)
        ∙ ap (λ (x : List ℕ). pasted 0 x samples) (sym (unmeasured_more ts t))
