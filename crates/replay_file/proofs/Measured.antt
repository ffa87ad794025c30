-- The list of samples that a replay gathers: as long as the chain asks, bytes, and every field in range. Assumes nothing.
use mathlib.Core.Path.{◌≡◌, refl, sym, ap, ap₂, ◌∙◌}
use mathlib.Core.List.{List, [], ◌∷◌, ◌++◌, append_assoc}
use mathlib.Core.Bool.{Bool, true, false, cond}
use mathlib.Core.Logic.{inl, inr}
use Prim.Native.Nat.{ℕ, zero, suc, ◌+◌, ◌*◌, ◌<◌, ◌≤◌}
use native.Mathlib.Nat.{mul-suc}
use native.Mathlib.Omega.{arith}
use lib.ListN.{length, take, drop, set, replicate, length-append, length-take, length-drop, take-append-drop}
use lib.Seq.{drop_at, take-append_seam, take-append-le, drop-append-le, length-take-le}
use lib.Dec.{eqb, leb}
use Rattle.base_layout.specs.Bytes.{pasted, Bytes}
use Rattle.base_layout.specs.Every.{every}
use Rattle.base_layout.proofs.Every.{hold_every}
use Rattle.base_layout.proofs.Laws.{bytes_take, bytes_drop, bytes_append, bytes_one}
use Rattle.base_layout.proofs.Pasted.{length-pasted, pasted_twice, pasted_one, pasted-start}
use Rattle.module_rules.specs.Slots.{measured_at}
use Rattle.chain_rules.specs.Chain.{Net, Step, byte_step}
use Rattle.replay_print.specs.Text.{lines}
use Rattle.replay_file.specs.declared.Place.{Place}
use Rattle.types_rules.specs.Table.{ModuleType, servo, inout, stepper, sample_of}
use Rattle.types_rules.specs.Types.{Module, kind, known, type_in, in_range}
use Rattle.types_rules.specs.Promises.{ThereIs}
use Rattle.types_rules.proofs.Promised.{numbers}
use Rattle.net_rules.specs.Calls.{all_known, all_in_range, byte_of}
use Rattle.net_rules.proofs.Tests.{and-true}
use Rattle.replay_file.specs.Records.{running, Effect, goes, bad, line_byte, unmeasured, measured}
use Rattle.replay_file.specs.Turns.{Fair, turned, samples_after, net_after, text_after}

-- ten bytes, and then those of k places more
more_ranged : (k : ℕ) (ten l : List ℕ) → length ten ≡ 10 → in_range ten ≡ true → all_in_range k l ≡ true → all_in_range (suc k) (ten ++ l) ≡ true
unfolding all_in_range
more_ranged k ten l e h r =
    let first : take 10 (ten ++ l) ≡ ten = ap (λ (n : ℕ). take n (ten ++ l)) (sym e) ∙ take-append_seam ten l in
    let rest : drop 10 (ten ++ l) ≡ l = drop_at ten l 10 e in
    rw (first, rest) (hold_every (in_range ten ∷ all_in_range k l ∷ []) (h, (r, tt)))

ranged_parts : (k : ℕ) (l : List ℕ) → all_in_range (suc k) l ≡ true → (in_range (take 10 l) ≡ true) × (all_in_range k (drop 10 l) ≡ true)
unfolding all_in_range
ranged_parts k l r = and-true (in_range (take 10 l)) (all_in_range k (drop 10 l)) r

-- ---- before any sample

-- zeros are in range, whatever the type
zeros-ranged : (t : ℕ) → in_range (t ∷ replicate 9 0) ≡ true
zeros-ranged t = at (type_in t)
  where
    at : (u : ModuleType) → every ((sample_of u).codec.tests measured_at (t ∷ replicate 9 0)) ≡ true
    at servo = refl
    at inout = refl
    at stepper = refl

-- a known type is a byte
known_small : (t : ℕ) → known t ≡ true → t < 256
known_small t h = at ((numbers t).0 h)
  where
    at : ThereIs t → t < 256
    at (inl e) = omega arith
    at (inr (inl e)) = omega arith
    at (inr (inr e)) = omega arith

zeros_small : (k : ℕ) → Bytes (replicate k 0)
zeros_small zero i = omega arith
zeros_small (suc k) zero = omega arith
zeros_small (suc k) (suc i) = zeros_small k i

ten_small : (t : ℕ) → t < 256 → Bytes (t ∷ replicate 9 0)
ten_small t h zero = h
ten_small t h (suc i) = zeros_small 9 i

pub unmeasured_fair : (ts : List ℕ) → all_known ts ≡ true → Fair (length ts) (unmeasured ts)
unfolding all_in_range
unmeasured_fair [] h = record { long = refl; small = λ i. omega arith; ranged = refl }
unmeasured_fair (t ∷ ts) h =
    let (a, b) = and-true (known t) (all_known ts) h in
    let f = unmeasured_fair ts b in
    record {
      long = omega (arith, length-append (t ∷ replicate 9 0) (unmeasured ts), f.long, mul-suc 10 (length ts));
      small = bytes_append (t ∷ replicate 9 0) (unmeasured ts) (ten_small t (known_small t a)) f.small;
      ranged = more_ranged (length ts) (t ∷ replicate 9 0) (unmeasured ts) refl (zeros-ranged t) f.ranged;
    }

-- one more type behind others
pub unmeasured_more : (ts : List ℕ) (t : ℕ) → unmeasured (ts ++ t ∷ []) ≡ unmeasured ts ++ t ∷ replicate 9 0
unmeasured_more [] t = refl
unmeasured_more (x ∷ ts) t = ap (λ (l : List ℕ). x ∷ replicate 9 0 ++ l) (unmeasured_more ts t)

-- ---- a sample

-- bytes put behind some that stay
pub pasted-behind : (a t x : List ℕ) (at : ℕ) → pasted (length a + at) x (a ++ t) ≡ a ++ pasted at x t
pasted-behind [] t x at = let z : 0 + at ≡ at = omega arith in ap (λ (n : ℕ). pasted n x t) z
pasted-behind (c ∷ a) t x at =
    let m : suc (length a) + at ≡ suc (length a + at) = omega arith in
    let n : suc (length a + at) + length x ≡ suc (length a + at + length x) = omega arith in
    ap (λ (k : ℕ). pasted k x (c ∷ a ++ t)) m
    ∙ ap (λ (k : ℕ). take (suc (length a + at)) (c ∷ a ++ t) ++ take (length x) x ++ drop k (c ∷ a ++ t)) n
    ∙ ap (λ (l : List ℕ). c ∷ l) (pasted-behind a t x at)

bytes_put : (at : ℕ) (x s : List ℕ) → Bytes x → Bytes s → Bytes (pasted at x s)
bytes_put at x s h k =
    bytes_append (take at s ++ take (length x) x) (drop (at + length x) s) (bytes_append (take at s) (take (length x) x) (bytes_take at s k) (bytes_take (length x) x h))
    (bytes_drop (at + length x) s k)

-- the sample of a place, put into the list
put_ranged : (k p : ℕ) (ten l : List ℕ) → length ten ≡ 10 → in_range ten ≡ true → p < k → length l ≡ 10 * k → all_in_range k l ≡ true
    → all_in_range k (pasted (10 * p) ten l) ≡ true
put_ranged zero p ten l e h q n r = absurd (omega arith)
put_ranged (suc k) zero ten l e h q n r =
    let (_, rest) = ranged_parts k l r in
    ap (all_in_range (suc k)) (pasted-start ten l ∙ ap (λ (j : ℕ). ten ++ drop j l) e) ∙ more_ranged k ten (drop 10 l) e h rest
put_ranged (suc k) (suc p) ten l e h q n r =
    let (first, rest) = ranged_parts k l r in
    let s = mul-suc 10 k in
    let a : List ℕ = take 10 l in
    let la : length a ≡ 10 = omega (arith, length-take 10 l) in
    let m : 10 * suc p ≡ length a + 10 * p = omega (arith, mul-suc 10 p) in
    ap (all_in_range (suc k))
    (ap₂ (λ (j : ℕ) (x : List ℕ). pasted j ten x) m (sym (take-append-drop 10 l)) ∙ pasted-behind a (drop 10 l) ten (10 * p))
    ∙ more_ranged k a (pasted (10 * p) ten (drop 10 l)) la first (put_ranged k p ten (drop 10 l) e h (omega arith) (omega (arith, length-drop 10 l)) rest)

pub put_fair : (k p : ℕ) (ten l : List ℕ) → length ten ≡ 10 → Bytes ten → in_range ten ≡ true → p < k → Fair k l → Fair k (pasted (10 * p) ten l)
put_fair k p ten l e b h q f = record {
  long = length-pasted (10 * p) ten l (omega (arith, f.long)) ∙ f.long;
  small = bytes_put (10 * p) ten l b f.small;
  ranged = put_ranged k p ten l e h q f.long f.ranged;
}

-- the ten bytes of a sample record
pub ten_long : (t : ℕ) (body : List ℕ) → length body ≤ 10 → 1 ≤ length body → length (measured t body) ≡ 10
unfolding measured
ten_long t body h l = length-pasted 0 (t ∷ drop 1 body) (replicate 10 0) (omega (arith, length-drop 1 body))

pub ten_bytes : (t : ℕ) (body : List ℕ) → t < 256 → Bytes body → Bytes (measured t body)
unfolding measured
ten_bytes t body h b = bytes_put 0 (t ∷ drop 1 body) (replicate 10 0) (bytes_append (t ∷ []) (drop 1 body) (bytes_one t h) (bytes_drop 1 body b)) (zeros_small 10)

-- put together from the type and what follows the place
pub ten_put : (t : ℕ) (body part : List ℕ) {z : List ℕ} → length body ≤ 10 → 1 ≤ length body → part ≡ drop 1 body → z ≡ pasted 1 part (set (replicate 10 0) 0 t)
    → z ≡ measured t body
unfolding measured
ten_put t body part h l e p =
    p
    ∙ ap₂ (pasted 1) e (pasted_one 0 t (replicate 10 0) (omega arith))
    ∙ pasted_twice 0 (t ∷ []) (drop 1 body) (replicate 10 0) (omega (arith, length-drop 1 body))

-- ---- the list at the start of its slice

-- put there as it stands, it changes nothing
pub list_same : (j : ℕ) (s : List ℕ) → j ≤ length s → pasted 0 (take j s) s ≡ s
list_same j s h =
    pasted-start (take j s) s ∙ ap (λ (k : ℕ). take j s ++ drop k s) (length-take-le j s h) ∙ take-append-drop j s

pasted_front : (p : ℕ) (x a b : List ℕ) → p + length x ≤ length a → pasted p x (a ++ b) ≡ pasted p x a ++ b
pasted_front p x a b h =
    let t : take p (a ++ b) ≡ take p a = take-append-le p a b (omega arith) in
    let d : drop (p + length x) (a ++ b) ≡ drop (p + length x) a ++ b = drop-append-le (p + length x) a b h in
    rw (t, d) (sym (append_assoc (take p a ++ take (length x) x) (drop (p + length x) a) b))

-- with bytes put into it, these alone are put into the slice
pub list_put : (j p : ℕ) (x s : List ℕ) → p + length x ≤ j → j ≤ length s → pasted 0 (pasted p x (take j s)) s ≡ pasted p x s
list_put j p x s h l =
    let a : List ℕ = take j s in
    let la : length a ≡ j = length-take-le j s l in
    let y : List ℕ = pasted p x a in
    let ly : length y ≡ j = length-pasted p x a (omega arith) ∙ la in
    pasted-start y s
    ∙ ap (λ (k : ℕ). y ++ drop k s) ly
    ∙ sym (pasted_front p x a (drop j s) (omega arith))
    ∙ ap (pasted p x) (take-append-drop j s)

-- ---- a line byte leaves it

-- what a turn hands back and leaves, but for the list
pub record Alike (e d : Effect) (size : ℕ) (at : Place) (net : List ℕ) : Type 0 where
  pub turned : turned size e at ≡ turned size d at
  pub left : net_after e net ≡ net_after d net
  pub text : text_after e at.offset ≡ text_after d at.offset

module _ (n : Net Module) (mark value : ℕ) where
  abbrev effect : Bool → List ℕ → Effect
  effect t l =
      let s : Step Module = byte_step kind n (byte_of value (eqb mark 1)) in
      cond t (goes (running s.net l) (lines s.replies)) bad

  pub byte_alike : (list : List ℕ) (size : ℕ) (at : Place) (net : List ℕ) → Alike (line_byte n [] mark value) (line_byte n list mark value) size at net
  unfolding line_byte turned net_after text_after
  byte_alike list size at net = go (leb mark 1)
    where
      go : (t : Bool) → Alike (effect t []) (effect t list) size at net
      go true = record { turned = refl; left = refl; text = refl }
      go false = record { turned = refl; left = refl; text = refl }

  pub byte_samples : (j : ℕ) (samples : List ℕ) → j ≤ length samples → samples_after (line_byte n (take j samples) mark value) samples ≡ samples
  unfolding line_byte samples_after
  byte_samples j samples h = go (leb mark 1)
    where
      go : (t : Bool) → samples_after (effect t (take j samples)) samples ≡ samples
      go true = list_same j samples h
      go false = refl
