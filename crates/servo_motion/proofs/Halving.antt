-- StoppingStays, and what one halving of a search leaves. Assumes nothing.
use mathlib.Core.Path.{◌≡◌, sym, ◌∙◌, subst}
use mathlib.Core.Logic.{inl, inr}
use mathlib.Core.Bool.{Bool, true, false, cond}
use Prim.Native.Nat.{ℕ, zero, suc, ◌+◌, ◌-◌, ◌/◌, ◌^◌, ◌≤◌, ◌<◌, min}
use native.Mathlib.Nat.{lt_of_not-le}
use native.Mathlib.Decide.{dec_le}
use native.Mathlib.Omega.{arith}
use borrow.Author.Tests.{leb-true, leb-false, lt-leb}
use lib.Dec.{T, leb}
use Rattle.servo_motion.specs.Trapezoid.{stop, greatest}
use Rattle.servo_motion.specs.Profile.{fastest}
use Rattle.servo_motion.specs.Quick.{middle, halved, StaysFailed, StoppingStays}
use Rattle.servo_motion.proofs.Stopping.{stop_mono}
use Rattle.servo_motion.proofs.Search.{Fit, greatest_is, greatest_low, greatest-found}

module _ (ok : ℕ → Bool) (lo hi : ℕ) (h : lo < hi) where
  -- a middle that passes is the new lowest
  pub upper : ok (middle lo hi) ≡ true → greatest ok lo hi ≡ greatest ok (middle lo hi) hi
  upper e =
      let m : ℕ = middle lo hi in
      let g = greatest_is ok m hi (omega arith) in
      sym
      (greatest-found ok lo hi (greatest ok m hi) (omega arith)
      (record { from = omega (arith, g.from); to = g.to; has = passes g.has; above = λ x p q. below x p q }))
    where
      passes : Fit ok (middle lo hi) (greatest ok (middle lo hi) hi) → Fit ok lo (greatest ok (middle lo hi) hi)
      passes (inl k) = inr (subst T (sym (subst (λ (x : ℕ). ok x ≡ true) (sym k) e)) tt)
      passes (inr t) = inr t

      below : (x : ℕ) → x ≤ hi → Fit ok lo x → x ≤ greatest ok (middle lo hi) hi
      below x p (inl k) = omega (arith, (greatest_is ok (middle lo hi) hi (omega arith)).from)
      below x p (inr t) = (greatest_is ok (middle lo hi) hi (omega arith)).above x p (inr t)

  -- a middle that fails is the first above the new highest
  pub lower : StaysFailed ok → ok (middle lo hi) ≡ false → greatest ok lo hi ≡ greatest ok lo (middle lo hi - 1)
  lower f e =
      let m : ℕ = middle lo hi in
      let g = greatest_is ok lo (m - 1) (omega arith) in
      sym
      (greatest-found ok lo hi (greatest ok lo (m - 1)) (omega arith)
      (record { from = g.from; to = omega (arith, g.to); has = g.has; above = λ x p q. below x q (dec_le x (m - 1)) }))
    where
      below : (x : ℕ) → Fit ok lo x → Dec (x ≤ middle lo hi - 1) → x ≤ greatest ok lo (middle lo hi - 1)
      below x q (yes k) = (greatest_is ok lo (middle lo hi - 1) (omega arith)).above x k q
      below x (inl k) (no n) = omega (arith, (greatest_is ok lo (middle lo hi - 1) (omega arith)).from)
      below x (inr t) (no n) = absurd (subst T (f (middle lo hi) x (omega (arith, lt_of_not-le n)) e) t)

module _ (ok : ℕ → Bool) (f : StaysFailed ok) where
  -- what one halving leaves, and what the others make of it
  pub one_half : (n lo hi : ℕ) → hi - lo < 2 ^ suc n → ((l u : ℕ) → u - l < 2 ^ n → halved n ok l u ≡ greatest ok l u) → (s t : Bool) → leb hi lo ≡ s
      → ok (middle lo hi) ≡ t
      → cond s lo (cond t (halved n ok (middle lo hi) hi) (halved n ok lo (middle lo hi - 1))) ≡ greatest ok lo hi
  one_half n lo hi l rest true t e k = sym (greatest_low ok lo hi (leb-true hi lo e))
  one_half n lo hi l rest false true e k =
      rest (middle lo hi) hi (omega arith) ∙ sym (upper ok lo hi (leb-false hi lo e) k)
  one_half n lo hi l rest false false e k =
      let h = leb-false hi lo e in
      rest lo (middle lo hi - 1) (omega arith) ∙ sym (lower ok lo hi h f k)

pub stopping_stays : StoppingStays
stopping_stays a d h x y l e =
    let k = leb-false (stop x a) d e in
    lt-leb (stop y a) d (omega (arith, stop_mono x y a h l))

-- how many halvings are left until no number stands above the lowest, of n that do; f is the most that are counted
unfoldable pub rounds : ℕ → ℕ → ℕ
rounds zero n = 0
rounds (suc f) zero = 0
rounds (suc f) (suc n) = suc (rounds f (suc n / 2))

-- a halving is one less
pub rounds_less : (f m n : ℕ) → n < 2 ^ f → 0 < n → m ≤ n / 2 → rounds f m < rounds f n
unfolding rounds
rounds_less zero m n l p q = absurd (omega arith)
rounds_less (suc f) m zero l p q = absurd (omega arith)
rounds_less (suc f) zero (suc n) l p q = omega arith
rounds_less (suc f) (suc m) (suc n) l p q =
    let k = rounds_less f (suc m / 2) (suc n / 2) (omega arith) (omega arith) (omega arith) in
    omega arith

rounds_most : (f k n : ℕ) → n < 2 ^ k → rounds f n ≤ k
unfolding rounds
rounds_most zero k n l = omega arith
rounds_most (suc f) k zero l = omega arith
rounds_most (suc f) zero (suc n) l = absurd (omega arith)
rounds_most (suc f) (suc k) (suc n) l = let r = rounds_most f k (suc n / 2) (omega arith) in omega arith

-- so the range of a profile has at most 27
pub at_most_27 : (a top v : ℕ) → top ≤ fastest → rounds 32 (min (v + a) top - (v - a)) ≤ 27
at_most_27 a top v l = rounds_most 32 27 _ (omega arith)
