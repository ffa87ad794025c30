-- The greatest that passes a test, and that it is the only one. Assumes nothing.
use mathlib.Core.Path.{◌≡◌, refl, sym, subst}
use mathlib.Core.Logic.{◌⊎◌, inl, inr}
use mathlib.Core.Bool.{Bool, true, false}
use Prim.Native.Nat.{ℕ, zero, suc, ◌+◌, ◌-◌, ◌≤◌}
use native.Mathlib.Nat.{le_antisymm, lt_of_not-le}
use native.Mathlib.Decide.{dec_le}
use native.Mathlib.Omega.{arith}
use lib.Dec.{T}
use Rattle.servo_motion.specs.Trapezoid.{pick, greatest}
use Rattle.servo_motion.specs.Promises.{Greatest}

pub greatest_one : (Has : ℕ → Type 0) (lo hi v w : ℕ) → Greatest Has lo hi v → Greatest Has lo hi w → v ≡ w
greatest_one Has lo hi v w g h = le_antisymm (h.above v g.to g.has) (g.above w h.to h.has)

-- lo itself needs no test
abbrev pub Fit : (ℕ → Bool) → ℕ → ℕ → Type 0
Fit ok lo x = (x ≡ lo) ⊎ T (ok x)

module _ (ok : ℕ → Bool) (lo : ℕ) where
  -- one more candidate on top
  one_more : (n w : ℕ) (b : Bool) → ok (lo + suc n) ≡ b → Greatest (Fit ok lo) lo (lo + n) w
      → Greatest (Fit ok lo) lo (lo + suc n) (elim b [ true ↦ lo + suc n | false ↦ w ])
  one_more n w true e g = record { from = omega arith; to = omega arith; has = inr (subst T (sym e) tt); above = λ x p q. p }
  one_more n w false e g =
      record { from = g.from; to = let k = g.to in omega arith; has = g.has; above = λ x p q. g.above x (below x p q (dec_le x (lo + n))) q }
    where
      below : (x : ℕ) → x ≤ lo + suc n → Fit ok lo x → Dec (x ≤ lo + n) → x ≤ lo + n
      below x p q (yes h) = h
      below x p (inl q) (no f) = omega arith
      below x p (inr q) (no f) =
          let same : x ≡ lo + suc n = omega (arith, lt_of_not-le f) in
          absurd (subst T e (subst (λ (y : ℕ). T (ok y)) same q))

  pick_is : (n : ℕ) → Greatest (Fit ok lo) lo (lo + n) (pick ok lo n)
  unfolding pick
  pick_is zero = record { from = omega arith; to = omega arith; has = inl refl; above = λ x p q. omega arith }
  pick_is (suc n) = one_more n (pick ok lo n) (ok (lo + suc n)) refl (pick_is n)

  pub greatest_is : (hi : ℕ) → lo ≤ hi → Greatest (Fit ok lo) lo hi (greatest ok lo hi)
  unfolding greatest
  greatest_is hi h = let e : lo + (hi - lo) ≡ hi = omega arith in rw e at (pick_is (hi - lo))

  -- where lo passes too, the greatest passes
  pub greatest_passes : (hi : ℕ) → lo ≤ hi → T (ok lo) → T (ok (greatest ok lo hi))
  greatest_passes hi h t = passes (greatest_is hi h).has
    where
      passes : Fit ok lo (greatest ok lo hi) → T (ok (greatest ok lo hi))
      passes (inl e) = subst (λ (x : ℕ). T (ok x)) (sym e) t
      passes (inr u) = u

  -- no range, no search
  pub greatest_low : (hi : ℕ) → hi ≤ lo → greatest ok lo hi ≡ lo
  unfolding greatest pick
  greatest_low hi h = let e : hi - lo ≡ 0 = omega arith in rw e refl

  -- what is the greatest is what the search gives
  pub greatest-found : (hi w : ℕ) → lo ≤ hi → Greatest (Fit ok lo) lo hi w → w ≡ greatest ok lo hi
  greatest-found hi w h g = greatest_one (Fit ok lo) lo hi w (greatest ok lo hi) g (greatest_is hi h)
