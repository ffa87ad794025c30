-- A climb and a smooth stop in closed form, one tick further: by a tick that is not the T-th, and by the T-th. Assumes nothing.
use mathlib.Core.Path.{◌≡◌, refl, sym, ap, ap₂, ◌∙◌}
use mathlib.Core.Bool.{Bool, true, false, cond, ◌&&◌}
use Prim.Native.Nat.{ℕ, zero, suc, ◌+◌, ◌-◌, ◌/◌, ◌<◌, ◌≤◌}
use native.Mathlib.Nat.{add-div_left}
use native.Mathlib.Omega.{arith}
use borrow.Author.Tests.{eq-eqb, ne_eqb, ltb-true, ltb-false, lt-ltb, le-ltb, leb-true, le-leb}
use lib.Dec.{ltb, leb}
use Rattle.stepper_rules.specs.declared.Motion.{Motion}
use Rattle.stepper_rules.specs.State.{rest}
use Rattle.stepper_rules.specs.Ramp.{nearer, paced, changed, onward, after}
use Rattle.stepper_rules.specs.RampPromises.{lesser, Counting, StaysAtRest}
use Rattle.stepper_rules.proofs.OneTick.{counts, turns, up, down, there, turned}

-- a motion goes on counting
pub on : (p : Motion) → Counting p → suc p.ticks < p.time → Counting (paced p.speed (suc p.ticks) p)
on p c h = record { moving = c.moving; counted = h }

pub stays_at_rest : StaysAtRest
unfolding onward
stays_at_rest zero = refl
stays_at_rest (suc k) = stays_at_rest k

-- ---- a climb

-- ticks counted on, by T: none more, or one more at the T-th
pub same_count : (r k t : ℕ) → (suc r + k) / t ≡ (r + suc k) / t
same_count r k t = ap (λ (n : ℕ). n / t) (let z : suc r + k ≡ r + suc k = omega arith in z)

pub one_more : (r k t : ℕ) → suc r ≡ t → (r + suc k) / t ≡ suc (k / t)
one_more r k t e =
    ap (λ (n : ℕ). n / t) (let z : r + suc k ≡ t + k = omega arith in z)
    ∙ add-div_left k (let z : 0 < t = omega arith in z)
    ∙ (let z : k / t + 1 ≡ suc (k / t) = omega arith in z)

pub lesser_of : (a b : ℕ) → a ≤ b → lesser a b ≡ a
lesser_of a b h = rw (le-leb a b h) refl

pub lesser_top : (a b : ℕ) → b ≤ a → lesser a b ≡ b
lesser_top a b h = by (leb a b) refl
  where
    by : (t : Bool) → leb a b ≡ t → cond t a b ≡ b
    by true e = let l : a ≤ b = leb-true a b e in omega arith
    by false e = refl

-- k ticks of a climb
abbrev pub ClimbSpeed : ℕ → Motion → Type 0
ClimbSpeed k p = Counting p → p.stopping ≡ false → p.speed ≤ p.goal → (after k p).speed ≡ lesser (p.speed + (p.ticks + k) / p.time) p.goal

module _ (k : ℕ) (ih : (p : Motion) → ClimbSpeed k p) (p : Motion) (c : Counting p) (s : p.stopping ≡ false) (h : p.speed ≤ p.goal) where
  pub climb_next : suc p.ticks < p.time → (after (suc k) p).speed ≡ lesser (p.speed + (p.ticks + suc k) / p.time) p.goal
  climb_next l =
      ap (λ (q : Motion). (after k q).speed) (counts p c l)
      ∙ ih (paced p.speed (suc p.ticks) p) (on p c l) s h
      ∙ ap (λ (n : ℕ). lesser (p.speed + n) p.goal) (same_count p.ticks k p.time)

  -- from a T-th tick on
  climb_from : (n : ℕ) → 0 < n → n ≤ p.goal → (after k (paced n 0 p)).speed ≡ lesser (n + k / p.time) p.goal
  climb_from n m l =
      ih (paced n 0 p) (record { moving = m; counted = omega (arith, c.counted) }) s l
      ∙ ap (λ (j : ℕ). lesser (n + j / p.time) p.goal) (let z : 0 + k ≡ k = omega arith in z)

  pub climb_last : suc p.ticks ≡ p.time → (after (suc k) p).speed ≡ lesser (p.speed + (p.ticks + suc k) / p.time) p.goal
  climb_last e =
      ap (λ (q : Motion). (after k q).speed) (turns p c e ∙ turned p s)
      ∙ by (ltb p.speed p.goal) refl
      ∙ ap (λ (n : ℕ). lesser (p.speed + n) p.goal) (sym (one_more p.ticks k p.time e))
    where
      by : (t : Bool) → ltb p.speed p.goal ≡ t
          → (after k (paced (nearer p.speed p.goal) 0 p)).speed ≡ lesser (p.speed + suc (k / p.time)) p.goal
      by true q =
          let l : p.speed < p.goal = ltb-true _ _ q in
          ap (λ (n : ℕ). (after k (paced n 0 p)).speed) (up p.speed p.goal l)
          ∙ climb_from (suc p.speed) (omega arith) l
          ∙ ap (λ (n : ℕ). lesser n p.goal) (let z : suc p.speed + k / p.time ≡ p.speed + suc (k / p.time) = omega arith in z)
      by false q =
          let l : p.goal ≤ p.speed = ltb-false _ _ q in
          let z : p.speed ≡ p.goal = omega arith in
          ap (λ (n : ℕ). (after k (paced n 0 p)).speed) (there p.speed p.goal z)
          ∙ climb_from p.speed c.moving h
          ∙ lesser_top (p.speed + k / p.time) p.goal (omega arith)
          ∙ sym (lesser_top (p.speed + suc (k / p.time)) p.goal (omega arith))

-- ---- a smooth stop

-- what is left of it: so many units, by the T-th ticks among k
unfoldable pub slowed : ℕ → ℕ → ℕ → ℕ
slowed speed goal n = cond (ltb n (suc speed - goal)) (speed - n) 0

-- one unit less to go is one T-th tick less
fewer : (n v g : ℕ) → g < v → ltb n (suc (v - 1) - g) ≡ ltb (suc n) (suc v - g)
fewer n v g l = at (ltb n (suc (v - 1) - g)) refl
  where
    at : (t : Bool) → ltb n (suc (v - 1) - g) ≡ t → t ≡ ltb (suc n) (suc v - g)
    at true e = let q : n < suc (v - 1) - g = ltb-true _ _ e in sym (lt-ltb (suc n) (suc v - g) (omega arith))
    at false e = let q : suc (v - 1) - g ≤ n = ltb-false _ _ e in sym (le-ltb (suc n) (suc v - g) (omega arith))

abbrev pub SlowSpeed : ℕ → Motion → Type 0
SlowSpeed k p = Counting p → p.stopping ≡ true → 0 < p.goal → p.goal ≤ p.speed → (after k p).speed ≡ slowed p.speed p.goal ((p.ticks + k) / p.time)

module _ (k : ℕ) (ih : (p : Motion) → SlowSpeed k p) (p : Motion) (c : Counting p) (s : p.stopping ≡ true) (o : 0 < p.goal) (h : p.goal ≤ p.speed) where
  pub slow_next : suc p.ticks < p.time → (after (suc k) p).speed ≡ slowed p.speed p.goal ((p.ticks + suc k) / p.time)
  slow_next l =
      ap (λ (q : Motion). (after k q).speed) (counts p c l)
      ∙ ih (paced p.speed (suc p.ticks) p) (on p c l) s o h
      ∙ ap (slowed p.speed p.goal) (same_count p.ticks k p.time)

  slow_from : (n : ℕ) → p.goal ≤ n → (after k (paced n 0 p)).speed ≡ slowed n p.goal (k / p.time)
  slow_from n l =
      ih (paced n 0 p) (record { moving = omega arith; counted = omega (arith, c.counted) }) s o l
      ∙ ap (λ (j : ℕ). slowed n p.goal (j / p.time)) (let z : 0 + k ≡ k = omega arith in z)

  pub slow_last : suc p.ticks ≡ p.time → (after (suc k) p).speed ≡ slowed p.speed p.goal ((p.ticks + suc k) / p.time)
  unfolding changed slowed
  slow_last e =
      ap (λ (q : Motion). (after k q).speed) (turns p c e)
      ∙ by (ltb p.goal p.speed) refl
      ∙ ap (slowed p.speed p.goal) (sym (one_more p.ticks k p.time e))
    where
      by : (t : Bool) → ltb p.goal p.speed ≡ t → (after k (changed p)).speed ≡ slowed p.speed p.goal (suc (k / p.time))
      by true q =
          let l : p.goal < p.speed = ltb-true _ _ q in
          ap (λ (t : Bool). (after k (cond (p.stopping && t) rest (paced (nearer p.speed p.goal) 0 p))).speed) (ne_eqb p.speed p.goal (λ z. omega arith))
          ∙ ap (λ (t : Bool). (after k (cond (t && false) rest (paced (nearer p.speed p.goal) 0 p))).speed) s
          ∙ ap (λ (n : ℕ). (after k (paced n 0 p)).speed) (down p.speed p.goal l)
          ∙ slow_from (p.speed - 1) (omega arith)
          ∙ ap₂ (λ (t : Bool) (n : ℕ). cond t n 0) (fewer (k / p.time) p.speed p.goal l)
          (let z : p.speed - 1 - k / p.time ≡ p.speed - suc (k / p.time) = omega arith in z)
      by false q =
          let l : p.speed ≤ p.goal = ltb-false _ _ q in
          let z : p.speed ≡ p.goal = omega arith in
          ap₂ (λ (a b : Bool). (after k (cond (a && b) rest (paced (nearer p.speed p.goal) 0 p))).speed) s (eq-eqb p.speed p.goal z)
          ∙ ap (λ (q : Motion). q.speed) (stays_at_rest k)
          ∙ sym (ap (λ (t : Bool). cond t (p.speed - suc (k / p.time)) 0) (le-ltb (suc (k / p.time)) (suc p.speed - p.goal) (omega arith)))
