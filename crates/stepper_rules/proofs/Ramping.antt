-- A step-motor module's speed through ticks, in closed form. Assumes nothing.
use mathlib.Core.Path.{◌≡◌, refl, sym, ap, ap₂, subst, ◌∙◌}
use mathlib.Core.Logic.{◌↔◌}
use mathlib.Core.Bool.{Bool, true, false, cond, ◌&&◌}
use Prim.Native.Nat.{ℕ, zero, suc, ◌+◌, ◌*◌, ◌-◌, ◌/◌, ◌<◌, ◌≤◌}
use native.Mathlib.Nat.{div-eq_of_lt, le-div_iff_mul-le, div-lt_iff_lt-mul}
use native.Mathlib.Omega.{arith}
use borrow.Author.Tests.{eqb-true, eqb-false, ltb-true, ltb-false, lt-ltb, le-ltb, leb-true, leb-false, le-leb}
use lib.Dec.{eqb, ltb, leb}
use Rattle.stepper_rules.specs.declared.Motion.{Motion}
use Rattle.stepper_rules.specs.State.{rest}
use Rattle.stepper_rules.specs.Ramp.{nearer, paced, changed, onward, after}
use Rattle.stepper_rules.specs.RampPromises.{lesser, greater, Counting, OnlyTheLast, Climb, Fall, SlowDown}
use Rattle.stepper_rules.proofs.OneTick.{counts, turns, last?, down, there, turned}
use Rattle.stepper_rules.proofs.LastTicks.{on, same_count, one_more, lesser_of, lesser_top, ClimbSpeed, climb_next, climb_last, slowed, SlowSpeed, slow_next, slow_last}

-- ---- fewer ticks than T

pub only_the_last : OnlyTheLast
only_the_last p zero c h = ap (λ (n : ℕ). paced p.speed n p) (let z : p.ticks ≡ p.ticks + 0 = omega arith in z)
only_the_last p (suc k) c h =
    let l : suc p.ticks < p.time = omega arith in
    ap (after k) (counts p c l)
    ∙ only_the_last (paced p.speed (suc p.ticks) p) k (on p c l) (omega arith)
    ∙ ap (λ (n : ℕ). paced p.speed n p) (let z : suc p.ticks + k ≡ p.ticks + suc k = omega arith in z)

-- ---- the closed forms

climb_speed : (k : ℕ) (p : Motion) → ClimbSpeed k p
climb_speed zero p c s h =
    let z : (p.ticks + 0) / p.time ≡ 0 = div-eq_of_lt (let q : p.ticks + 0 < p.time = omega (arith, c.counted) in q) in
    sym
    (ap (λ (n : ℕ). lesser (p.speed + n) p.goal) z
    ∙ ap (λ (n : ℕ). lesser n p.goal) (let q : p.speed + 0 ≡ p.speed = omega arith in q)
    ∙ lesser_of p.speed p.goal h)
climb_speed (suc k) p c s h =
    last? p c (eqb (suc p.ticks) p.time) refl (climb_last k (climb_speed k) p c s h) (climb_next k (climb_speed k) p c s h)

-- so many units are as many T-th ticks
units : (n r t : ℕ) → 0 < t → (n ≤ r / t) ↔ (n * t ≤ r)
units n r t h = le-div_iff_mul-le h

pub climb : Climb
climb p k c s h =
    let e = climb_speed k p c s h in
    let u = units (p.goal - p.speed) (p.ticks + k) p.time (omega (arith, c.counted)) in
    record { speed = e; arrives = (λ q. u.0 (far (sym e ∙ q)), λ q. e ∙ lesser_top _ p.goal (near (u.1 q))) }
  where
    near : p.goal - p.speed ≤ (p.ticks + k) / p.time → p.goal ≤ p.speed + (p.ticks + k) / p.time
    near q = omega arith

    far : lesser (p.speed + (p.ticks + k) / p.time) p.goal ≡ p.goal → p.goal - p.speed ≤ (p.ticks + k) / p.time
    far q = by (leb (p.speed + (p.ticks + k) / p.time) p.goal) refl q
      where
        by : (t : Bool) → leb (p.speed + (p.ticks + k) / p.time) p.goal ≡ t → cond t (p.speed + (p.ticks + k) / p.time) p.goal ≡ p.goal
            → p.goal - p.speed ≤ (p.ticks + k) / p.time
        by true e q = omega arith
        by false e q = let l : p.goal < p.speed + (p.ticks + k) / p.time = leb-false _ _ e in omega arith

-- ---- downward

greater_of : (a b : ℕ) → b ≤ a → greater a b ≡ a
greater_of a b h = by (leb a b) refl
  where
    by : (t : Bool) → leb a b ≡ t → cond t b a ≡ a
    by true e = let l : a ≤ b = leb-true a b e in omega arith
    by false e = refl

greater_low : (a b : ℕ) → a ≤ b → greater a b ≡ b
greater_low a b h = rw (le-leb a b h) refl

-- k ticks of a fall
abbrev FallSpeed : ℕ → Motion → Type 0
FallSpeed k p =
    Counting p → p.stopping ≡ false → 0 < p.goal → p.goal ≤ p.speed → (after k p).speed ≡ greater (p.speed - (p.ticks + k) / p.time) p.goal

module _ (k : ℕ) (ih : (p : Motion) → FallSpeed k p) (p : Motion) (c : Counting p) (s : p.stopping ≡ false) (o : 0 < p.goal) (h : p.goal ≤ p.speed) where
  fall_next : suc p.ticks < p.time → (after (suc k) p).speed ≡ greater (p.speed - (p.ticks + suc k) / p.time) p.goal
  fall_next l =
      ap (λ (q : Motion). (after k q).speed) (counts p c l)
      ∙ ih (paced p.speed (suc p.ticks) p) (on p c l) s o h
      ∙ ap (λ (n : ℕ). greater (p.speed - n) p.goal) (same_count p.ticks k p.time)

  fall_from : (n : ℕ) → p.goal ≤ n → (after k (paced n 0 p)).speed ≡ greater (n - k / p.time) p.goal
  fall_from n l =
      ih (paced n 0 p) (record { moving = omega arith; counted = omega (arith, c.counted) }) s o l
      ∙ ap (λ (j : ℕ). greater (n - j / p.time) p.goal) (let z : 0 + k ≡ k = omega arith in z)

  fall_last : suc p.ticks ≡ p.time → (after (suc k) p).speed ≡ greater (p.speed - (p.ticks + suc k) / p.time) p.goal
  fall_last e =
      ap (λ (q : Motion). (after k q).speed) (turns p c e ∙ turned p s)
      ∙ by (ltb p.goal p.speed) refl
      ∙ ap (λ (n : ℕ). greater (p.speed - n) p.goal) (sym (one_more p.ticks k p.time e))
    where
      by : (t : Bool) → ltb p.goal p.speed ≡ t
          → (after k (paced (nearer p.speed p.goal) 0 p)).speed ≡ greater (p.speed - suc (k / p.time)) p.goal
      by true q =
          let l : p.goal < p.speed = ltb-true _ _ q in
          ap (λ (n : ℕ). (after k (paced n 0 p)).speed) (down p.speed p.goal l)
          ∙ fall_from (p.speed - 1) (omega arith)
          ∙ ap (λ (n : ℕ). greater n p.goal) (let z : p.speed - 1 - k / p.time ≡ p.speed - suc (k / p.time) = omega arith in z)
      by false q =
          let l : p.speed ≤ p.goal = ltb-false _ _ q in
          let z : p.speed ≡ p.goal = omega arith in
          ap (λ (n : ℕ). (after k (paced n 0 p)).speed) (there p.speed p.goal z)
          ∙ fall_from p.speed h
          ∙ greater_low (p.speed - k / p.time) p.goal (omega arith)
          ∙ sym (greater_low (p.speed - suc (k / p.time)) p.goal (omega arith))

less_none : (n : ℕ) → n - 0 ≡ n
less_none n = omega arith

-- no T-th tick yet
no_unit : (p : Motion) → Counting p → (p.ticks + 0) / p.time ≡ 0
no_unit p c = div-eq_of_lt (let q : p.ticks + 0 < p.time = omega (arith, c.counted) in q)

fall_speed : (k : ℕ) (p : Motion) → FallSpeed k p
fall_speed zero p c s o h =
    sym
    (ap (λ (n : ℕ). greater (p.speed - n) p.goal) (no_unit p c)
    ∙ ap (λ (n : ℕ). greater n p.goal) (less_none p.speed)
    ∙ greater_of p.speed p.goal h)
fall_speed (suc k) p c s o h =
    last? p c (eqb (suc p.ticks) p.time) refl (fall_last k (fall_speed k) p c s o h) (fall_next k (fall_speed k) p c s o h)

pub fall : Fall
fall p k c s o h =
    let e = fall_speed k p c s o h in
    let u = units (p.speed - p.goal) (p.ticks + k) p.time (omega (arith, c.counted)) in
    record { speed = e; arrives = (λ q. u.0 (far (sym e ∙ q)), λ q. e ∙ greater_low _ p.goal (near (u.1 q))) }
  where
    near : p.speed - p.goal ≤ (p.ticks + k) / p.time → p.speed - (p.ticks + k) / p.time ≤ p.goal
    near q = omega arith

    far : greater (p.speed - (p.ticks + k) / p.time) p.goal ≡ p.goal → p.speed - p.goal ≤ (p.ticks + k) / p.time
    far q = by (leb (p.speed - (p.ticks + k) / p.time) p.goal) refl q
      where
        by : (t : Bool) → leb (p.speed - (p.ticks + k) / p.time) p.goal ≡ t → cond t p.goal (p.speed - (p.ticks + k) / p.time) ≡ p.goal
            → p.speed - p.goal ≤ (p.ticks + k) / p.time
        by true e q = let l : p.speed - (p.ticks + k) / p.time ≤ p.goal = leb-true _ _ e in omega arith
        by false e q = omega arith

-- ---- a smooth stop

slow_speed : (k : ℕ) (p : Motion) → SlowSpeed k p
unfolding slowed
slow_speed zero p c s o h =
    sym
    (ap (λ (n : ℕ). slowed p.speed p.goal n) (no_unit p c)
    ∙ ap (λ (t : Bool). cond t (p.speed - 0) 0) (lt-ltb 0 (suc p.speed - p.goal) (omega arith))
    ∙ less_none p.speed)
slow_speed (suc k) p c s o h =
    last? p c (eqb (suc p.ticks) p.time) refl (slow_last k (slow_speed k) p c s o h) (slow_next k (slow_speed k) p c s o h)

-- fewer T-th ticks than units, or not
by_units : (n r t : ℕ) → 0 < t → ltb (r / t) n ≡ ltb r (n * t)
by_units n r t h = at (ltb (r / t) n) refl
  where
    at : (b : Bool) → ltb (r / t) n ≡ b → b ≡ ltb r (n * t)
    at true e = sym (lt-ltb r (n * t) ((div-lt_iff_lt-mul h).0 (ltb-true _ _ e)))
    at false e = sym (le-ltb r (n * t) ((le-div_iff_mul-le h).0 (ltb-false _ _ e)))

-- a smooth stop that has come to speed 0 is at rest
abbrev Whole : Motion → Type 0
Whole p = (p.speed ≡ 0 → p ≡ rest) × ((p.speed ≡ 0 → ⊥) → Counting p × ((p.stopping ≡ true) × ((0 < p.goal) × (p.goal ≤ p.speed))))

slow_whole : (p : Motion) → Whole p → Whole (onward p)
unfolding onward changed
slow_whole p w = at (eqb p.speed 0) refl
  where
    still : p ≡ rest → Whole (onward p)
    still e = subst (λ (q : Motion). Whole (onward q)) (sym e) (λ z. refl, λ n. absurd (n refl))

    at : (t : Bool) → eqb p.speed 0 ≡ t → Whole (onward p)
    at true e = still (w.0 (eqb-true _ _ e))
    at false e =
        let (c, (s, (o, h))) = w.1 (eqb-false _ _ e) in
        last? p c (eqb (suc p.ticks) p.time) refl
        (λ l. subst Whole (sym (turns p c l)) (last c s o h (eqb p.speed p.goal) refl))
        (λ l. subst Whole (sym (counts p c l)) (λ z. absurd (omega (arith, c.moving)), λ n. (on p c l, (s, (o, h)))))
      where
        last : Counting p → p.stopping ≡ true → 0 < p.goal → p.goal ≤ p.speed → (t : Bool) → eqb p.speed p.goal ≡ t → Whole (changed p)
        last c s o h true q = subst Whole (sym (rw (s, q) refl)) (λ z. refl, λ n. absurd (n refl))
        last c s o h false q =
            let n : p.speed ≡ p.goal → ⊥ = eqb-false _ _ q in
            let l : p.goal < p.speed = omega arith in
            subst Whole (sym (ap₂ (λ (a b : Bool). cond (a && b) rest (paced (nearer p.speed p.goal) 0 p)) s q ∙ ap (λ (v : ℕ). paced v 0 p) (down p.speed p.goal l)))
            (λ z. absurd (omega arith), λ n. (record { moving = omega arith; counted = omega (arith, c.counted) }, (s, (o, omega arith))))

slow_on : (k : ℕ) (p : Motion) → Whole p → Whole (after k p)
slow_on zero p w = w
slow_on (suc k) p w = slow_on k (onward p) (slow_whole p w)

pub slow_down : SlowDown
unfolding slowed
slow_down p k c s o h =
    let u : ℕ = suc p.speed - p.goal in
    let t : 0 < p.time = omega (arith, c.counted) in
    let e = slow_speed k p c s o h ∙ ap (λ (b : Bool). cond b (p.speed - (p.ticks + k) / p.time) 0) (by_units u (p.ticks + k) p.time t) in
    let w : Whole p = (λ z. absurd (omega (arith, c.moving)), λ n. (c, (s, (o, h)))) in
    let none : u * p.time ≤ p.ticks + k → (after k p).speed ≡ 0 = λ q. e ∙ ap (λ (b : Bool). cond b (p.speed - (p.ticks + k) / p.time) 0) (le-ltb _ _ q) in
    record {
      speed = e;
      ends = (λ z. late (ltb (p.ticks + k) (u * p.time)) refl (sym e ∙ z), none);
      at_rest = λ q. (slow_on k p w).0 (none q);
    }
  where
    late : (b : Bool) → ltb (p.ticks + k) ((suc p.speed - p.goal) * p.time) ≡ b → cond b (p.speed - (p.ticks + k) / p.time) 0 ≡ 0
        → (suc p.speed - p.goal) * p.time ≤ p.ticks + k
    late true b z =
        let t : 0 < p.time = omega (arith, c.counted) in
        let few : (p.ticks + k) / p.time < suc p.speed - p.goal = (div-lt_iff_lt-mul t).1 (ltb-true _ _ b) in
        absurd (omega arith)
    late false b z = ltb-false _ _ b
