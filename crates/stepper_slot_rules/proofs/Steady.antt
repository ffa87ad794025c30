-- What runs, in a slot: at rest, or moving as the list says; and so it stays through starts, stops and ticks. Assumes nothing.
use mathlib.Core.Path.{◌≡◌, refl, sym, ap, ◌∙◌}
use mathlib.Core.Logic.{◌⊎◌, inl, inr}
use mathlib.Core.List.{List, [], ◌∷◌}
use mathlib.Core.Bool.{Bool, true, false, cond, not, ◌&&◌, ◌||◌, false≢true}
use Prim.Native.Nat.{ℕ, suc, ◌-◌, ◌<◌, ◌≤◌}
use native.Mathlib.Omega.{arith}
use borrow.Author.Tests.{eqb-true, eqb-false, eq-eqb, ne_eqb, leb-true, leb-false, le-leb, ltb-true, lt-ltb, not-true, not-false}
use lib.Dec.{eqb, leb, ltb}
use Rattle.base_layout.proofs.Every.{every_hold, hold_every}
use Rattle.stepper_rules.specs.declared.Halt.{Halt}
use Rattle.stepper_rules.specs.declared.Halt.TheVariants.{Keep, Abrupt, Smooth}
use Rattle.stepper_rules.specs.declared.Load.{Load}
use Rattle.stepper_rules.specs.declared.Motion.{Motion}
use Rattle.stepper_rules.specs.State.{rest, is_moving}
use Rattle.stepper_rules.specs.Ramp.{nearer, paced, changed, onward}
use Rattle.stepper_rules.specs.Perform.{goal_of, begun, smooth, halted_by}
use Rattle.stepper_slot_rules.specs.Slot.{motion, resting, running, steady}
use Rattle.stepper_slot_rules.specs.Promises.{Moving}

-- of one or another, by a test
pub by_test : {A : Type 0} (P : A → Type 0) (t : Bool) (n k : A) → (t ≡ true → P n) → (t ≡ false → P k) → P (cond t n k)
by_test P true n k h g = h refl
by_test P false n k h g = g refl

-- at rest, or moving with an acceleration time of one byte
abbrev pub Steady : ℕ → Motion → Type 0
Steady minimum p = (p ≡ rest) ⊎ (Moving minimum p × (p.time < 256))

-- a speed between the minimum and 250
abbrev Between : ℕ → ℕ → Type 0
Between minimum n = (minimum ≤ n) × (n ≤ 250)

-- ---- the test

-- the tests of what moves
abbrev moving_tests : ℕ → Motion → List Bool
moving_tests minimum p =
    leb 1 minimum
    ∷ leb minimum p.speed
    ∷ leb minimum p.goal
    ∷ ltb p.ticks p.time
    ∷ (not p.stopping || eqb p.goal minimum)
    ∷ []

pub at_rest_lem : {speed goal time ticks : ℕ} {backward stopping : Bool}
    → speed ≡ 0 → backward ≡ false → goal ≡ 0 → time ≡ 0 → ticks ≡ 0 → stopping ≡ false
    → ◌≡◌ {A = Motion} (record { speed = speed; backward = backward; goal = goal; time = time; ticks = ticks; stopping = stopping }) rest
at_rest_lem a b c d e f = rw (a, b, c, d, e, f)

module _ (minimum : ℕ) (p : Motion) where
  -- where something moves, it is not at rest
  moves : Moving minimum p → is_moving p ≡ true
  moves h = ap not (ne_eqb _ _ (λ (z : p.speed ≡ 0). omega arith))

  pub steady-good : motion.codec.fits p → steady minimum p ≡ true → Steady minimum p
  unfolding steady
  steady-good t = at (is_moving p) refl
    where
      at : (b : Bool) → is_moving p ≡ b → cond b (running minimum p) (resting p) ≡ true → Steady minimum p
      at true m e =
          let h = every_hold (moving_tests minimum p) e in
          inr (
            record {
              known = leb-true 1 _ h.0;
              speed = leb-true _ _ h.1.0;
              fastest = t.0.1;
              goal = leb-true _ _ h.1.1.0;
              goal_most = t.1.1.0.1;
              counted = ltb-true _ _ h.1.1.1.0;
              slowing = λ s. eqb-true _ _ (ap (λ (b : Bool). not b || eqb p.goal minimum) (sym s) ∙ h.1.1.1.1.0);
            },
            t.1.1.1.0,
          )
      at false m e =
          let h = every_hold (not p.backward ∷ eqb p.goal 0 ∷ eqb p.time 0 ∷ eqb p.ticks 0 ∷ not p.stopping ∷ []) e in
          inl
          (at_rest_lem (eqb-true _ _ (not-false _ m)) (not-true _ h.0) (eqb-true _ _ h.1.0) (eqb-true _ _ h.1.1.0)
          (eqb-true _ _ h.1.1.1.0) (not-true _ h.1.1.1.1.0))

  pub steady_fits : Steady minimum p → steady minimum p ≡ true
  unfolding steady
  steady_fits (inl e) = ap (steady minimum) e
  steady_fits (inr (h, t)) =
      ap (λ (b : Bool). cond b (running minimum p) (resting p)) (moves h)
      ∙ hold_every (moving_tests minimum p)
      (le-leb 1 _ h.known, (le-leb _ _ h.speed, (le-leb _ _ h.goal, (lt-ltb _ _ h.counted, (slowed p.stopping h.slowing, tt)))))
    where
      slowed : (b : Bool) → (b ≡ true → p.goal ≡ minimum) → (not b || eqb p.goal minimum) ≡ true
      slowed true k = eq-eqb _ _ (k refl)
      slowed false k = refl

  pub motion_fits : Steady minimum p → motion.codec.fits p
  motion_fits (inl e) =
      rw e ((omega arith, omega arith), (tt, ((omega arith, omega arith), (omega arith, (omega arith, tt)))))
  motion_fits (inr (h, t)) = ((omega arith, h.fastest), (tt, ((omega arith, h.goal_most), (t, (omega arith, tt)))))

  -- ---- a tick

  nearer_between : Moving minimum p → Between minimum (nearer p.speed p.goal)
  nearer_between h =
      let v : ℕ = p.speed in
      let g : ℕ = p.goal in
      by_test (Between minimum) (ltb v g) (suc v) (cond (ltb g v) (v - 1) v) (λ e. let l = ltb-true v g e in (omega arith, omega arith))
      (λ e. by_test (Between minimum) (ltb g v) (v - 1) v (λ k. let l = ltb-true g v k in (omega arith, omega arith)) (λ k. (h.speed, h.fastest)))

  changed-steady : Moving minimum p → p.time < 256 → Steady minimum (changed p)
  unfolding changed
  changed-steady h t =
      let b = nearer_between h in
      by_test (Steady minimum) (p.stopping && eqb p.speed p.goal) rest (paced (nearer p.speed p.goal) 0 p) (λ e. inl refl)
      (λ e. inr (
        record {
          known = h.known;
          speed = b.0;
          fastest = b.1;
          goal = h.goal;
          goal_most = h.goal_most;
          counted = omega arith;
          slowing = h.slowing;
        },
        t,
      ))

  pub onward-steady : Steady minimum p → Steady minimum (onward p)
  unfolding onward
  onward-steady (inl e) = inl (ap onward e)
  onward-steady (inr (h, t)) =
      let next : Motion = paced p.speed (suc p.ticks) p in
      by_test (Steady minimum) (is_moving p) _ p
      (λ m. by_test (Steady minimum) (eqb (suc p.ticks) p.time) (changed p) next (λ e. changed-steady h t) counts)
      (λ m. inr (h, t))
    where
      counts : eqb (suc p.ticks) p.time ≡ false → Steady minimum (paced p.speed (suc p.ticks) p)
      counts e =
          let n = eqb-false (suc p.ticks) p.time e in
          inr (
            record {
              known = h.known;
              speed = h.speed;
              fastest = h.fastest;
              goal = h.goal;
              goal_most = h.goal_most;
              counted = omega arith;
              slowing = h.slowing;
            },
            t,
          )

  -- ---- starts and stops

  -- the speed of what moves, and the minimum from rest
  speed_between : Steady minimum p → 1 ≤ minimum → minimum ≤ 250 → Between minimum (cond (is_moving p) p.speed minimum)
  speed_between (inl e) k u = rw e (omega arith, u)
  speed_between (inr (h, t)) k u = by_test (Between minimum) (is_moving p) p.speed minimum (λ m. (h.speed, h.fastest)) (λ m. (omega arith, u))

  goal_between : (v : ℕ) → minimum ≤ 250 → v ≤ 250 → Between minimum (goal_of v minimum)
  goal_between v u k =
      by_test (Between minimum) (leb v minimum) minimum v (λ e. (omega arith, u)) (λ e. let l = leb-false v minimum e in (omega arith, k))

  pub begun-steady : (l : Load) → Steady minimum p → 1 ≤ minimum → minimum ≤ 250 → l.speed ≤ 250 → 1 ≤ l.time → l.time < 256
      → Steady minimum (begun minimum l p)
  unfolding begun
  begun-steady l h k u v o t =
      let s = speed_between h k u in
      let g = goal_between l.speed u v in
      inr (
        record {
          known = k;
          speed = s.0;
          fastest = s.1;
          goal = g.0;
          goal_most = g.1;
          counted = o;
          slowing = λ e. absurd (false≢true e);
        },
        t,
      )

  smooth-steady : Steady minimum p → Steady minimum (smooth minimum p)
  unfolding smooth
  smooth-steady (inl e) = inl (ap (smooth minimum) e)
  smooth-steady (inr (h, t)) =
      by_test (Steady minimum) (is_moving p) _ p (λ m. inr (
        record {
          known = h.known;
          speed = h.speed;
          fastest = h.fastest;
          goal = omega arith;
          goal_most = omega arith;
          counted = omega arith;
          slowing = λ e. refl;
        },
        t,
      ))
      (λ m. inr (h, t))

  pub halted-steady : (h : Halt) → Steady minimum p → Steady minimum (halted_by h minimum p)
  halted-steady Keep t = t
  halted-steady Abrupt t = inl refl
  halted-steady Smooth t = smooth-steady t

  -- Set Parameters changes the minimum of what is at rest alone
  pub minimum-steady : (v : ℕ) → Steady minimum p → Steady (cond (is_moving p) minimum v) p
  minimum-steady v (inl e) = inl e
  minimum-steady v (inr (h, t)) = rw (moves h) (inr (h, t))
