-- What one tick does to a moving motion and to a speed, by cases. Assumes nothing.
use mathlib.Core.Path.{◌≡◌, refl, ap}
use mathlib.Core.Bool.{Bool, true, false, cond, not}
use Prim.Native.Nat.{ℕ, suc, ◌-◌, ◌<◌, ◌≤◌}
use native.Mathlib.Omega.{arith}
use borrow.Author.Tests.{eqb-true, eqb-false, eq-eqb, ne_eqb, ltb-true, lt-ltb, le-ltb}
use lib.Dec.{eqb, ltb}
use Rattle.stepper_rules.specs.declared.Motion.{Motion}
use Rattle.stepper_rules.specs.State.{is_moving}
use Rattle.stepper_rules.specs.Ramp.{nearer, paced, changed, onward}
use Rattle.stepper_rules.specs.RampPromises.{Counting}

pub moves : (p : Motion) → 0 < p.speed → is_moving p ≡ true
moves p h = ap not (ne_eqb p.speed 0 (λ e. omega arith))

-- a tick that is not the T-th
pub counts : (p : Motion) → Counting p → suc p.ticks < p.time → onward p ≡ paced p.speed (suc p.ticks) p
unfolding onward
counts p c h = rw (moves p c.moving, ne_eqb (suc p.ticks) p.time (λ e. omega arith)) refl

-- the T-th
pub turns : (p : Motion) → Counting p → suc p.ticks ≡ p.time → onward p ≡ changed p
unfolding onward
turns p c e = rw (moves p c.moving, eq-eqb (suc p.ticks) p.time e) refl

-- one of both
pub last? : (p : Motion) → Counting p → (t : Bool) → eqb (suc p.ticks) p.time ≡ t → {A : Type 0} → (suc p.ticks ≡ p.time → A) → (suc p.ticks < p.time → A) → A
last? p c true e f g = f (eqb-true _ _ e)
last? p c false e f g =
    let n : suc p.ticks ≡ p.time → ⊥ = eqb-false _ _ e in
    g (omega (arith, c.counted))

pub up : (s g : ℕ) → s < g → nearer s g ≡ suc s
up s g h = rw (lt-ltb s g h) refl

pub down : (s g : ℕ) → g < s → nearer s g ≡ s - 1
down s g h = rw (le-ltb s g (omega arith), lt-ltb g s h) refl

pub there : (s g : ℕ) → s ≡ g → nearer s g ≡ s
there s g e = rw (le-ltb s g (omega arith), le-ltb g s (omega arith)) refl

-- a T-th tick without a smooth stop
pub turned : (p : Motion) → p.stopping ≡ false → changed p ≡ paced (nearer p.speed p.goal) 0 p
unfolding changed
turned p e = rw e refl

-- one unit at most, and never past the goal
pub record Near (s g n : ℕ) : Type 0 where
  pub below : s ≤ g → n ≤ g
  pub above : g ≤ s → g ≤ n
  pub most : n ≤ suc s
  pub least : s ≤ suc n

pub nearer_is : (s g : ℕ) → Near s g (nearer s g)
nearer_is s g = by (ltb s g) (ltb g s) refl refl
  where
    by : (a b : Bool) → ltb s g ≡ a → ltb g s ≡ b → Near s g (cond a (suc s) (cond b (s - 1) s))
    by true b p q =
        let l : s < g = ltb-true s g p in
        record { below = λ h. omega arith; above = λ h. omega arith; most = omega arith; least = omega arith }
    by false true p q =
        let l : g < s = ltb-true g s q in
        record { below = λ h. omega arith; above = λ h. omega arith; most = omega arith; least = omega arith }
    by false false p q = record { below = λ h. h; above = λ h. h; most = omega arith; least = omega arith }
