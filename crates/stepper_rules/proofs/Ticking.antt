-- What one tick does to speed and position. Assumes nothing.
use mathlib.Core.Path.{◌≡◌, refl, sym, ap, ◌∙◌}
use mathlib.Core.Bool.{Bool, true, false, cond, ◌&&◌, true≢false}
use Prim.Native.Nat.{ℕ, suc, ◌+◌, ◌-◌, ◌%◌, ◌^◌, ◌≤◌}
use native.Mathlib.Omega.{arith}
use lib.Dec.{eqb}
use Rattle.base_integers.specs.Whole.{less}
use Rattle.stepper_rules.specs.declared.Motion.{Motion}
use Rattle.stepper_rules.specs.State.{rest, is_moving}
use Rattle.stepper_rules.specs.Ramp.{nearer, paced, changed, onward, moved, ticked}
use Rattle.stepper_rules.specs.RampPromises.{NeverPast, Ticking, Computed}
use Rattle.stepper_rules.proofs.OneTick.{nearer_is}

-- what is so of a motion, of it with another count, at rest, and with a speed one unit nearer, is so after a tick
by_tick : (P : Motion → Type 0) (p : Motion) → P p → ((n : ℕ) → P (paced p.speed n p)) → (p.stopping ≡ true → P rest)
    → P (paced (nearer p.speed p.goal) 0 p) → P (onward p)
unfolding onward changed
by_tick P p same counted ended near = at (is_moving p) (eqb (suc p.ticks) p.time) p.stopping refl (eqb p.speed p.goal)
  where
    at : (a b s : Bool) → p.stopping ≡ s → (e : Bool)
        → P (cond a (cond b (cond (s && e) rest (paced (nearer p.speed p.goal) 0 p)) (paced p.speed (suc p.ticks) p)) p)
    at false b s q e = same
    at true false s q e = counted (suc p.ticks)
    at true true true q true = ended q
    at true true true q false = near
    at true true false q e = near

pub never_past : NeverPast
never_past p =
    let n = nearer_is p.speed p.goal in
    record {
      below = λ h. by_tick (λ (q : Motion). q.speed ≤ p.goal) p h (λ k. h) (λ s. omega arith) (n.below h);
      above = λ s h. by_tick (λ (q : Motion). p.goal ≤ q.speed) p h (λ k. h) (λ t. absurd (true≢false (sym t ∙ s))) (n.above h);
      slowly = (
        by_tick (λ (q : Motion). q.speed ≤ suc p.speed) p (omega arith) (λ k. omega arith) (λ s. omega arith) n.most,
        λ s. by_tick (λ (q : Motion). p.speed ≤ suc q.speed) p (omega arith) (λ k. omega arith) (λ t. absurd (true≢false (sym t ∙ s))) n.least,
      );
      same = λ s.
          by_tick (λ (q : Motion). (q.goal ≡ p.goal) × ((q.backward ≡ p.backward) × (q.time ≡ p.time))) p (refl, (refl, refl)) (λ k. (refl, (refl, refl)))
          (λ t. absurd (true≢false (sym t ∙ s))) (refl, (refl, refl));
    }

-- ---- the whole module

moved_on : (p : Motion) (x : ℕ) → p.backward ≡ false → moved p x ≡ (x + p.speed) % 2 ^ 32
unfolding moved
moved_on p x e = rw e refl

moved_back : (p : Motion) (x : ℕ) → p.backward ≡ true → moved p x ≡ less x p.speed
unfolding moved
moved_back p x e = rw e refl

pub ticking : Ticking
unfolding ticked moved
ticking x m small slow = record {
  alone = refl;
  ends = λ e. (ap (λ (t : Bool). cond t rest (onward m.motion)) e, stays e);
  goes = λ e. ap (λ (t : Bool). cond t rest (onward m.motion)) e;
  on = λ e. moved_on new m.position e;
  back = λ e. ap (λ (y : ℕ). (y + new.speed) % 2 ^ 32) (moved_back new m.position e) ∙ again new.speed below;
}
  where
    new : Motion
    new = cond x.stop rest (onward m.motion)

    stays : x.stop ≡ true → moved new m.position ≡ m.position
    stays e = ap (λ (t : Bool). moved (cond t rest (onward m.motion)) m.position) e ∙ (let z : (m.position + 0) % 2 ^ 32 ≡ m.position = omega arith in z)

    below : new.speed ≤ 251
    below = at x.stop
      where
        at : (t : Bool) → (cond t rest (onward m.motion)).speed ≤ 251
        at true = omega arith
        at false = let h = (never_past m.motion).slowly.0 in omega arith

    again : (v : ℕ) → v ≤ 251 → ((m.position + (2 ^ 32 - v)) % 2 ^ 32 + v) % 2 ^ 32 ≡ m.position
    again v h = omega arith

pub computed : Computed
unfolding onward changed ticked moved
computed = record { three = refl; one = refl; down = refl; places = refl }
