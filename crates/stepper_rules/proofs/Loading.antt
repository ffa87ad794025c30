-- What a Load Trajectory does, by its bytes. Assumes nothing.
use mathlib.Core.Path.{◌≡◌, refl, ap, ap₂, ◌∙◌}
use mathlib.Core.Bool.{Bool, true, false, cond, not, ◌||◌}
use Prim.Native.Nat.{ℕ, ◌≤◌}
use native.Mathlib.Omega.{arith}
use Rattle.base_integers.specs.Bits.{is_set}
use Rattle.module_rules.specs.Rules as AnyType
use Rattle.module_rules.specs.FramePromises.{undamaged}
use Rattle.module_rules.proofs.Settled.{settles}
use Rattle.stepper_rules.specs.declared.Order.TheVariants.{LoadTrajectory}
use Rattle.stepper_rules.specs.declared.Stepper.{Stepper}
use Rattle.stepper_rules.specs.State.{no_load, with_settings, with_load, with_motion}
use Rattle.stepper_rules.specs.Perform.{load_of, storing, loaded, startable, start}
use Rattle.stepper_rules.specs.Answers.{stepper, with_cause, execute}
use Rattle.stepper_rules.specs.FramePromises.{Sent, load_bytes, GoodLoad, stored_by, Allowed, begun_at, Startable, begun_from, Loading}
use Rattle.stepper_rules.specs.RampPromises.{greater}
use Rattle.stepper_rules.proofs.Doing.{cannot_start, start-rest, start_moving, executed, not_now}
use Rattle.stepper_rules.proofs.Starting.{can-start}
use Rattle.stepper_rules.proofs.LoadValues.{carried, good_range, bad_range, load_asks, loaded_is}

-- what a load with start now needs
allowed_is : (control : ℕ) (s : Sent) (m : Stepper) → GoodLoad control s → Allowed control m → Startable (loaded (carried control s) m)
unfolding loaded storing load_of
allowed_is control s m g a = record {
  known = a.known;
  waits = refl;
  speed = rw a.speed (g.speed a.speed).0;
  time = rw a.time (g.time a.time);
  way = a.way;
}

was_allowed : (control : ℕ) (s : Sent) (m : Stepper) → Startable (loaded (carried control s) m) → Allowed control m
unfolding loaded storing load_of
was_allowed control s m h = record {
  known = h.known;
  speed = carries (is_set 1 control) s.speed h.speed;
  time = carries (is_set 2 control) s.time h.time;
  way = h.way;
}
  where
    carries : (t : Bool) (x : ℕ) → 1 ≤ cond t x 0 → t ≡ true
    carries true x l = refl
    carries false x l = absurd (omega arith)

module _ (to : ℕ) (alone : Bool) (m : Stepper) (control : ℕ) (s : Sent) where
  abbrev after : Stepper
  after = loaded (carried control s) m

  asks : GoodLoad control s → AnyType.request stepper (undamaged to 4 (load_bytes control s)) alone ≡ AnyType.wants (LoadTrajectory (carried control s))
  asks g = load_asks control s to alone true (good_range control s g)

  -- with start now
  begins : GoodLoad control s → is_set 7 control ≡ true → Allowed control m
      → execute (undamaged to 4 (load_bytes control s)) alone m ≡ with_cause 0 (start after)
  begins g e a =
      executed to 4 (load_bytes control s) alone m (LoadTrajectory (carried control s)) (asks g)
      (ap (λ (t : Bool). not t || startable after) e ∙ can-start after (allowed_is control s m g a))
      ∙ ap (λ (t : Bool). with_cause 0 (cond t (start after) after)) e

  -- what it runs with is its own
  own-numbers : (v : ℕ) → Allowed control m
      → with_load no_load (with_motion (begun_from v after) after)
      ≡ with_settings (stored_by control s m.settings) (with_load no_load (with_motion (begun_at v control s m) m))
  unfolding loaded storing load_of
  own-numbers v a =
      ap (λ (n : Stepper). with_load no_load (with_motion (begun_from v n) n)) (loaded_is control s m)
      ∙ ap₂
      (λ (b c : Bool).
      with_settings (stored_by control s m.settings)
      (with_load no_load
      (with_motion
      (record {
        speed = v;
        backward = is_set 4 control;
        goal = greater (cond b s.speed 0) m.settings.minimum;
        time = cond c s.time 0;
        ticks = 0;
        stopping = false;
      })
      m)))
      a.speed a.time

pub loading : Loading
unfolding loaded storing
loading to alone m control s = record {
  waits = λ g e.
      executed to 4 (load_bytes control s) alone m (LoadTrajectory (carried control s)) (asks to alone m control s g)
      (ap (λ (t : Bool). not t || startable (after to alone m control s)) e)
      ∙ ap (λ (t : Bool). with_cause 0 (cond t (start (after to alone m control s)) (after to alone m control s))) e
      ∙ ap (with_cause 0) (loaded_is control s m);
  from_rest = λ g e a r.
      begins to alone m control s g e a
      ∙ ap (with_cause 0) (start-rest (after to alone m control s) r ∙ own-numbers to alone m control s m.settings.minimum a);
  moving = λ g e a h.
      begins to alone m control s g e a
      ∙ ap (with_cause 0) (start_moving (after to alone m control s) h ∙ own-numbers to alone m control s m.motion.speed a);
  not_now = λ g e n.
      not_now to 4 (load_bytes control s) alone m (LoadTrajectory (carried control s)) (asks to alone m control s g)
      (ap (λ (t : Bool). not t || startable (after to alone m control s)) e
      ∙ cannot_start (after to alone m control s) (λ h. n (was_allowed control s m h)));
  bad_value = λ b.
      settles stepper (undamaged to 4 (load_bytes control s)) alone m refl (load_asks control s to alone false (bad_range control s b));
}
