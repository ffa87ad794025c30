-- What a step-motor module's own commands do, by their bytes. Assumes nothing.
use mathlib.Core.Path.{◌≡◌, refl, ap, ◌∙◌}
use mathlib.Core.List.{List, [], ◌∷◌}
use mathlib.Core.Bool.{Bool, true, false, cond}
use Prim.Native.Nat.{ℕ, ◌<◌}
use Rattle.module_rules.specs.Rules as AnyType
use Rattle.module_rules.specs.FramePromises.{undamaged}
use Rattle.module_rules.proofs.Settled.{settles}
use Rattle.stepper_rules.specs.declared.Halt.TheVariants.{Keep, Abrupt, Smooth}
use Rattle.stepper_rules.specs.declared.Motion.{Motion}
use Rattle.stepper_rules.specs.declared.Order.{Order}
use Rattle.stepper_rules.specs.declared.Order.TheVariants.{Start}
use Rattle.stepper_rules.specs.declared.Stepper.{Stepper}
use Rattle.stepper_rules.specs.State.{no_load, with_settings, with_load, with_motion}
use Rattle.stepper_rules.specs.Perform.{startable, begun, start, parameters_set, smooth, stopped, can, perform}
use Rattle.stepper_rules.specs.Answers.{stepper, with_cause, execute}
use Rattle.stepper_rules.specs.FramePromises.{Startable, begun_from, with_amplifier, with_minimum, Obeys}
use Rattle.stepper_rules.proofs.OneTick.{moves}
use Rattle.stepper_rules.proofs.Frames.{codes}
use Rattle.stepper_rules.proofs.Starting.{rests, can-start, was_startable}

-- ---- a start

pub cannot_start : (m : Stepper) → (Startable m → ⊥) → startable m ≡ false
cannot_start m n = at (startable m) refl
  where
    at : (t : Bool) → startable m ≡ t → t ≡ false
    at true e = absurd (n (was_startable m e))
    at false e = refl

pub start-rest : (m : Stepper) → m.motion.speed ≡ 0 → start m ≡ with_load no_load (with_motion (begun_from m.settings.minimum m) m)
unfolding start begun
start-rest m e = rw (rests m.motion e) refl

pub start_moving : (m : Stepper) → 0 < m.motion.speed → start m ≡ with_load no_load (with_motion (begun_from m.motion.speed m) m)
unfolding start begun
start_moving m h = rw (moves m.motion h) refl

-- ---- an order that can be carried out, and one that cannot

pub executed : (to code : ℕ) (ds : List ℕ) (alone : Bool) (m : Stepper) (c : Order) → AnyType.request stepper (undamaged to code ds) alone ≡ AnyType.wants c → can c m ≡ true
    → execute (undamaged to code ds) alone m ≡ with_cause 0 (perform c m)
executed to code ds alone m c q e =
    settles stepper (undamaged to code ds) alone m refl q ∙ ap (λ (t : Bool). cond t (with_cause 0 (perform c m)) (with_cause 3 m)) e

pub not_now : (to code : ℕ) (ds : List ℕ) (alone : Bool) (m : Stepper) (c : Order) → AnyType.request stepper (undamaged to code ds) alone ≡ AnyType.wants c → can c m ≡ false
    → execute (undamaged to code ds) alone m ≡ with_cause 3 m
not_now to code ds alone m c q e =
    settles stepper (undamaged to code ds) alone m refl q ∙ ap (λ (t : Bool). cond t (with_cause 0 (perform c m)) (with_cause 3 m)) e

pub obeys : Obeys
unfolding parameters_set stopped smooth AnyType.execute
obeys to alone m =
    let a = codes to alone in
    record {
      start_from_rest = λ s e. executed to 5 [] alone m Start a.start (can-start m s) ∙ ap (with_cause 0) (start-rest m e);
      start_moving = λ s h. executed to 5 [] alone m Start a.start (can-start m s) ∙ ap (with_cause 0) (start_moving m h);
      not_now = λ n. not_now to 5 [] alone m Start a.start (cannot_start m n);
      parameters = λ mode v x y z l h e.
          executed to 6 (mode ∷ v ∷ x ∷ y ∷ z ∷ []) alone m _ (a.parameters mode v x y z l h) refl
          ∙ ap (λ (t : Bool). with_cause 0 (with_settings (with_minimum (cond t m.settings.minimum v) m.settings) m)) (rests m.motion e);
      parameters_moving = λ mode v x y z l h k.
          executed to 6 (mode ∷ v ∷ x ∷ y ∷ z ∷ []) alone m _ (a.parameters mode v x y z l h) refl
          ∙ ap (λ (t : Bool). with_cause 0 (with_settings (with_minimum (cond t m.settings.minimum v) m.settings) m)) (moves m.motion k);
      keep = λ b. executed to 7 _ alone m _ (a.stop b Keep) refl;
      abrupt = λ b. executed to 7 _ alone m _ (a.stop b Abrupt) refl;
      smooth_at_rest = λ b e.
          executed to 7 _ alone m _ (a.stop b Smooth) refl
          ∙ ap (λ (t : Bool). with_cause 0 (with_settings (with_amplifier b m.settings) (with_load no_load (with_motion (cond t (slowing m) m.motion) m)))) (rests m.motion e);
      smooth = λ b h.
          executed to 7 _ alone m _ (a.stop b Smooth) refl
          ∙ ap (λ (t : Bool). with_cause 0 (with_settings (with_amplifier b m.settings) (with_load no_load (with_motion (cond t (slowing m) m.motion) m)))) (moves m.motion h);
      hard_reset = settles stepper (undamaged to 15 []) alone m refl a.hard_reset;
    }
  where
    slowing : Stepper → Motion
    slowing m = record {
      speed = m.motion.speed;
      backward = m.motion.backward;
      goal = m.settings.minimum;
      time = m.motion.time;
      ticks = 0;
      stopping = true;
    }
