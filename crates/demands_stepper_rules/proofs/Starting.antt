-- What a start begins, which frames are starts, and that nothing else takes a step-motor module from rest to motion. Assumes nothing.
use mathlib.Core.Path.{◌≡◌, refl, sym, ap, subst, ◌∙◌}
use mathlib.Core.Logic.{◌⊎◌, inl, inr}
use mathlib.Core.Bool.{Bool, true, false, cond, not, ◌||◌}
use borrow.Author.Tests.{eq-eqb}
use Rattle.base_integers.specs.Bits.{is_set}
use Rattle.line_receiver.specs.Frames.{Frame}
use Rattle.module_rules.specs.Rules.{Request, malformed, set, reset, wants, settled}
use Rattle.module_rules.proofs.Settled.{settles}
use Rattle.stepper_rules.specs.declared.Carried.{Carried}
use Rattle.stepper_rules.specs.declared.Halt.{Halt}
use Rattle.stepper_rules.specs.declared.Halt.TheVariants.{Keep, Abrupt, Smooth}
use Rattle.stepper_rules.specs.declared.Motion.{Motion}
use Rattle.stepper_rules.specs.declared.Order.{Order}
use Rattle.stepper_rules.specs.declared.Order.TheVariants.{LoadTrajectory, Start, SetParameters, Stop}
use Rattle.stepper_rules.specs.declared.Sample.{Sample}
use Rattle.stepper_rules.specs.declared.Stepper.{Stepper}
use Rattle.stepper_rules.specs.Carried.{carried_in}
use Rattle.stepper_rules.specs.State.{rest, is_moving}
use Rattle.stepper_rules.specs.Ramp.{onward, ticked}
use Rattle.stepper_rules.specs.Perform.{loaded, starts_now, startable, start, parameters_set, smooth, stopped, can, perform}
use Rattle.stepper_rules.specs.Answers as Answers
use Rattle.stepper_rules.specs.Answers.{request, with_cause, execute}
use Rattle.stepper_rules.proofs.Known.{Known, known}
use Rattle.stepper_rules.proofs.Starting.{can-start, was_startable}
use Rattle.stepper_slot_rules.proofs.Steady.{by_test}
use Rattle.types_rules.specs.Table.{stepper}
use Rattle.types_rules.proofs.Promised.{every_type}
use Rattle.demands_rules.specs.SettingOut.{SettingOut}
use Rattle.demands_stepper_rules.specs.Motion.{Rests, Starts, by_start, by_load, StartsAreExecuted}

-- ---- what a start does

-- a load with bit 7 can be carried out where its start can
pub now_can : (c : Carried) (m : Stepper) → starts_now c ≡ true → can (LoadTrajectory c) m ≡ startable (loaded c m)
now_can c m h = ap (λ (t : Bool). not t || startable (loaded c m)) h

-- it begins what a load carries, which is the waiting one or its own

pub begins : (f : Frame) (alone : Bool) (m : Stepper) → Starts f alone m → (l : Stepper) × (execute f alone m ≡ with_cause 0 (start l))
unfolding carried_in
begins f alone m (by_start a s) = (m, ((every_type stepper).cause f alone m).executed Start a.undamaged a.order (can-start m s))
begins f alone m (by_load a h s) =
    let c : Carried = carried_in f.content in (
      loaded c m,
      ((every_type stepper).cause f alone m).executed (LoadTrajectory c) a.undamaged a.order (now_can c m h ∙ can-start (loaded c m) s)
          ∙ ap (λ (t : Bool). with_cause 0 (cond t (start (loaded c m)) (loaded c m))) h,
    )

pub starts_are_executed : StartsAreExecuted
starts_are_executed f alone m s = let (l, e) = begins f alone m s in ap (λ (k : Stepper). k.station.cause) e

-- ---- a module at rest

module _ (f : Frame) (alone : Bool) (m : Stepper) (d : f.damaged ≡ false) (r : Rests m) where
  -- started by this frame, or at rest after it
  abbrev StartsOr : Stepper → Type 0
  StartsOr k = Starts f alone m ⊎ Rests k

  load_rests : (c : Carried) → request f alone ≡ wants (LoadTrajectory c) → Known f (wants (LoadTrajectory c)) → can (LoadTrajectory c) m ≡ true
      → StartsOr (with_cause 0 (perform (LoadTrajectory c) m))
  unfolding carried_in loaded
  load_rests c q ((n, w), e) t =
      by_test (λ (k : Stepper). StartsOr (with_cause 0 k)) (starts_now c) (start (loaded c m)) (loaded c m)
      (λ h.
      inl
      (by_load (record { undamaged = d; named = n; whole = w; order = q ∙ ap (λ (c : Carried). wants (LoadTrajectory c)) e })
      (ap (λ (c : Carried). is_set 7 c.control) (sym e) ∙ h)
      (was_startable _ (ap (λ (c : Carried). startable (loaded c m)) (sym e) ∙ sym (now_can c m h) ∙ t))))
      (λ h. inr r)

  stop_rests : (a : Bool) (h : Halt) → Rests (stopped a h m)
  unfolding stopped smooth
  stop_rests a Keep = r
  stop_rests a Abrupt = refl
  stop_rests a Smooth = by_test (λ (p : Motion). p.speed ≡ 0) (is_moving m.motion) _ m.motion (λ e. r) (λ e. r)

  order_rests : (c : Order) → request f alone ≡ wants c → Known f (wants c) → can c m ≡ true → StartsOr (with_cause 0 (perform c m))
  unfolding parameters_set
  order_rests (LoadTrajectory c) q k t = load_rests c q k t
  order_rests Start q (n, w) t = inl (by_start (record { undamaged = d; named = n; whole = w; order = q }) (was_startable m t))
  order_rests (SetParameters v) q k t = inr r
  order_rests (Stop a h) q k t = inr (stop_rests a h)

  asked_rests : (q : Request Order) → request f alone ≡ q → Known f q → StartsOr (settled Answers.stepper q m)
  asked_rests (malformed x) q k = inr r
  asked_rests (set s) q k = inr r
  asked_rests reset q k = inr refl
  asked_rests (wants c) q k =
      by_test StartsOr (can c m) (with_cause 0 (perform c m)) (with_cause 3 m) (λ t. order_rests c q k t) (λ t. inr r)

frame_rests : (f : Frame) (alone : Bool) (m : Stepper) → Rests m → Starts f alone m ⊎ Rests (execute f alone m)
frame_rests f alone m r = at f.damaged refl
  where
    at : (d : Bool) → f.damaged ≡ d → Starts f alone m ⊎ Rests (execute f alone m)
    at true d = inr (ap (λ (k : Stepper). k.motion.speed) (((every_type stepper).cause f alone m).damaged d) ∙ r)
    at false d =
        subst (λ (k : Stepper). Starts f alone m ⊎ Rests k) (sym (settles Answers.stepper f alone m d refl))
        (asked_rests f alone m d r (request f alone) refl (known f alone))

still : (p : Motion) → p.speed ≡ 0 → onward p ≡ p
unfolding onward
still p e = rw (eq-eqb p.speed 0 e) refl

tick_rests : (x : Sample) (m : Stepper) → Rests m → Rests (ticked x m)
unfolding ticked
tick_rests x m r =
    by_test (λ (p : Motion). p.speed ≡ 0) x.stop rest (onward m.motion) (λ e. refl)
    (λ e. ap (λ (p : Motion). p.speed) (still m.motion r) ∙ r)

undamaged : (f : Frame) (alone : Bool) (m : Stepper) → Starts f alone m → f.damaged ≡ false
undamaged f alone m (by_start a s) = a.undamaged
undamaged f alone m (by_load a h s) = a.undamaged

-- a step-motor module at rest sets out by a start alone
pub sets_out : SettingOut stepper Rests Starts
sets_out = record {
  undamaged = undamaged;
  frame = λ f alone m t r. frame_rests f alone m r;
  tick = λ x m t r. tick_rests x m r;
  power = refl;
}
