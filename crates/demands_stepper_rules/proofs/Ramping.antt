-- A step-motor module's ramp through calls that do not disturb it. Assumes nothing.
use mathlib.Core.Path.{◌≡◌, refl, sym, ap, subst, ◌∙◌}
use mathlib.Core.Logic.{inl, inr}
use mathlib.Core.Bool.{Bool}
use Prim.Native.Nat.{ℕ, zero, suc}
use native.Mathlib.Omega.{arith}
use Rattle.line_receiver.specs.Frames.{Frame}
use Rattle.module_rules.specs.Rules.{Request, malformed, set, reset, wants, settled}
use Rattle.stepper_rules.specs.declared.Carried.{Carried}
use Rattle.stepper_rules.specs.declared.Halt.{Halt}
use Rattle.stepper_rules.specs.declared.Halt.TheVariants.{Keep, Abrupt, Smooth}
use Rattle.stepper_rules.specs.declared.Motion.{Motion}
use Rattle.stepper_rules.specs.declared.Order.{Order}
use Rattle.stepper_rules.specs.declared.Order.TheVariants.{LoadTrajectory, Start, SetParameters, Stop}
use Rattle.stepper_rules.specs.declared.Stepper.{Stepper}
use Rattle.stepper_rules.specs.Carried.{needed, carried_in}
use Rattle.stepper_rules.specs.Ramp.{onward, after}
use Rattle.stepper_rules.specs.RampPromises.{Counting, Climbs, Falls, Slows}
use Rattle.stepper_rules.specs.Perform.{loaded, starts_now, start, parameters_set, stopped, can, perform}
use Rattle.stepper_rules.specs.Answers as Answers
use Rattle.stepper_rules.specs.Answers.{request, with_cause}
use Rattle.stepper_rules.proofs.Known.{Known, known, BitOf, halt_bits, halt_bits_lem}
use Rattle.stepper_rules.proofs.Ramping.{climb, fall, slow_down}
use Rattle.stepper_slot_rules.specs.Promises.{Moving}
use Rattle.stepper_slot_rules.proofs.Steady.{by_test, Steady}
use Rattle.stepper_slot_rules.proofs.Good.{good}
use Rattle.types_rules.specs.Table.{stepper}
use Rattle.demands_rules.specs.Place.{ticks_in}
use Rattle.demands_rules.specs.Loaded.{control, WholeLoad}
use Rattle.demands_rules.proofs.Making.{fits_at}
use Rattle.demands_rules.proofs.TimeSteps.{stepped, Steps}
use Rattle.demands_rules.proofs.Stepping.{went}
use Rattle.demands_stepper_rules.specs.Motion.{Moves}
use Rattle.demands_stepper_rules.specs.Ramp.{NeverBelow, Disturbs, Ramps, RampOnTheLine}
use Rattle.demands_stepper_rules.proofs.CalmTick.{Calm, tick_steps}

pub never_below : NeverBelow
never_below net i m v e z = at (good m (fits_at stepper net i m v e)).motion
  where
    at : Steady m.settings.minimum m.motion → Moving m.settings.minimum m.motion
    at (inl q) = absurd (z (ap (λ (p : Motion). p.speed) q))
    at (inr h) = h.0

-- ---- what runs, by frames and ticks

abbrev run_of : Stepper → Motion
run_of m = m.motion

abbrev Any : Motion → Type 0
Any p = Unit {0}

-- k runs as m does
abbrev Same : Stepper → Stepper → Type 0
Same m k = k.motion ≡ m.motion

-- no order that is carried out changes what runs, unless it disturbs
module _ (f : Frame) (calm : Disturbs f → ⊥) (m : Stepper) where
  load_keeps : WholeLoad needed f → Same m (perform (LoadTrajectory (carried_in f.content)) m)
  unfolding carried_in loaded
  load_keeps w =
      by_test (Same m) (starts_now (carried_in f.content)) (start (loaded (carried_in f.content) m)) (loaded (carried_in f.content) m)
      (λ e. absurd (calm (inl (w.0, e)))) (λ e. refl)

  halts : f.code ≡ 7 → (h : Halt) (a : Bool) → BitOf h (halt_bits (control f)) → Same m (stopped a h m)
  unfolding stopped
  halts c Keep a b = refl
  halts c Abrupt a b = absurd (calm (inr (inr (inr (c, inl b)))))
  halts c Smooth a b = absurd (calm (inr (inr (inr (c, inr b)))))

  order_keeps : (c : Order) → Known f (wants c) → Same m (perform c m)
  unfolding parameters_set
  order_keeps (LoadTrajectory c) (w, e) = subst (λ (c : Carried). Same m (perform (LoadTrajectory c) m)) (sym e) (load_keeps w)
  order_keeps Start k = absurd (calm (inr (inl k.0)))
  order_keeps (SetParameters v) k = refl
  order_keeps (Stop a h) (c, e) = halts c h a (subst (λ (h : Halt). BitOf h (halt_bits (control f))) (sym e) (halt_bits_lem (control f)))

  settled_keeps : (q : Request Order) → Known f q → Same m (settled Answers.stepper q m)
  settled_keeps (malformed x) k = refl
  settled_keeps (set s) k = refl
  settled_keeps reset k = absurd (calm (inr (inr (inl k))))
  settled_keeps (wants c) k = by_test (Same m) (can c m) (with_cause 0 (perform c m)) (with_cause 3 m) (λ e. order_keeps c k) (λ e. refl)

motion_steps : Steps stepper run_of onward Disturbs Calm Any
motion_steps = record {
  caused = λ c m. refl;
  asked = λ f alone m calm. settled_keeps f calm m (request f alone) (known f alone);
  tick = λ x m r. tick_steps x m;
  runs = λ p r. tt;
}

steps_are : (n : ℕ) (p : Motion) → stepped onward n p ≡ after n p
unfolding stepped
steps_are zero p = refl
steps_are (suc n) p = steps_are n (onward p)

-- ---- on the line

module _ (m : Stepper) (n : ℕ) (k : Stepper) (run : k.motion ≡ after n m.motion) (bound : Moves m → Moving m.settings.minimum m.motion) where
  counting : Moves m → Counting m.motion
  counting z = let h = bound z in record { moving = omega (arith, h.known, h.speed); counted = h.counted }

  on_its_way : Ramps m n k
  on_its_way = record {
    motion = run;
    climbs = λ z s l. subst (Climbs m.motion n) (sym run) (climb m.motion n (counting z) s l);
    falls = λ z s l. let h = bound z in subst (Falls m.motion n) (sym run) (fall m.motion n (counting z) s (omega (arith, h.known, h.goal)) l);
    slows = λ z s.
        let h = bound z in
        subst (Slows m.motion n) (sym run)
        (slow_down m.motion n (counting z) s (omega (arith, h.known, h.goal)) (omega (arith, h.slowing s, h.speed)));
  }

pub ramp_on_the_line : RampOnTheLine
ramp_on_the_line net cs i m k v h e u q =
    on_its_way m (ticks_in net cs) k
    (went stepper run_of onward Disturbs Calm Any motion_steps net cs i m v h e tt u k q ∙ steps_are (ticks_in net cs) m.motion)
    (never_below net i m v e)
