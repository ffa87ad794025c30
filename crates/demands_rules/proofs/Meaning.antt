-- Demand 2: what was proved of the line, the motion and the filter, at the servos of a network. Assumes nothing.
use mathlib.Core.Path.{◌≡◌, refl, sym, ap, subst, ◌∙◌}
use mathlib.Core.Bool.{Bool, true, false}
use Prim.Native.Nat.{ℕ, zero, suc, ◌≤◌}
use native.Mathlib.Omega.{arith}
use borrow.Author.Tests.{eqb-true, eqb-false, leb-true, leb-false}
use lib.Dec.{eqb, leb}
use lib.IntN.{ℤ, pos, negsuc, neg_ℤ, nat_abs}
use Rattle.base_layout.proofs.Laws.{of_le-le, le-of_le}
use Rattle.line_receiver.proofs.Marked.{marked}
use Rattle.line_receiver.proofs.Only.{only}
use Rattle.line_receiver.proofs.Nulls.{nulls}
use Rattle.servo_motion.specs.declared.Profile.{Profile}
use Rattle.servo_motion.specs.Trapezoid.{next_speed}
use Rattle.servo_motion.specs.Profile.{left, trapezoid, stepped, by_trapezoid, by_velocity}
use Rattle.servo_motion.specs.Promises.{Asked, Running, Toward}
use Rattle.servo_motion.proofs.Speeds.{next}
use Rattle.servo_motion.proofs.Runs.{runs}
use Rattle.servo_motion.proofs.Velocity.{velocity}
use Rattle.servo_filter.proofs.Held.{held_most}
use Rattle.servo_filter.proofs.Sizes.{largest, reached}
use Rattle.servo_filter.proofs.Answers.{only_the_integral}
use Rattle.servo_rules.specs.declared.Halt.{Halt}
use Rattle.servo_rules.specs.declared.Halt.TheVariants.{Keep, Release, Abrupt, Smooth, Here}
use Rattle.servo_rules.specs.declared.Mode.{Mode}
use Rattle.servo_rules.specs.declared.Mode.TheVariants.{Off, Pwm, Hold, Velocity, Trapezoid}
use Rattle.servo_rules.specs.declared.Run.{Run}
use Rattle.servo_rules.specs.declared.Sample.{Sample}
use Rattle.servo_rules.specs.declared.Servo.{Servo}
use Rattle.servo_rules.specs.State.{servo_off, off}
use Rattle.servo_rules.specs.Loads.{to_speed}
use Rattle.servo_rules.specs.Stops.{holding, smooth, halted_by}
use Rattle.servo_rules.specs.Tick.{advanced_by, advanced, tripped, pulsed, met, ticked}
use Rattle.servo_rules.specs.StopPromises.{Released}
use Rattle.servo_rules.specs.TickPromises.{Ticking, followed}
use Rattle.servo_rules.proofs.Keeping.{either, not_off, distinct, off_released}
use Rattle.servo_rules.proofs.Meeting.{here, before, met_runs, by_power_lem}
use Rattle.servo_rules.proofs.Ends.{tick_ends}
use Rattle.servo_rules.proofs.Ticking.{tripped_released, met-silent, ticks}
use Rattle.inout_rules.proofs.Bits.{read_value}
use Rattle.inout_rules.proofs.Shown.{shown}
use Rattle.servo_rules.proofs.Shown.{samples}
use Rattle.servo_rules.proofs.Items.{items_are}
use Rattle.servo_rules.proofs.GoingOn.{goes_on_lem}
use Rattle.servo_rules.proofs.Slowing.{no_frame_raises}
use Rattle.stepper_rules.proofs.Frames.{told}
use Rattle.stepper_rules.proofs.Doing.{obeys}
use Rattle.stepper_rules.proofs.Loading.{loading}
use Rattle.stepper_rules.proofs.Ramping.{climb, fall, slow_down}
use Rattle.stepper_rules.proofs.Ticking.{never_past, ticking}
use Rattle.types_rules.proofs.Promised.{every_type}
use Rattle.servo_slot_rules.specs.Promises.{Fits}
use Rattle.servo_slot_rules.proofs.Modes.{InMode}
use Rattle.servo_slot_rules.proofs.Good.{good}
use Rattle.servo_slot_rules.proofs.Ticks.{met_sane}
use Rattle.host_rules.proofs.Sent.{sent}
use Rattle.api_rules.proofs.Status.{status_read}
use Rattle.types_rules.specs.Types.{kind}
use Rattle.demands_history_rules.proofs.Events.{whole-event}
use Rattle.demands_rules.specs.Meaning.{ReadBack, Speeds, Meaning}

pub read_back : ReadBack
read_back n address code ds room z e = whole-event kind n z _ _ (sent address code ds room e)

-- ---- speeds

-- a trapezoid's speed without its sign, in either direction
size_of_speed : (a top : ℕ) (d v : ℤ) → nat_abs (trapezoid a top d v) ≡ next_speed a top (nat_abs d) (nat_abs v)
unfolding trapezoid
size_of_speed a top (pos d) v = refl
size_of_speed a top (negsuc d) v = unsigned (next_speed a top (suc d) (nat_abs v))
  where
    unsigned : (n : ℕ) → nat_abs (neg_ℤ (pos n)) ≡ n
    unsigned zero = refl
    unsigned (suc n) = refl

module _ (x : Sample) (m : Servo) (t : Fits m) where
  -- what the tick meets
  abbrev r : Run
  r = (met x m).run

  abbrev p : Profile
  p = r.profile

  -- the profile's own step, by the mode
  toward-goal : r.drive.mode ≡ Velocity → Toward p.acceleration p.aim p.speed (advanced r).speed
  unfolding advanced by_velocity stepped
  toward-goal e =
      subst (λ (k : Mode). Toward p.acceleration p.aim p.speed (advanced_by k p).speed) (sym e)
      (velocity p.acceleration p.aim p.speed)

  greatest-speed : r.drive.mode ≡ Trapezoid
      → Asked p.acceleration p.top (nat_abs (left p)) (nat_abs p.speed) (nat_abs (advanced r).speed) × Running (advanced r)
  unfolding advanced by_trapezoid stepped
  greatest-speed e =
      let (power, s) = met_sane (good m t) x in
      let g : Running p = (subst (λ (k : Mode). InMode k power r) e s.mode).2 in
      let a = next p.acceleration p.top (nat_abs (left p)) (nat_abs p.speed) g.stops in
      let w = sym (size_of_speed p.acceleration p.top (left p) p.speed) in
      subst (λ (k : Mode). Asked p.acceleration p.top (nat_abs (left p)) (nat_abs p.speed) (nat_abs (advanced_by k p).speed) × Running (advanced_by k p))
      (sym e)
      (subst (Asked p.acceleration p.top (nat_abs (left p)) (nat_abs p.speed)) w a, runs p s.profile g)

  abbrev After : Run → Type 0
  After k =
      (r.drive.mode ≡ Velocity → k.drive.mode ≡ Velocity → Toward p.acceleration p.aim p.speed k.profile.speed)
      × (r.drive.mode ≡ Trapezoid → k.drive.mode ≡ Trapezoid
      → Asked p.acceleration p.top (nat_abs (left p)) (nat_abs p.speed) (nat_abs k.profile.speed) × Running k.profile)
      × ((m.run.drive.mode ≡ Off → ⊥) → k.drive.mode ≡ Off → Released k)

  -- an end in off
  after-off : (k : Run) → Released k → After k
  after-off k r = (
    λ e q. absurd (distinct Off Velocity refl (sym r.mode ∙ q)),
    λ e q. absurd (distinct Off Trapezoid refl (sym r.mode ∙ q)),
    λ n q. r,
  )

  -- what goes off by power or homing is off with all that belongs to it
  met-ended : (m.run.drive.mode ≡ Off → ⊥) → r.drive.mode ≡ Off → Released r
  unfolding smooth to_speed holding
  met-ended n = met_runs x m Ends first (λ h a. by h)
    where
      Ends : Run → Type 0
      Ends s = s.drive.mode ≡ Off → Released s

      first : Ends (before x m)
      first = by_power_lem Ends x.power m.run (λ z e. off_released m.run) (λ z e. absurd (n e))

      by : (h : Halt) → Ends (halted_by h (here x m) 0 (before x m))
      by Keep = first
      by Release = λ e. off_released (before x m)
      by Abrupt = λ e. absurd (distinct Hold Off refl e)
      by Smooth =
          either Ends (servo_off (before x m).drive.mode) (off (before x m))
          (to_speed (before x m).profile.setpoint (pos 0) (before x m).profile.acceleration (before x m))
          (λ e. off_released (before x m)) (λ e. absurd (distinct Velocity Off refl e))
      by Here = λ e. absurd (distinct Hold Off refl e)

  speeds : Speeds x m p (ticked x m).run.profile
  unfolding pulsed
  speeds =
      let a : After (ticked x m).run = tick_ends After x m (record {
        off = λ q. (
          λ e z. absurd (distinct Off Velocity refl (sym q ∙ e)),
          λ e z. absurd (distinct Off Trapezoid refl (sym q ∙ e)),
          λ n z. met-ended n q,
        );
        pwm = λ q. (
          λ e z. absurd (distinct Pwm Velocity refl (sym q ∙ e)),
          λ e z. absurd (distinct Pwm Trapezoid refl (sym q ∙ e)),
          λ n z. absurd (distinct Pwm Off refl (sym q ∙ z)),
        );
        output = λ s t q. (λ e z. toward-goal e, λ e z. greatest-speed e, λ n z. absurd (not_off r.drive.mode s z));
        trip = λ q. after-off (tripped (advanced r) r) (tripped_released r).0;
      }) in
      record { velocity = a.0; trapezoid = a.1; off = a.2 }

  -- ---- outputs

  Most : ℤ → Type 0
  Most z = nat_abs z ≤ m.settings.tuning.gains.ol

  none_most : (z : ℤ) → z ≡ pos 0 → Most z
  unfolding Most
  none_most z e = omega (arith, ap nat_abs e)

  served : Ticking x m → (x.power ≡ 1) → servo_off r.drive.mode ≡ false → Most (ticked x m).run.drive.output
  unfolding Most
  served k w s = at (leb (nat_abs (followed x m)) m.settings.tuning.gains.el) refl
    where
      at : (b : Bool) → leb (nat_abs (followed x m)) m.settings.tuning.gains.el ≡ b → nat_abs (ticked x m).run.drive.output ≤ m.settings.tuning.gains.ol
      at true e =
          let q = (k.runs s (leb-true _ _ e)).output w in
          subst (λ (z : ℤ). nat_abs z ≤ m.settings.tuning.gains.ol) (sym q) (held_most m.settings.tuning.gains.ol _)
      at false e = none_most _ (k.trip s (leb-false _ _ e)).0.output

  output_most : nat_abs (ticked x m).run.drive.output ≤ m.settings.tuning.gains.ol
  unfolding Most
  output_most = by (eqb x.power 1) refl
    where
      k : Ticking x m
      k = ticks x m

      silent : m.run.drive.mode ≡ Off → m.run.drive.output ≡ pos 0
      silent e = (subst (λ (k : Mode). InMode k m.latched.power m.run) e (good m t).sane.mode).1

      mode : x.power ≡ 1 → (j : Mode) → r.drive.mode ≡ j → nat_abs (ticked x m).run.drive.output ≤ m.settings.tuning.gains.ol
      mode w Off e = none_most _ (ap (λ (n : Servo). n.run.drive.output) (k.off e) ∙ met-silent x m silent e)
      mode w Pwm e =
          subst (λ (z : ℤ). nat_abs z ≤ m.settings.tuning.gains.ol) (sym ((k.pulse e).4 w)) (held_most m.settings.tuning.gains.ol r.drive.pulse)
      mode w Hold e = served k w (ap servo_off e)
      mode w Velocity e = served k w (ap servo_off e)
      mode w Trapezoid e = served k w (ap servo_off e)

      by : (b : Bool) → eqb x.power 1 ≡ b → nat_abs (ticked x m).run.drive.output ≤ m.settings.tuning.gains.ol
      by true w = mode (eqb-true _ _ w) r.drive.mode refl
      by false w = none_most _ (k.unpowered (eqb-false _ _ w) silent)

pub meaning : Meaning
meaning = record {
  read_back = read_back;
  only_written = only;
  marked = marked;
  nulls = nulls;
  status_read = status_read;
  read_value = read_value;
  inout_shown = shown;
  servo_shown = samples;
  items = items_are;
  replied = λ t. (every_type t).replied;
  no_frame_raises = no_frame_raises;
  goes_on = goes_on_lem;
  speeds = speeds;
  output = output_most;
  as_the_base = only_the_integral;
  largest = largest;
  reached = reached;
  stepper_loads = loading;
  stepper_obeys = obeys;
  stepper_tells = told;
  never_past = never_past;
  climb = climb;
  fall = fall;
  slow_down = slow_down;
  stepper_ticks = ticking;
  bytes = of_le-le;
  numbers = le-of_le;
}
