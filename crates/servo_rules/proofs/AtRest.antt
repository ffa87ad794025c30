-- A servo at rest stays so until a start is carried out, one that is off until a start or a Stop that holds. Assumes nothing.
use mathlib.Core.Path.{◌≡◌, refl, sym, ap, subst, ◌∙◌}
use mathlib.Core.Logic.{◌⊎◌, inl, inr}
use mathlib.Core.Bool.{Bool, true}
use Prim.Native.Nat.{ℕ, ◌^◌, ◌<◌}
use native.Mathlib.Omega.{arith}
use lib.ListN.{get_or}
use lib.IntN.{pos}
use Rattle.base_integers.specs.Bits.{is_set}
use Rattle.line_receiver.specs.Frames.{Frame}
use Rattle.module_rules.specs.Rules.{wants}
use Rattle.module_rules.proofs.Settled.{cause}
use Rattle.servo_motion.specs.declared.Profile.{Profile}
use Rattle.servo_rules.specs.declared.Halt.{Halt}
use Rattle.servo_rules.specs.declared.Halt.TheVariants.{Keep, Release, Abrupt, Smooth, Here}
use Rattle.servo_rules.specs.declared.Order.{Order}
use Rattle.servo_rules.specs.declared.Order.TheVariants.{ResetPosition, LoadTrajectory, Start, SetGain, Stop, SetHoming, ClearBits}
use Rattle.servo_rules.specs.declared.Mode.TheVariants.{Off, Hold, Velocity, Trapezoid}
use Rattle.servo_rules.specs.declared.Run.{Run}
use Rattle.servo_rules.specs.declared.Sample.{Sample}
use Rattle.servo_rules.specs.declared.Servo.{Servo}
use Rattle.servo_rules.specs.Carried.{carried_in}
use Rattle.servo_rules.specs.State.{position, servo_off, idled, off}
use Rattle.servo_rules.specs.Loads.{loaded, starts_now, to_speed, start}
use Rattle.servo_rules.specs.Stops.{holding, smooth, halted_by}
use Rattle.servo_rules.specs.Perform.{shifted, reset_position, stopped, perform}
use Rattle.servo_rules.specs.Tick.{tripped, pulsed, met, ticked}
use Rattle.servo_rules.specs.Answers.{servo, execute}
use Rattle.servo_rules.specs.LoadPromises.{Starting}
use Rattle.servo_rules.specs.StopPromises.{Released, Counted}
use Rattle.servo_rules.specs.HomingPromises.{Acts, HeldHere}
use Rattle.servo_rules.specs.RestPromises.{Rests, Resting, StaysResting, TurnsOn, StaysOff}
use Rattle.servo_rules.proofs.Keeping.{by_test, either, distinct, off_released, halted_released}
use Rattle.servo_rules.proofs.Meeting.{here, before, not_here, met_runs, by_power_lem, abrupt_or_not}
use Rattle.servo_rules.proofs.MeetingKeeps.{met_released}
use Rattle.servo_rules.proofs.FindingHome.{abrupt_runs, homing_ticks}
use Rattle.servo_rules.proofs.Known.{Known, known, BitOf, halt_bits, halt_bits_lem}
use Rattle.servo_rules.proofs.Apart.{apart}
use Rattle.servo_rules.proofs.Framed.{leaves}
use Rattle.servo_rules.proofs.Shifting.{resets_position}
use Rattle.servo_rules.proofs.Ends.{tick_ends}
use Rattle.servo_rules.proofs.Ticking.{ticks}
use Rattle.servo_rules.proofs.Idle.{Still, rest-advanced}

-- off or holding, with no speed
off_rests : (p : Profile) → p.speed ≡ pos 0 → Rests p Off (pos 0)
off_rests p e = record { speed = e; pulse = refl; aim = λ q. absurd (distinct Off Velocity refl q); goal = λ q. absurd (distinct Off Trapezoid refl q) }

hold_rests : (p : Profile) → p.speed ≡ pos 0 → Rests p Hold (pos 0)
hold_rests p e = record { speed = e; pulse = refl; aim = λ q. absurd (distinct Hold Velocity refl q); goal = λ q. absurd (distinct Hold Trapezoid refl q) }

slow_rests : (r : Run) → Still r → Still (to_speed r.profile.setpoint (pos 0) r.profile.acceleration r)
unfolding to_speed
slow_rests r s = record { speed = s.speed; pulse = refl; aim = λ q. refl; goal = λ q. absurd (distinct Velocity Trapezoid refl q) }

smooth_rests : (r : Run) → Still r → Still (smooth r)
unfolding smooth off idled
smooth_rests r s = either Still (servo_off r.drive.mode) (off r) (to_speed r.profile.setpoint (pos 0) r.profile.acceleration r)
    (off_rests _ refl)
    (slow_rests r s)

pub halted_rests : (h : Halt) (here x : ℕ) (r : Run) → Still r → Still (halted_by h here x r)
unfolding off idled holding
halted_rests Keep here x r s = s
halted_rests Release here x r s = off_rests _ refl
halted_rests Abrupt here x r s = hold_rests _ refl
halted_rests Smooth here x r s = smooth_rests r s
halted_rests Here here x r s = hold_rests _ refl

pub order_rests : (c : Order) (m : Servo) → Counted m → Resting m → (Starting c → ⊥) → Resting (perform c m)
unfolding reset_position shifted loaded stopped
order_rests ResetPosition m k r n = record { speed = r.speed; pulse = r.pulse; aim = r.aim; goal = λ q. (resets_position m k).far ∙ r.goal q }
order_rests (LoadTrajectory c) m k r n = by_test Resting (starts_now c) (start (loaded c m)) (loaded c m) (λ t. absurd (n t)) (λ t. r)
order_rests Start m k r n = absurd (n tt)
order_rests (SetGain t) m k r n = r
order_rests (Stop a h x) m k r n = halted_rests h (position m) x m.run r
order_rests (SetHoming b) m k r n = r
order_rests ClearBits m k r n = r

-- power and the stops that do not hold leave the setpoint
module _ (x : Sample) (m : Servo) where
  powered_setpoint : (before x m).profile.setpoint ≡ m.run.profile.setpoint
  unfolding off idled
  powered_setpoint = by_power_lem (λ (s : Run). s.profile.setpoint ≡ m.run.profile.setpoint) x.power m.run (λ e. refl) (λ n. refl)

  met_setpoint : (Acts Abrupt x m → ⊥) → (met x m).run.profile.setpoint ≡ m.run.profile.setpoint
  unfolding smooth off idled to_speed
  met_setpoint n =
      met_runs x m (λ (s : Run). s.profile.setpoint ≡ m.run.profile.setpoint) powered_setpoint (λ h a. by h a ∙ powered_setpoint)
    where
      slow : (r : Run) → (smooth r).profile.setpoint ≡ r.profile.setpoint
      slow r = either (λ (s : Run). s.profile.setpoint ≡ r.profile.setpoint) (servo_off r.drive.mode) (off r)
          (to_speed r.profile.setpoint (pos 0) r.profile.acceleration r) refl refl

      by : (h : Halt) → Acts h x m → (halted_by h (here x m) 0 (before x m)).profile.setpoint ≡ (before x m).profile.setpoint
      by Keep a = refl
      by Release a = refl
      by Abrupt a = absurd (n a)
      by Smooth a = slow (before x m)
      by Here a = absurd (not_here m.homing.byte a.asked)

  met_small : m.run.profile.setpoint < 2 ^ 48 → (met x m).run.profile.setpoint < 2 ^ 48
  unfolding holding
  met_small h = at (abrupt_or_not x m)
    where
      at : Acts Abrupt x m ⊎ (Acts Abrupt x m → ⊥) → (met x m).run.profile.setpoint < 2 ^ 48
      at (inl a) = let e = ap (λ (r : Run). r.profile.setpoint) (abrupt_runs x m a) in omega arith
      at (inr n) = let e = met_setpoint n in omega arith

-- what is met of a servo at rest is at rest
module _ (x : Sample) (m : Servo) (r : Resting m) where
  powered_rests : Still (before x m)
  unfolding off idled
  powered_rests = by_power_lem Still x.power m.run (λ e. off_rests _ refl) (λ n. r)

  met_rests : Still (met x m).run
  met_rests =
      met_runs x m Still powered_rests (λ h a. halted_rests h (here x m) 0 (before x m) powered_rests)

  -- profile and filter leave it so
  tick_rests : (met x m).run.profile.setpoint < 2 ^ 48
      → Still (ticked x m).run × ((ticked x m).run.profile.setpoint ≡ (met x m).run.profile.setpoint)
  unfolding pulsed tripped idled off
  tick_rests h =
      let e = rest-advanced (met x m).run h met_rests in
      tick_ends (λ (s : Run). Still s × (s.profile.setpoint ≡ (met x m).run.profile.setpoint)) x m (record {
        off = λ q. (met_rests, refl);
        pwm = λ q. (met_rests, refl);
        output = λ s t q. (
          subst (λ (p : Profile). Rests p (met x m).run.drive.mode (met x m).run.drive.pulse) (sym e) met_rests,
          ap (λ (p : Profile). p.setpoint) e,
        );
        trip = λ q. (off_rests _ refl, ap (λ (p : Profile). p.setpoint) e);
      })

pub stays_resting : StaysResting
stays_resting = record {
  power = off_rests _ refl;
  frame = λ f alone m k r n.
      leaves Resting f alone m (record {
        kept = λ s. r;
        renewed = λ d q. off_rests _ refl;
        performed = λ c d q t. order_rests c m k r (n c d q t);
      });
  tick = λ x m h r. ((tick_rests x m r (met_small x m h)).0, put x m h r (abrupt_or_not x m));
}
  where
    put : (x : Sample) (m : Servo) → m.run.profile.setpoint < 2 ^ 48 → Resting m → Acts Abrupt x m ⊎ (Acts Abrupt x m → ⊥)
        → ((ticked x m).run.profile.setpoint ≡ m.run.profile.setpoint) ⊎ (Acts Abrupt x m × HeldHere (ticked x m))
    put x m h r (inl a) = inr (a, (homing_ticks x m).holds a)
    put x m h r (inr n) = inl ((tick_rests x m r (met_small x m h)).1 ∙ met_setpoint x m n)

-- ---- off

halted-off : (a : Bool) (h : Halt) (x : ℕ) (m : Servo) → Released m.run → ((h ≡ Abrupt) ⊎ (h ≡ Here) → ⊥) → Released (stopped a h x m).run
unfolding stopped
halted-off a h x m r n =
    let q = halted_released h (position m) x m.run r n in
    record { mode = q.mode; speed = q.speed; output = q.output; pulse = q.pulse; cut = q.cut; memory = q.memory }

-- the orders after which a servo that was off may drive
abbrev pub Rousing : Order → Type 0
Rousing ResetPosition = ⊥
Rousing (LoadTrajectory c) = starts_now c ≡ true
Rousing Start = Unit {0}
Rousing (SetGain t) = ⊥
Rousing (Stop a h x) = (h ≡ Abrupt) ⊎ (h ≡ Here)
Rousing (SetHoming b) = ⊥
Rousing ClearBits = ⊥

order-off : (c : Order) (m : Servo) → Released m.run → (Rousing c → ⊥) → Released (perform c m).run
unfolding reset_position shifted loaded
order-off ResetPosition m r n = record { mode = r.mode; speed = r.speed; output = r.output; pulse = r.pulse; cut = r.cut; memory = r.memory }
order-off (LoadTrajectory c) m r n =
    by_test (λ (k : Servo). Released k.run) (starts_now c) (start (loaded c m)) (loaded c m) (λ t. absurd (n t)) (λ t. r)
order-off Start m r n = absurd (n tt)
order-off (SetGain t) m r n = r
order-off (Stop a h x) m r n = halted-off a h x m r n
order-off (SetHoming b) m r n = r
order-off ClearBits m r n = record { mode = r.mode; speed = r.speed; output = r.output; pulse = r.pulse; cut = r.cut; memory = r.memory }

-- a frame that asks for one has its code and its bits
pub rouses : (f : Frame) (c : Order) → Known f (wants c) → Rousing c → TurnsOn f
unfolding carried_in
rouses f ResetPosition k o = absurd o
rouses f (LoadTrajectory c) (w, e) o = inl (w.0, ap starts_now (sym e) ∙ o)
rouses f Start (c, n) o = inr (inl c)
rouses f (SetGain t) k o = absurd o
rouses f (Stop a h x) (c, e, y, n, b, w) o = inr (inr (c, at o))
  where
    bits : (j : Halt) → h ≡ j → BitOf j (halt_bits (get_or f.content 0 0))
    bits j q = subst (λ (j : Halt). BitOf j (halt_bits (get_or f.content 0 0))) (sym e ∙ q) (halt_bits_lem (get_or f.content 0 0))

    at : (h ≡ Abrupt) ⊎ (h ≡ Here) → (is_set 2 (get_or f.content 0 0) ≡ true) ⊎ (is_set 4 (get_or f.content 0 0) ≡ true)
    at (inl q) = inl (bits Abrupt q)
    at (inr q) = inr (bits Here q)
rouses f (SetHoming b) k o = absurd o
rouses f ClearBits k o = absurd o

-- without an abrupt stop a tick leaves off what is off
tick_off : (x : Sample) (m : Servo) → Released m.run → Released (ticked x m).run ⊎ (Acts Abrupt x m × HeldHere (ticked x m))
tick_off x m r = at (abrupt_or_not x m)
  where
    at : Acts Abrupt x m ⊎ (Acts Abrupt x m → ⊥) → Released (ticked x m).run ⊎ (Acts Abrupt x m × HeldHere (ticked x m))
    at (inl a) = inr (a, (homing_ticks x m).holds a)
    at (inr n) =
        let k = met_released x m (by_power_lem Released x.power m.run (λ e. off_released m.run) (λ e. r)) n in
        inl (subst Released (sym (ap (λ (n : Servo). n.run) ((ticks x m).off k.mode))) k)

pub stays_off : StaysOff
stays_off = record {
  frame = λ f alone m r n.
      leaves (λ (k : Servo). Released k.run) f alone m (record {
        kept = λ s. r;
        renewed = λ d q. record { mode = refl; speed = refl; output = refl; pulse = refl; cut = refl; memory = refl };
        performed = λ c d q t.
            let z : (execute f alone m).station.cause ≡ 0 = ap (λ (k : Servo). k.station.cause) ((cause servo apart f alone m).executed c d q t) in
            order-off c m r (λ o. n d z (rouses f c (subst (Known f) q (known f alone)) o));
      });
  tick = tick_off;
}
