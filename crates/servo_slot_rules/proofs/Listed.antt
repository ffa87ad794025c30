-- A slot is valid exactly when it satisfies the written list. Assumes nothing.
use mathlib.Core.Path.{◌≡◌, refl}
use mathlib.Core.List.{List}
use mathlib.Core.Logic.{◌⊎◌, inl, inr}
use mathlib.Core.Bool.{Bool, true, false, ◌||◌, false≢true}
use Prim.Native.Nat.{ℕ}
use borrow.Author.Tests.{eqb-true, leb-true}
use lib.Dec.{eqb}
use lib.IntN.{pos}
use Rattle.base_layout.specs.Bytes.{Bytes}
use Rattle.base_layout.proofs.Every.{every_hold}
use Rattle.base_layout.proofs.Codec.{head_sound}
use Rattle.servo_rules.specs.declared.Mode.{Mode}
use Rattle.servo_rules.specs.declared.Mode.TheVariants.{Off, Pwm, Hold, Velocity, Trapezoid}
use Rattle.servo_rules.specs.declared.Run.{Run}
use Rattle.servo_rules.specs.declared.Servo.{Servo}
use Rattle.servo_rules.specs.State.{servo_off}
use Rattle.servo_rules.specs.Homing.{good_byte}
use Rattle.servo_slot_rules.specs.List.{homing_fits}
use Rattle.servo_slot_rules.specs.Slot.{slot, decode_of, ok_of}
use Rattle.servo_slot_rules.specs.Promises.{Fits, Lines, Listed}
use Rattle.servo_slot_rules.proofs.Modes.{Live, InMode}
use Rattle.servo_slot_rules.proofs.Good.{rates-good, good}
use Rattle.servo_slot_rules.proofs.Ticks.{gains-ranged}
use Rattle.servo_slot_rules.proofs.Passed.{passed}

module _ (power : ℕ) (r : Run) where
  no_pulse : (k : Mode) → (k ≡ Pwm → ⊥) → InMode k power r → r.drive.pulse ≡ pos 0
  no_pulse Off n t = t.2
  no_pulse Pwm n t = absurd (n refl)
  no_pulse Hold n t = t.1
  no_pulse Velocity n t = t.0
  no_pulse Trapezoid n t = t.0

  is_live : (k : Mode) → (k ≡ Off → ⊥) → InMode k power r → Live power r.drive.error
  is_live Off n t = absurd (n refl)
  is_live Pwm n t = t.1
  is_live Hold n t = t.2
  is_live Velocity n t = t.1
  is_live Trapezoid n t = t.1

  is_uncut : (k : Mode) → servo_off k ≡ true → InMode k power r → r.drive.cut ≡ false
  is_uncut Off e t = t.0.uncut
  is_uncut Pwm e t = t.0.uncut
  is_uncut Hold e t = absurd (false≢true e)
  is_uncut Velocity e t = absurd (false≢true e)
  is_uncut Trapezoid e t = absurd (false≢true e)

none_or_good : (b : ℕ) → homing_fits b ≡ true → (b ≡ 0) ⊎ (good_byte b ≡ true)
unfolding homing_fits
none_or_good b = at (eqb b 0) refl
  where
    at : (t : Bool) → eqb b 0 ≡ t → (t || good_byte b) ≡ true → (b ≡ 0) ⊎ (good_byte b ≡ true)
    at true e h = inl (eqb-true _ _ e)
    at false e h = inr h

lines : (s : List ℕ) → Bytes s → ok_of s ≡ true → Lines s (decode_of s)
unfolding ok_of decode_of
lines s b v =
    let m : Servo = decode_of s in
    let t : Fits m = head_sound slot.lawful s b v in
    let g = good m t in
    let rates = rates-good m.settings.rates g.settings.1.0 in
    let i : InMode m.run.drive.mode m.latched.power m.run = g.sane.mode in
    let first = every_hold (slot.codec.tests 0 s) v in
    let flags = first.1.1.1.1.1.1.1.1.1.1.1 in
    let loads = flags.1.1.1 in
    let drives = loads.1.1.1.1.1.1.1 in
    record {
      type_byte = eqb-true _ _ first.0;
      leader = leb-true _ _ first.1.0;
      low = leb-true _ _ first.1.1.0;
      cause = g.station.1.0.1;
      latched_power = g.latched.0.1;
      latched_inputs = g.latched.1.1.1.1;
      gains = gains-ranged _ g.settings.0.0;
      paced = leb-true _ _ flags.0;
      ramped = leb-true _ _ flags.1.0;
      velocity = rates.velocity;
      acceleration = rates.acceleration;
      loaded_force = rates.force;
      waits = leb-true _ _ loads.0;
      way = leb-true _ _ loads.1.0;
      placed = leb-true _ _ loads.1.1.0;
      pulsed = leb-true _ _ loads.1.1.1.0;
      reverse = leb-true _ _ loads.1.1.1.1.0;
      speed = g.sane.profile.speed;
      aim = g.sane.profile.aim;
      running_acceleration = g.sane.profile.acceleration;
      top = g.sane.profile.top;
      integral = g.sane.memory.integral;
      previous = g.sane.memory.previous;
      mode = leb-true _ _ drives.0;
      pulse = g.sane.pulse;
      output = g.sane.output;
      error = leb-true _ _ drives.1.0;
      amplifier = leb-true _ _ drives.1.1.0;
      cut = leb-true _ _ drives.1.1.1.0;
      homing = none_or_good m.homing.byte g.homing.1.1;
      powerless = g.sane.powerless;
      off = λ e. let x = rw e at i in (x.0.rest, x.1);
      off_empty = λ e. let x = rw e at i in (x.0.integral, x.0.previous);
      pwm = λ e. (rw e at i).0.rest;
      pwm_empty = λ e. let x = rw e at i in (x.0.integral, x.0.previous);
      uncut = λ e. is_uncut _ _ m.run.drive.mode e i;
      hold = λ e. (rw e at i).0;
      trapezoid = λ e. (rw e at i).2;
      unpulsed = λ k. no_pulse _ _ m.run.drive.mode k i;
      clear = λ k. (is_live _ _ m.run.drive.mode k i).clear;
      alive = λ k. (is_live _ _ m.run.drive.mode k i).alive;
    }

pub listed : Listed
listed s b = (lines s b, passed s)
