-- Set Gain, Reset Position, Stop, Set Homing and Clear Bits leave a servo such as a slot can hold. Assumes nothing.
use mathlib.Core.Path.{◌≡◌, refl, ap}
use mathlib.Core.List.{List}
use mathlib.Core.Bool.{Bool, true, false, cond, or-true}
use Prim.Native.Nat.{ℕ, ◌^◌, ◌<◌, ◌≤◌}
use native.Mathlib.Omega.{arith}
use lib.Dec.{eqb}
use lib.IntN.{pos, nat_abs}
use Rattle.base_integers.specs.Whole.{less}
use Rattle.base_integers.proofs.Same.{same_eq}
use Rattle.base_layout.specs.Bytes.{Bytes}
use Rattle.servo_motion.specs.declared.Profile.{Profile}
use Rattle.servo_motion.specs.Profile.{Ranged, left}
use Rattle.servo_motion.proofs.Runs.{rest}
use Rattle.servo_motion.proofs.Near.{near}
use Rattle.servo_rules.specs.declared.Halt.{Halt}
use Rattle.servo_rules.specs.declared.Halt.TheVariants.{Keep, Release, Abrupt, Smooth, Here}
use Rattle.servo_rules.specs.declared.Order.TheVariants.{SetGain, SetHoming, ClearBits}
use Rattle.servo_rules.specs.declared.Mode.{Mode}
use Rattle.servo_rules.specs.declared.Mode.TheVariants.{Off, Pwm, Hold, Velocity, Trapezoid}
use Rattle.servo_rules.specs.declared.Run.{Run}
use Rattle.servo_rules.specs.declared.Servo.{Servo}
use Rattle.servo_rules.specs.Asks.{gains_in, tuning_in, gains_fit}
use Rattle.servo_rules.specs.State.{position, setpoint_at, ready, servo_off, dropped, with_profile, erring, amplified, off}
use Rattle.servo_rules.specs.Loads.{at_rest, to_speed}
use Rattle.servo_rules.specs.Stops.{holding, smooth, halted_by, drops, can_halt}
use Rattle.servo_rules.specs.Homing.{good_byte, home_from}
use Rattle.servo_rules.specs.Perform.{shifted, reset_position, stopped, perform}
use Rattle.servo_rules.proofs.Bounds.{gain_range, fit}
use Rattle.servo_rules.proofs.Keeping.{either}
use Rattle.servo_rules.proofs.Shifting.{resets_position}
use Rattle.servo_slot_rules.specs.List.{homing_fits}
use Rattle.servo_slot_rules.specs.Slot.{gains, settings}
use Rattle.servo_slot_rules.proofs.Modes.{Live, InMode}
use Rattle.servo_slot_rules.proofs.Good.{Sane, Good}
use Rattle.servo_slot_rules.proofs.Replaced.{counts-good, settings-good, run-good, homing-good, dropped_fits, blank_kept, resting-ranged, off_sane, ready-live}
use Rattle.servo_slot_rules.proofs.Starts.{to_speed_sane}

-- ---- what runs

shifted-ranged : (x : ℕ) (p : Profile) → Ranged p → Ranged (shifted x p)
unfolding shifted
shifted-ranged x p r = record {
  setpoint = omega arith;
  speed = r.speed;
  goal = omega arith;
  aim = r.aim;
  acceleration = r.acceleration;
  top = r.top;
}

-- holding needs no more of what ran than a profile and an output
pub holding_sane : (power x : ℕ) (r : Run) → Ranged r.profile → nat_abs r.drive.output ≤ 255
    → ((power ≡ 1 → ⊥) → r.drive.output ≡ pos 0) → x < 2 ^ 32 → Live power r.drive.error → Sane power (holding x r)
unfolding holding
holding_sane power x r p o n h l = record {
  profile = resting-ranged (setpoint_at x) r.profile (omega arith) p;
  memory = blank_kept;
  pulse = omega arith;
  output = o;
  powerless = n;
  mode = (refl, refl, l);
}

module _ {power : ℕ} {r : Run} (s : Sane power r) where
  shifted_sane : (x : ℕ) → at_rest r ≡ true → left (shifted x r.profile) ≡ left r.profile → Sane power (with_profile (shifted x r.profile) r)
  unfolding shifted
  shifted_sane x e same = record {
    profile = shifted-ranged x r.profile s.profile;
    memory = s.memory;
    pulse = s.pulse;
    output = s.output;
    powerless = s.powerless;
    mode = at r.drive.mode s.mode;
  }
    where
      at : (k : Mode) → InMode k power r → InMode k power (with_profile (shifted x r.profile) r)
      at Off t = t
      at Pwm t = t
      at Hold t = t
      at Velocity t = t
      at Trapezoid t =
          let p : Profile = shifted x r.profile in
          let short = (near r.profile.goal r.profile.setpoint).0 t.2.near in
          (t.0, t.1, rest p t.2.force (same_eq _ _ e) ((near p.goal p.setpoint).1 (omega (arith, ap nat_abs same))))

  pub smooth_sane : Sane power (smooth r)
  unfolding smooth
  smooth_sane = at r.drive.mode s.mode
    where
      slowed : Live power r.drive.error → Sane power (to_speed r.profile.setpoint (pos 0) r.profile.acceleration r)
      slowed l = to_speed_sane s l _ _ _ s.profile.setpoint (omega arith) s.profile.acceleration

      at : (k : Mode) → InMode k power r → Sane power (cond (servo_off k) (off r) (to_speed r.profile.setpoint (pos 0) r.profile.acceleration r))
      at Off t = off_sane power r s.profile
      at Pwm t = off_sane power r s.profile
      at Hold t = slowed t.2
      at Velocity t = slowed t.1
      at Trapezoid t = slowed t.1

  -- the drive's two bits: what was clear of errors stays so
  bits_sane : (e a : Bool) → (r.drive.error ≡ false → e ≡ false) → Sane power (erring e (amplified a r))
  bits_sane e a h = record {
    profile = s.profile;
    memory = s.memory;
    pulse = s.pulse;
    output = s.output;
    powerless = s.powerless;
    mode = at r.drive.mode s.mode;
  }
    where
      clear : Live power r.drive.error → Live power e
      clear l = record { clear = h l.clear; alive = l.alive }

      at : (k : Mode) → InMode k power r → InMode k power (erring e (amplified a r))
      at Off t = t
      at Pwm t = (t.0, clear t.1)
      at Hold t = (t.0, t.1, clear t.2)
      at Velocity t = (t.0, clear t.1)
      at Trapezoid t = (t.0, clear t.1, t.2)

-- ---- the orders

module _ {m : Servo} (g : Good m) where
  pub gain-good : (ds : List ℕ) → Bytes ds → gains_fit (gains_in ds) ≡ true → Good (perform (SetGain (tuning_in ds)) m)
  gain-good ds b e =
      let f = fit ds b in
      let r = (gain_range (gains_in ds)).0 e in
      let told : gains.codec.fits (gains_in ds) = ((f.kp, omega arith), ((f.kd, omega arith), ((f.ki, omega arith), ((f.il, omega arith), (f.ol, (f.el, omega arith)))))) in
      settings-good g _ ((told, (f.cl, f.sm)), g.settings.1)

  pub reset_good : at_rest m.run ≡ true → Good (reset_position m)
  unfolding reset_position
  reset_good e =
      let same = (resets_position m (record { profile = g.sane.profile; raw = g.latched.1.1.0; last = g.counts.1 })).far in
      counts-good
      (settings-good
      (run-good (homing-good g (home_from (position m) m.homing) (omega arith, g.homing.1)) _ (shifted_sane g.sane (position m) e same)) _
      (dropped_fits m.settings g.settings))
      (record { offset = m.latched.raw; last = less m.counts.last (position m) })
      (g.latched.1.1.0, omega arith)

  held : (x : ℕ) → x < 2 ^ 32 → ready m ≡ true → Sane m.latched.power (holding x m.run)
  held x l e = holding_sane m.latched.power x m.run g.sane.profile g.sane.output g.sane.powerless l (ready-live m e)

  halted_sane : (h : Halt) (x : ℕ) → x < 2 ^ 32 → can_halt h m ≡ true → Sane m.latched.power (halted_by h (position m) x m.run)
  halted_sane Keep x l e = g.sane
  halted_sane Release x l e = off_sane m.latched.power m.run g.sane.profile
  halted_sane Abrupt x l e = held (position m) (omega arith) e
  halted_sane Smooth x l e = smooth_sane g.sane
  halted_sane Here x l e = held x l e

  pub stop-good : (a : Bool) (h : Halt) (x : ℕ) → x < 2 ^ 32 → can_halt h m ≡ true → Good (stopped a h x m)
  unfolding stopped
  stop-good a h x l e =
      settings-good (run-good g _ (bits_sane (halted_sane h x l e) (halted_by h (position m) x m.run).drive.error a (λ z. z)))
      _ (either settings.codec.fits (drops h) (dropped m.settings) m.settings (dropped_fits m.settings g.settings) g.settings)

  -- a good byte is one that a slot can hold
  pub homing-set-good : (b : ℕ) → b < 256 → good_byte b ≡ true → Good (perform (SetHoming b) m)
  unfolding homing_fits
  homing-set-good b l e = homing-good g _ (g.homing.0, (l, rw e (or-true (eqb b 0))))

  pub clear-good : Good (perform ClearBits m)
  clear-good = run-good g _ (bits_sane g.sane false m.run.drive.amplifier (λ e. refl))
