-- A tick leaves a servo such as a slot can hold. Assumes nothing.
use mathlib.Core.Path.{◌≡◌, refl, sym, subst}
use mathlib.Core.List.{[], ◌∷◌}
use mathlib.Core.Bool.{Bool, true, not}
use Prim.Native.Nat.{ℕ, ◌≤◌}
use native.Mathlib.Omega.{arith}
use borrow.Author.Tests.{eqb-true, ne_eqb}
use lib.IntN.{ℤ, pos, nat_abs}
use Rattle.base_layout.proofs.Every.{every_hold}
use Rattle.servo_motion.proofs.Runs.{runs}
use Rattle.servo_filter.specs.declared.Gains.{Gains}
use Rattle.servo_filter.specs.declared.Memory.{Memory}
use Rattle.servo_filter.specs.Filter.{Kept, held, filtered, Told, told}
use Rattle.servo_filter.specs.Promises.{Ranged}
use Rattle.servo_filter.proofs.Held.{held_most}
use Rattle.servo_filter.proofs.Answers.{within, keeps}
use Rattle.servo_rules.specs.declared.Halt.{Halt}
use Rattle.servo_rules.specs.declared.Halt.TheVariants.{Keep, Release, Abrupt, Smooth, Here}
use Rattle.servo_rules.specs.declared.Settings.{Settings}
use Rattle.servo_rules.specs.declared.Sample.{Sample}
use Rattle.servo_rules.specs.declared.Mode.{Mode}
use Rattle.servo_rules.specs.declared.Mode.TheVariants.{Off, Pwm, Hold, Velocity, Trapezoid}
use Rattle.servo_rules.specs.declared.Run.{Run}
use Rattle.servo_rules.specs.declared.Servo.{Servo}
use Rattle.servo_rules.specs.State.{good, ready, dropped, running, putting, with_profile, erring, idled, off}
use Rattle.servo_rules.specs.Stops.{holding, halted_by, drops}
use Rattle.servo_rules.specs.Tick.{advanced, put_out, tripped, worked_to, followed_at, servoed, pulsed, driven_by, met, ticked}
use Rattle.servo_rules.specs.HomingPromises.{after_power, Acts}
use Rattle.servo_rules.proofs.Keeping.{either, distinct}
use Rattle.servo_rules.proofs.Meeting.{here as place, before, not_here, meets, tick_is, met_runs, by_power_lem}
use Rattle.servo_rules.proofs.Ticking.{low_off}
use Rattle.servo_rules.proofs.Ranges.{advanced-ranged}
use Rattle.servo_slot_rules.specs.Slot.{sample, gains, load, homing}
use Rattle.servo_slot_rules.proofs.Modes.{InMode}
use Rattle.servo_slot_rules.proofs.Good.{Sane, Good}
use Rattle.servo_slot_rules.proofs.Replaced.{no_load_fits, home_fits, off_sane, ready-live}
use Rattle.servo_slot_rules.proofs.Orders.{holding_sane, smooth_sane}

pub gains-ranged : (g : Gains) → gains.codec.fits g → Ranged g
gains-ranged g t = record { kp = omega arith; kd = omega arith; ki = omega arith; il = omega arith; el = omega arith }

-- what is put out is no larger, and nothing without good power
module _ (power : ℕ) (u : ℤ) where
  put_most : nat_abs u ≤ 255 → nat_abs (put_out power u) ≤ 255
  unfolding put_out
  put_most h = either (λ (z : ℤ). nat_abs z ≤ 255) (good power) u (pos 0) h (omega arith)

  put_powerless : (power ≡ 1 → ⊥) → put_out power u ≡ pos 0
  unfolding put_out
  put_powerless n = rw (ne_eqb _ _ n)

-- what ran at one power runs on at another
module _ {before : ℕ} (power here : ℕ) (g : Gains) (h : gains.codec.fits g) {r : Run} (s : Sane before r) where
  tripped_sane : Sane power (tripped (advanced r) r)
  unfolding tripped off idled
  tripped_sane = off_sane power (erring true (with_profile (advanced r) r)) (advanced-ranged r s.profile)

  -- the mode's own conditions are asked for at any memory, output and cut bit
  module _ (k : (y : Memory) (u : ℤ) (c : Bool) → InMode r.drive.mode power (running (advanced r) y (putting u c r.drive))) where
    worked-sane : (t : Told) → Kept t.memory → nat_abs t.output ≤ 255 → Sane power (worked_to t power (advanced r) r)
    worked-sane t m l = record {
      profile = advanced-ranged r s.profile;
      memory = m;
      pulse = s.pulse;
      output = put_most power t.output l;
      powerless = put_powerless power t.output;
      mode = k t.memory (put_out power t.output) t.cut;
    }

    servoed-sane : Sane power (servoed power here g r)
    unfolding servoed
    servoed-sane =
        let e : ℤ = followed_at here r in
        let t : Told = told (filtered g r.memory e) in
        let ol = h.1.1.1.1.0 in
        either (Sane power) t.trips (tripped (advanced r) r) (worked_to t power (advanced r) r) tripped_sane
        (worked-sane t (keeps _ _ e (gains-ranged g h) s.memory) (omega (arith, within g r.memory e)))

  driven_sane : (k : Mode) → r.drive.mode ≡ k → InMode k before r → (power ≡ 0 → k ≡ Off) → Sane power (driven_by k power here g r)
  unfolding pulsed advanced
  driven_sane Off e t n = record {
    profile = s.profile;
    memory = s.memory;
    pulse = s.pulse;
    output = s.output;
    powerless = λ z. t.1;
    mode = rw e t;
  }
  driven_sane Pwm e t n =
      let u : ℤ = held g.ol r.drive.pulse in
      let ol = h.1.1.1.1.0 in
      record {
        profile = s.profile;
        memory = s.memory;
        pulse = s.pulse;
        output = put_most power u (omega (arith, held_most g.ol r.drive.pulse));
        powerless = put_powerless power u;
        mode = rw e (t.0, record { clear = t.1.clear; alive = λ z. distinct Pwm Off refl (n z) });
      }
  driven_sane Hold e t n = servoed-sane (λ y u c. rw e (t.0, t.1, record { clear = t.2.clear; alive = λ z. distinct Hold Off refl (n z) }))
  driven_sane Velocity e t n = servoed-sane (λ y u c. rw e (t.0, record { clear = t.1.clear; alive = λ z. distinct Velocity Off refl (n z) }))
  driven_sane Trapezoid e t n =
      servoed-sane (λ y u c. rw e (t.0, record { clear = t.1.clear; alive = λ z. distinct Trapezoid Off refl (n z) }, runs r.profile s.profile t.2))

module _ {m : Servo} (g : Good m) (x : Sample) where
  -- power leaves what runs such as it was
  powered_sane : Sane m.latched.power (before x m)
  powered_sane =
      by_power_lem (Sane m.latched.power) x.power m.run (λ e. off_sane m.latched.power m.run g.sane.profile) (λ n. g.sane)

  -- and so do homing's stops, the abrupt one at the power that it needs
  pub met_sane : (power : ℕ) × Sane power (met x m).run
  met_sane = met_runs x m (λ (r : Run). (power : ℕ) × Sane power r) (m.latched.power, powered_sane) by
    where
      p : Sane m.latched.power (before x m)
      p = powered_sane

      held : ready (after_power x m) ≡ true → Sane x.power (holding (place x m) (before x m))
      held e =
          let one = eqb-true x.power 1 (every_hold (good x.power ∷ not (before x m).drive.error ∷ []) e).0 in
          holding_sane x.power (place x m) (before x m) p.profile p.output (λ n. absurd (n one)) (omega arith) (ready-live (after_power x m) e)

      by : (h : Halt) → Acts h x m → (power : ℕ) × Sane power (halted_by h (place x m) 0 (before x m))
      by Keep a = (m.latched.power, p)
      by Release a = (m.latched.power, off_sane m.latched.power (before x m) p.profile)
      by Abrupt a = (x.power, held (a.now true))
      by Smooth a = (m.latched.power, smooth_sane p)
      by Here a = absurd (not_here m.homing.byte a.asked)

  -- a waiting load stays or is dropped, and homing goes on or ends here
  met-load : load.codec.fits (met x m).settings.load
  met-load = meets x m (λ (n : Servo). load.codec.fits n.settings.load) (record {
    none = λ c. g.settings.1.1;
    found = λ c u. g.settings.1.1;
    acts = λ h a.
        either (λ (s : Settings). load.codec.fits s.load) (drops h) (dropped m.settings) m.settings no_load_fits g.settings.1.1;
  })

  met-homing : homing.codec.fits (met x m).homing
  met-homing = meets x m (λ (n : Servo). homing.codec.fits n.homing) (record {
    none = λ c. g.homing;
    found = λ c u. home_fits (place x m) (omega arith);
    acts = λ h a. home_fits (place x m) (omega arith);
  })

  pub tick_good : sample.codec.fits x → Good (ticked x m)
  tick_good h =
      let s = met_sane in
      subst Good (sym (tick_is x m)) (record {
        station = g.station;
        latched = h;
        counts = (g.counts.0, omega arith);
        settings = (g.settings.0, (g.settings.1.0, met-load));
        sane =
            driven_sane x.power (place x m) m.settings.tuning.gains g.settings.0.0 s.1 (met x m).run.drive.mode refl s.1.mode
            (λ z. (low_off x m z).mode);
        homing = met-homing;
      })
