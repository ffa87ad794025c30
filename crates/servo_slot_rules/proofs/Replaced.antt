-- A servo with one of its parts replaced, one that goes off, and one at power-up are such as a slot can hold. Assumes nothing.
use mathlib.Core.Path.{◌≡◌, refl}
use mathlib.Core.List.{[], ◌∷◌}
use mathlib.Core.Bool.{true, false, not, false≢true}
use Prim.Native.Nat.{ℕ, ◌^◌, ◌<◌, ◌≤◌}
use native.Mathlib.Omega.{arith}
use borrow.Author.Tests.{eqb-true, not-true}
use lib.IntN.{ℤ, pos, nat_abs}
use Rattle.base_layout.proofs.Every.{every_hold}
use Rattle.module_rules.specs.declared.Station.{Station}
use Rattle.module_rules.specs.Slot.{station}
use Rattle.module_rules.proofs.StationKept.{power_up_fits}
use Rattle.servo_motion.specs.declared.Profile.{Profile}
use Rattle.servo_motion.specs.Profile.{Ranged}
use Rattle.servo_filter.specs.Filter.{Kept, blank}
use Rattle.servo_rules.specs.declared.Sample.{Sample}
use Rattle.servo_rules.specs.declared.Homing.{Homing}
use Rattle.servo_rules.specs.declared.Counts.{Counts}
use Rattle.servo_rules.specs.declared.Settings.{Settings}
use Rattle.servo_rules.specs.declared.Mode.{Mode}
use Rattle.servo_rules.specs.declared.Mode.TheVariants.{Off}
use Rattle.servo_rules.specs.declared.Run.{Run}
use Rattle.servo_rules.specs.declared.Servo.{Servo}
use Rattle.servo_rules.specs.State.{powered, ready, no_load, no_settings, no_run, fresh, with_station, with_counts, with_settings, with_run, with_homing, dropped, resting, idled, off}
use Rattle.servo_rules.specs.Homing.{home_at}
use Rattle.servo_slot_rules.specs.List.{homing_fits}
use Rattle.servo_slot_rules.specs.Slot.{sample, counts, load, settings, homing}
use Rattle.servo_slot_rules.proofs.Modes.{Idle, Live, InMode}
use Rattle.servo_slot_rules.proofs.Good.{Sane, Good, rates_fit_lem}

module _ {m : Servo} (g : Good m) where
  pub station-good : (s : Station) → station.codec.fits s → Good (with_station s m)
  station-good s h = record { station = h; latched = g.latched; counts = g.counts; settings = g.settings; sane = g.sane; homing = g.homing }

  pub counts-good : (x : Counts) → counts.codec.fits x → Good (with_counts x m)
  counts-good x h = record { station = g.station; latched = g.latched; counts = h; settings = g.settings; sane = g.sane; homing = g.homing }

  pub settings-good : (x : Settings) → settings.codec.fits x → Good (with_settings x m)
  settings-good x h = record { station = g.station; latched = g.latched; counts = g.counts; settings = h; sane = g.sane; homing = g.homing }

  pub run-good : (r : Run) → Sane m.latched.power r → Good (with_run r m)
  run-good r s = record { station = g.station; latched = g.latched; counts = g.counts; settings = g.settings; sane = s; homing = g.homing }

  pub homing-good : (h : Homing) → homing.codec.fits h → Good (with_homing h m)
  homing-good h f = record { station = g.station; latched = g.latched; counts = g.counts; settings = g.settings; sane = g.sane; homing = f }

pub no_load_fits : load.codec.fits no_load
no_load_fits = (tt, (tt, (tt, (omega arith, (tt, (omega arith, tt))))))

pub dropped_fits : (s : Settings) → settings.codec.fits s → settings.codec.fits (dropped s)
dropped_fits s h = (h.0, (h.1.0, no_load_fits))

-- ---- off and PWM

pub blank_kept : Kept blank
blank_kept = record { integral = omega arith; previous = omega arith }

pub idle : Idle (pos 0) blank false
idle = record { rest = refl; integral = refl; previous = refl; uncut = refl }

pub resting-ranged : (x : ℕ) (p : Profile) → x < 2 ^ 48 → Ranged p → Ranged (resting x p)
resting-ranged x p h r = record { setpoint = h; speed = omega arith; goal = r.goal; aim = r.aim; acceleration = r.acceleration; top = r.top }

module _ (power : ℕ) (r : Run) (h : Ranged r.profile) where
  pub idled_sane : (k : Mode) (z : ℤ) → nat_abs z ≤ 255 → InMode k power (idled k z r) → Sane power (idled k z r)
  unfolding idled
  idled_sane k z l t = record {
    profile = resting-ranged r.profile.setpoint r.profile h.setpoint h;
    memory = blank_kept;
    pulse = l;
    output = omega arith;
    powerless = λ n. refl;
    mode = t;
  }

  pub off_sane : Sane power (off r)
  unfolding off idled
  off_sane = idled_sane Off (pos 0) (omega arith) (idle, refl, refl)

-- ---- power-up

no_settings_fit : settings.codec.fits no_settings
no_settings_fit = (
  (
    ((omega arith, omega arith), ((omega arith, omega arith), ((omega arith, omega arith), ((omega arith, omega arith), (omega arith, (omega arith, omega arith)))))),
    (omega arith, omega arith),
  ),
  (
    rates_fit_lem no_settings.rates (record { velocity = omega arith; acceleration = omega arith; force = λ e. absurd (false≢true e) }),
    no_load_fits,
  ),
)

-- home where homing has ended
pub home_fits : (x : ℕ) → x < 2 ^ 32 → homing.codec.fits (home_at x)
unfolding homing_fits
home_fits x h = (h, (omega arith, refl))

pub fresh-good : (x : Sample) → sample.codec.fits x → Good (fresh x)
unfolding off idled
fresh-good x h = record {
  station = power_up_fits;
  latched = h;
  counts = (h.1.1.0, omega arith);
  settings = no_settings_fit;
  sane =
      off_sane x.power no_run
      (record { setpoint = omega arith; speed = omega arith; goal = omega arith; aim = omega arith; acceleration = omega arith; top = omega arith });
  homing = home_fits 0 (omega arith);
}

-- good power and a clear error bit
pub ready-live : (m : Servo) → ready m ≡ true → Live m.latched.power m.run.drive.error
ready-live m e =
    let h = every_hold (powered m ∷ not m.run.drive.error ∷ []) e in
    let one = eqb-true m.latched.power 1 h.0 in
    record { clear = not-true _ h.1.0; alive = λ z. omega arith }
