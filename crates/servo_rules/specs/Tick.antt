-- The servo's tick (document 01, "Tick" and "Filter"; document 02, P4, P5 and P8): the sample is latched, then power, then homing, then the profile,
-- then the filter.
use Rattle.std.specs.Prelude.{◌≡◌, ℕ, ◌<◌, ◌≤◌, true, cond, eqb, ℤ, pos, nat_abs}
use Rattle.base_integers.specs.Whole.{difference}
use Rattle.servo_motion.specs.declared.Profile.{Profile}
use Rattle.servo_motion.specs.Setpoint.{whole}
use Rattle.servo_motion.specs.Profile.{Ranged, by_trapezoid, by_velocity}
use Rattle.servo_filter.specs.declared.Gains.{Gains}
use Rattle.servo_filter.specs.Filter.{Kept, held, filtered, Told, told}
use Rattle.servo_rules.specs.declared.Mode.{Mode}
use Rattle.servo_rules.specs.declared.Mode.TheVariants.{Off, Pwm, Hold, Velocity, Trapezoid}
use Rattle.servo_rules.specs.declared.Run.{Run}
use Rattle.servo_rules.specs.declared.Sample.{Sample}
use Rattle.servo_rules.specs.declared.Servo.{Servo}
use Rattle.servo_rules.specs.State.{position, good, with_last, with_run, running, with_profile, with_drive, putting, erring, off}
use Rattle.servo_rules.specs.Homing.{homed}

-- 01 Tick: the profile's step
abbrev pub advanced_by : Mode → Profile → Profile
advanced_by Off p = p
advanced_by Pwm p = p
advanced_by Hold p = p
advanced_by Velocity p = by_velocity p
advanced_by Trapezoid p = by_trapezoid p

unfoldable pub advanced : Run → Profile
advanced r = advanced_by r.drive.mode r.profile

-- 01 Filter: at power 2 the output is 0, all else runs
unfoldable pub put_out : ℕ → ℤ → ℤ
put_out power u = cond (good power) u (pos 0)

-- 01 Filter: an error above EL, after the profile's step to p, sets the error bit and ends in off
unfoldable pub tripped : Profile → Run → Run
tripped p r = erring true (off (with_profile p r))

-- 01 Filter, 02 P5: the filter's memory, output and cut bit, after the profile's step to p; the cut was judged before power 2 takes the output away
abbrev pub worked_to : Told → ℕ → Profile → Run → Run
worked_to t power p r = running p t.memory (putting (put_out power t.output) t.cut r.drive)

-- 01 Filter: what the filter tells, after the profile's step to p: it trips, or has worked
abbrev pub filtered_to : Told → ℕ → Profile → Run → Run
filtered_to t power p r = cond t.trips (tripped p r) (worked_to t power p r)

-- 01 Filter: the following error, at the new setpoint and the position here
abbrev pub followed_at : ℕ → Run → ℤ
followed_at here r = difference (whole (advanced r).setpoint) here

unfoldable pub servoed : ℕ → ℕ → Gains → Run → Run
servoed power here g r = filtered_to (told (filtered g r.memory (followed_at here r))) power (advanced r) r

-- 01 Filter: PWM puts out the loaded value, held to OL. That is no tick of the filter, and leaves the cut bit (02 P5).
unfoldable pub pulsed : ℕ → ℕ → Run → Run
pulsed power ol r = with_drive (putting (put_out power (held ol r.drive.pulse)) r.drive.cut r.drive) r

abbrev pub driven_by : Mode → ℕ → ℕ → Gains → Run → Run
driven_by Off power here g r = r
driven_by Pwm power here g r = pulsed power g.ol r
driven_by Hold power here g r = servoed power here g r
driven_by Velocity power here g r = servoed power here g r
driven_by Trapezoid power here g r = servoed power here g r

-- 01 Tick, 02 P4: at power 0 servo and PWM go off, and the amplifier bit stays
unfoldable pub by_power : ℕ → Run → Run
by_power power r = cond (eqb power 0) (off r) r

-- the steps of a tick. 01 Tick, 02 P11: the tick's sample is latched and the position before the tick kept.
abbrev pub latching : Sample → Servo → Servo
latching x m = record {
  station = m.station;
  latched = x;
  counts = with_last (position m) m.counts;
  settings = m.settings;
  run = m.run;
  homing = m.homing;
}

abbrev pub powering : Servo → Servo
powering m = with_run (by_power m.latched.power m.run) m

-- 01 Tick: the profile and the filter, at the latched power and the position, with the gains and limits
abbrev pub driven : Servo → Servo
driven m = with_run (driven_by m.run.drive.mode m.latched.power (position m) m.settings.tuning.gains m.run) m

-- 01 Tick, 02 P8: latch, power, homing; what profile and filter then meet
unfoldable pub met : Sample → Servo → Servo
met x m = homed m.latched.inputs (powering (latching x m))

unfoldable pub ticked : Sample → Servo → Servo
ticked x m = driven (met x m)

-- what every stored servo's run has, and a tick's arithmetic needs
pub record Steady (r : Run) : Type 0 where
  pub profile : Ranged r.profile
  pub memory : Kept r.memory
  pub pulse : nat_abs r.drive.pulse ≤ 255
  pub force : r.drive.mode ≡ Trapezoid → 0 < r.profile.acceleration
