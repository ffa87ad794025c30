-- What a servo is (document 01, "Servo"): where it stands, its power-up, and a servo with a part of it replaced.
use Rattle.std.specs.Prelude.{ℕ, ◌*◌, Bool, true, false, not, ◌&&◌, eqb, ℤ, pos}
use Rattle.base_integers.specs.Whole.{less}
use Rattle.module_rules.specs.declared.Station.{Station}
use Rattle.module_rules.specs.Touch.{power_up}
use Rattle.servo_motion.specs.declared.Profile.{Profile}
use Rattle.servo_filter.specs.declared.Memory.{Memory}
use Rattle.servo_filter.specs.Filter.{blank}
use Rattle.servo_rules.specs.declared.Sample.{Sample}
use Rattle.servo_rules.specs.declared.Counts.{Counts}
use Rattle.servo_rules.specs.declared.Tuning.{Tuning}
use Rattle.servo_rules.specs.declared.Way.TheVariants.{Pulse}
use Rattle.servo_rules.specs.declared.Load.{Load}
use Rattle.servo_rules.specs.declared.Rates.{Rates}
use Rattle.servo_rules.specs.declared.Settings.{Settings}
use Rattle.servo_rules.specs.declared.Mode.{Mode}
use Rattle.servo_rules.specs.declared.Mode.TheVariants.{Off, Pwm, Hold, Velocity, Trapezoid}
use Rattle.servo_rules.specs.declared.Drive.{Drive}
use Rattle.servo_rules.specs.declared.Run.{Run}
use Rattle.servo_rules.specs.declared.Homing.{Homing}
use Rattle.servo_rules.specs.declared.Servo.{Servo}

-- 01 Servo: the position is the raw count less the offset
abbrev pub position_at : Sample → Counts → ℕ
position_at x k = less x.raw k.offset

abbrev pub position : Servo → ℕ
position m = position_at m.latched m.counts

-- 01 Tick: the setpoint at a position, without a fraction
abbrev pub setpoint_at : ℕ → ℕ
setpoint_at x = 65536 * x

-- 01 Servo: power 1 is good
abbrev pub good : ℕ → Bool
good power = eqb power 1

abbrev pub powered : Servo → Bool
powered m = good m.latched.power

-- 01 Start, Stop: power is good and the error bit is clear
abbrev pub ready : Servo → Bool
ready m = powered m && not m.run.drive.error

-- 01 Start: PWM counts as servo off
abbrev pub servo_off : Mode → Bool
servo_off Off = true
servo_off Pwm = true
servo_off Hold = false
servo_off Velocity = false
servo_off Trapezoid = false

-- no load waits
abbrev pub no_load : Load
no_load = record { waits = false; way = Pulse; placed = false; place = 0; pulsed = false; pulse = 0; reverse = false }

-- 01 Servo, Power-up: off, the error bit set, SM 1, the rest 0. The latched sample is given, since Hard Reset keeps it (02 P11); the position is then 0.
abbrev pub no_settings : Settings
no_settings = record {
  tuning = record { gains = record { kp = 0; kd = 0; ki = 0; il = 0; ol = 0; el = 0 }; cl = 0; sm = 1 };
  rates = record { velocity = 0; acceleration = 0; paced = false; ramped = false };
  load = no_load;
}

abbrev pub no_run : Run
no_run = record {
  profile = record { setpoint = 0; speed = pos 0; goal = 0; aim = pos 0; acceleration = 0; top = 0 };
  memory = blank;
  drive = record { mode = Off; pulse = pos 0; output = pos 0; error = true; amplifier = false; cut = false };
}

abbrev pub no_homing : Homing
no_homing = record { home = 0; byte = 0 }

abbrev pub fresh : Sample → Servo
fresh x = record {
  station = power_up;
  latched = x;
  counts = record { offset = x.raw; last = 0 };
  settings = no_settings;
  run = no_run;
  homing = no_homing;
}

abbrev pub no_sample : Sample
no_sample = record { raw = 0; power = 0; ad = 0; inputs = 0 }

abbrev pub started : Servo
started = fresh no_sample

-- the counts with another position before the last tick
abbrev pub with_last : ℕ → Counts → Counts
with_last x k = record { offset = k.offset; last = x }

-- a servo with one of its parts replaced
abbrev pub with_station : Station → Servo → Servo
with_station x m = record { station = x; latched = m.latched; counts = m.counts; settings = m.settings; run = m.run; homing = m.homing }

abbrev pub with_counts : Counts → Servo → Servo
with_counts x m = record { station = m.station; latched = m.latched; counts = x; settings = m.settings; run = m.run; homing = m.homing }

abbrev pub with_settings : Settings → Servo → Servo
with_settings x m = record { station = m.station; latched = m.latched; counts = m.counts; settings = x; run = m.run; homing = m.homing }

abbrev pub with_run : Run → Servo → Servo
with_run x m = record { station = m.station; latched = m.latched; counts = m.counts; settings = m.settings; run = x; homing = m.homing }

abbrev pub with_homing : Homing → Servo → Servo
with_homing x m = record { station = m.station; latched = m.latched; counts = m.counts; settings = m.settings; run = m.run; homing = x }

-- what frames store, with one of its parts replaced
abbrev pub with_tuning : Tuning → Settings → Settings
with_tuning x s = record { tuning = x; rates = s.rates; load = s.load }

abbrev pub with_load : Rates → Load → Settings → Settings
with_load r x s = record { tuning = s.tuning; rates = r; load = x }

-- a waiting load is dropped
abbrev pub dropped : Settings → Settings
dropped s = with_load s.rates no_load s

-- what runs, with one of its parts replaced
abbrev pub running : Profile → Memory → Drive → Run
running p y d = record { profile = p; memory = y; drive = d }

abbrev pub with_profile : Profile → Run → Run
with_profile p r = running p r.memory r.drive

abbrev pub with_drive : Drive → Run → Run
with_drive d r = running r.profile r.memory d

-- a profile at rest, at a setpoint
abbrev pub resting : ℕ → Profile → Profile
resting setpoint p = record { setpoint = setpoint; speed = pos 0; goal = p.goal; aim = p.aim; acceleration = p.acceleration; top = p.top }

-- a drive in another mode, with a PWM value, an output and a cut bit
abbrev pub driving : Mode → ℤ → ℤ → Bool → Drive → Drive
driving mode pulse output cut d = record { mode = mode; pulse = pulse; output = output; error = d.error; amplifier = d.amplifier; cut = cut }

abbrev pub putting : ℤ → Bool → Drive → Drive
putting output cut d = driving d.mode d.pulse output cut d

abbrev pub with_error : Bool → Drive → Drive
with_error e d = record { mode = d.mode; pulse = d.pulse; output = d.output; error = e; amplifier = d.amplifier; cut = d.cut }

abbrev pub with_amplifier : Bool → Drive → Drive
with_amplifier a d = record { mode = d.mode; pulse = d.pulse; output = d.output; error = d.error; amplifier = a; cut = d.cut }

-- what runs, with another error bit, and with another amplifier bit
abbrev pub erring : Bool → Run → Run
erring e r = with_drive (with_error e r.drive) r

abbrev pub amplified : Bool → Run → Run
amplified a r = with_drive (with_amplifier a r.drive) r

-- 01 Tick, 02 P5: off ends with speed, output, integral, previous error and cut bit 0. A PWM start ends likewise, and its value is put out from the
-- next tick on.
unfoldable pub idled : Mode → ℤ → Run → Run
idled mode pulse r = running (resting r.profile.setpoint r.profile) blank (driving mode pulse (pos 0) false r.drive)

unfoldable pub off : Run → Run
off r = idled Off (pos 0) r
