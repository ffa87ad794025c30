-- Loads and starts (document 01, "Servo", 4 Load Trajectory and 5 Start).
use Rattle.std.specs.Prelude.{ℕ, ◌^◌, Bool, true, cond, not, ◌&&◌, ◌||◌, eqb, ltb, ℤ, pos, neg_ℤ}
use Rattle.base_integers.specs.Bits.{is_set}
use Rattle.base_integers.specs.Whole.{same, less}
use Rattle.servo_motion.specs.declared.Profile.{Profile}
use Rattle.servo_motion.specs.Setpoint.{whole}
use Rattle.servo_rules.specs.declared.Carried.{Carried}
use Rattle.servo_rules.specs.declared.Mode.{Mode}
use Rattle.servo_rules.specs.declared.Mode.TheVariants.{Pwm, Velocity, Trapezoid}
use Rattle.servo_rules.specs.declared.Way.{Way}
use Rattle.servo_rules.specs.declared.Way.TheVariants.{Pulse, Speed, Move}
use Rattle.servo_rules.specs.declared.Load.{Load}
use Rattle.servo_rules.specs.declared.Rates.{Rates}
use Rattle.servo_rules.specs.declared.Settings.{Settings}
use Rattle.servo_rules.specs.declared.Drive.{Drive}
use Rattle.servo_rules.specs.declared.Run.{Run}
use Rattle.servo_rules.specs.declared.Servo.{Servo}
use Rattle.servo_rules.specs.State.{position, setpoint_at, ready, servo_off, with_settings, with_run, with_load, dropped, running, driving, idled}

-- 01 Load Trajectory: bit 4 clear is PWM, else bit 5 velocity mode, else a trapezoid
unfoldable pub way_of : ℕ → Way
way_of control = cond (is_set 4 control) (cond (is_set 5 control) Speed Move) Pulse

-- 01 Load Trajectory: the load that waits afterwards; bit 6 reverses
unfoldable pub load_of : Carried → Load
load_of c = record {
  waits = true;
  way = way_of c.control;
  placed = is_set 0 c.control;
  place = c.place;
  pulsed = is_set 3 c.control;
  pulse = c.pulse;
  reverse = is_set 6 c.control;
}

-- 01 Load Trajectory: absent velocity and acceleration keep the numbers of earlier executed loads
unfoldable pub rates_of : Carried → Rates → Rates
rates_of c r = record {
  velocity = cond (is_set 1 c.control) c.velocity r.velocity;
  acceleration = cond (is_set 2 c.control) c.acceleration r.acceleration;
  paced = is_set 1 c.control || r.paced;
  ramped = is_set 2 c.control || r.ramped;
}

-- 01 Load Trajectory: an executed load replaces the waiting one
unfoldable pub loaded : Carried → Servo → Servo
loaded c m = with_settings (with_load (rates_of c m.settings.rates) (load_of c) m.settings) m

-- 01 Load Trajectory: bit 7 starts now
abbrev pub starts_now : Carried → Bool
starts_now c = is_set 7 c.control

-- 01 Start: the setpoint that a start begins with, at a position: from servo off, that position
unfoldable pub beginning_at : ℕ → Run → ℕ
beginning_at here r = cond (servo_off r.drive.mode) (setpoint_at here) r.profile.setpoint

abbrev pub beginning : Servo → ℕ
beginning m = beginning_at (position m) m.run

-- 01 Start: velocity and acceleration have been loaded since power-up
abbrev pub both_loaded : Rates → Bool
both_loaded r = r.paced && r.ramped

abbrev pub at_rest : Run → Bool
at_rest r = same r.profile.speed (pos 0)

-- 01 Start: a trapezoid's load is complete with a position, a velocity above 0, no speed now, and a goal not 2 ^ 31 counts away
unfoldable pub movable : Servo → Bool
movable m =
    both_loaded m.settings.rates
    && m.settings.load.placed
    && ltb 0 m.settings.rates.velocity
    && at_rest m.run
    && not (eqb (less m.settings.load.place (whole (beginning m))) (2 ^ 31))

-- 01 Start: what a complete load is, by its mode
abbrev pub complete_by : Way → Servo → Bool
complete_by Pulse m = m.settings.load.pulsed
complete_by Speed m = both_loaded m.settings.rates
complete_by Move m = movable m

unfoldable pub complete : Servo → Bool
complete m = complete_by m.settings.load.way m

-- 01 Start: a load waits, it is complete, power is 1 and the error bit is clear
unfoldable pub startable : Servo → Bool
startable m = m.settings.load.waits && complete m && ready m

-- 01 Load Trajectory: a number with its sign
unfoldable pub signed_by : Bool → ℕ → ℤ
signed_by reverse n = cond reverse (neg_ℤ (pos n)) (pos n)

-- 01 Tick, 02 P5: the drive of a servo that is on; its output and its cut bit stay until the tick
abbrev pub servoing : Mode → Drive → Drive
servoing mode d = driving mode (pos 0) d.output d.cut d

-- 01 Start, Tick: a profile toward a goal speed, and one toward a position; the speed goes on from what it is
abbrev pub aimed : ℕ → ℤ → ℕ → Profile → Profile
aimed setpoint aim a p = record { setpoint = setpoint; speed = p.speed; goal = p.goal; aim = aim; acceleration = a; top = p.top }

abbrev pub sent : ℕ → ℕ → ℕ → ℕ → Profile → Profile
sent setpoint goal a top p = record { setpoint = setpoint; speed = p.speed; goal = goal; aim = p.aim; acceleration = a; top = top }

-- 01 Start, Tick: velocity mode, and a trapezoid
unfoldable pub to_speed : ℕ → ℤ → ℕ → Run → Run
to_speed setpoint aim a r = running (aimed setpoint aim a r.profile) r.memory (servoing Velocity r.drive)

unfoldable pub to_place : ℕ → ℕ → ℕ → ℕ → Run → Run
to_place setpoint goal a top r = running (sent setpoint goal a top r.profile) r.memory (servoing Trapezoid r.drive)

-- 01 Start: what a start of each mode, at a position, makes of what runs
abbrev pub started_by : Way → ℕ → Settings → Run → Run
started_by Pulse here s r = idled Pwm (signed_by s.load.reverse s.load.pulse) r
started_by Speed here s r = to_speed (beginning_at here r) (signed_by s.load.reverse s.rates.velocity) s.rates.acceleration r
started_by Move here s r = to_place (beginning_at here r) s.load.place s.rates.acceleration s.rates.velocity r

-- 01 Start: starting uses the load up
unfoldable pub start : Servo → Servo
start m = with_settings (dropped m.settings) (with_run (started_by m.settings.load.way (position m) m.settings m.run) m)
