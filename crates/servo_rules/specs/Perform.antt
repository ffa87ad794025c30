-- What the servo's own orders do (document 01, "Servo"; document 02, P8), and which of them cannot be carried out now.
use Rattle.std.specs.Prelude.{ℕ, ◌+◌, ◌-◌, ◌%◌, ◌^◌, Bool, true, false, cond, not, ◌||◌}
use Rattle.base_integers.specs.Whole.{less}
use Rattle.servo_motion.specs.declared.Profile.{Profile}
use Rattle.servo_rules.specs.declared.Halt.{Halt}
use Rattle.servo_rules.specs.declared.Order.{Order}
use Rattle.servo_rules.specs.declared.Order.TheVariants.{ResetPosition, LoadTrajectory, Start, SetGain, Stop, SetHoming, ClearBits}
use Rattle.servo_rules.specs.declared.Servo.{Servo}
use Rattle.servo_rules.specs.State.{position, setpoint_at, with_counts, with_settings, with_run, with_homing, with_tuning, dropped, with_profile, erring, amplified}
use Rattle.servo_rules.specs.Loads.{loaded, starts_now, at_rest, startable, start}
use Rattle.servo_rules.specs.Stops.{halted, can_halt}
use Rattle.servo_rules.specs.Homing.{homing_by, home_from}

-- 01 Reset Position: everything that is a position becomes relative to here
unfoldable pub shifted : ℕ → Profile → Profile
shifted x p = record {
  setpoint = (p.setpoint + (2 ^ 48 - setpoint_at x)) % 2 ^ 48;
  speed = p.speed;
  goal = less p.goal x;
  aim = p.aim;
  acceleration = p.acceleration;
  top = p.top;
}

-- 02 P8: so does home
unfoldable pub reset_position : Servo → Servo
reset_position m =
    with_counts (record { offset = m.latched.raw; last = less m.counts.last (position m) })
    (with_settings (dropped m.settings)
    (with_run (with_profile (shifted (position m) m.run.profile) m.run)
    (with_homing (home_from (position m) m.homing) m)))

-- 01 Stop: bit 0 is the amplifier bit
unfoldable pub stopped : Bool → Halt → ℕ → Servo → Servo
stopped amplifier halt x m = with_run (amplified amplifier (halted halt x m).run) (halted halt x m)

-- 01 Who is touched: whether an order can be carried out now; if not, the cause is 3
abbrev pub can : Order → Servo → Bool
can ResetPosition m = at_rest m.run
can (LoadTrajectory c) m = not (starts_now c) || startable (loaded c m)
can Start m = startable m
can (SetGain t) m = true
can (Stop amplifier halt x) m = can_halt halt m
can (SetHoming byte) m = true
can ClearBits m = true

-- 01 Servo: what an order that can be carried out does
abbrev pub perform : Order → Servo → Servo
perform ResetPosition m = reset_position m
perform (LoadTrajectory c) m = cond (starts_now c) (start (loaded c m)) (loaded c m)
perform Start m = start m
perform (SetGain t) m = with_settings (with_tuning t m.settings) m
perform (Stop amplifier halt x) m = stopped amplifier halt x m
perform (SetHoming byte) m = with_homing (homing_by byte m.homing) m
perform ClearBits m = with_run (erring false m.run) m
