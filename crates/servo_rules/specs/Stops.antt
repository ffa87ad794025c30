-- What a stop of each kind does (document 01, "Servo", 7 Stop), but for the amplifier bit: the command's stop and homing's (document 02, P8).
use Rattle.std.specs.Prelude.{ℕ, Bool, true, false, cond, pos}
use Rattle.servo_filter.specs.Filter.{blank}
use Rattle.servo_rules.specs.declared.Halt.{Halt}
use Rattle.servo_rules.specs.declared.Halt.TheVariants.{Keep, Release, Abrupt, Smooth, Here}
use Rattle.servo_rules.specs.declared.Mode.TheVariants.{Hold}
use Rattle.servo_rules.specs.declared.Run.{Run}
use Rattle.servo_rules.specs.declared.Servo.{Servo}
use Rattle.servo_rules.specs.State.{position, setpoint_at, ready, servo_off, with_settings, with_run, dropped, running, resting, off}
use Rattle.servo_rules.specs.Loads.{servoing, to_speed}

-- 01 Stop: holding a position: speed, integral and previous error 0
unfoldable pub holding : ℕ → Run → Run
holding x r = running (resting (setpoint_at x) r.profile) blank (servoing Hold r.drive)

-- 01 Stop: smooth goes to velocity mode with goal speed 0 and the running acceleration; PWM goes off, off stays off
unfoldable pub smooth : Run → Run
smooth r = cond (servo_off r.drive.mode) (off r) (to_speed r.profile.setpoint (pos 0) r.profile.acceleration r)

-- 01 Stop: what its kinds make of what runs, at a position; x is the given one
abbrev pub halted_by : Halt → ℕ → ℕ → Run → Run
halted_by Keep here x r = r
halted_by Release here x r = off r
halted_by Abrupt here x r = holding here r
halted_by Smooth here x r = smooth r
halted_by Here here x r = holding x r

-- 01 Stop: any of bits 1 to 4 drops a waiting load
abbrev pub drops : Halt → Bool
drops Keep = false
drops Release = true
drops Abrupt = true
drops Smooth = true
drops Here = true

-- 01 Stop, 02 P8: the amplifier bit is left as it is
abbrev pub halted : Halt → ℕ → Servo → Servo
halted halt x m =
    with_settings (cond (drops halt) (dropped m.settings) m.settings) (with_run (halted_by halt (position m) x m.run) m)

-- 01 Stop: bits 2 and 4 need power 1 and a clear error bit
abbrev pub can_halt : Halt → Servo → Bool
can_halt Keep m = true
can_halt Release m = true
can_halt Abrupt m = ready m
can_halt Smooth m = true
can_halt Here m = ready m
