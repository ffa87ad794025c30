-- What is promised of a servo at rest (01 Tick, what motion is). Each is proved under its name, with small letters, in proofs/.
use Rattle.std.specs.Prelude.{◌≡◌, ◌⊎◌, ℕ, ◌^◌, ◌<◌, ◌≤◌, Bool, true, false, get_or, ℤ, pos, nat_abs}
use Rattle.base_integers.specs.Bits.{is_set}
use Rattle.base_integers.specs.Whole.{difference}
use Rattle.line_receiver.specs.Frames.{Frame}
use Rattle.module_rules.specs.Rules.{wants}
use Rattle.servo_motion.specs.declared.Profile.{Profile}
use Rattle.servo_motion.specs.Setpoint.{whole}
use Rattle.servo_motion.specs.Profile.{left}
use Rattle.servo_rules.specs.declared.Halt.TheVariants.{Abrupt, Here}
use Rattle.servo_rules.specs.declared.Order.{Order}
use Rattle.servo_rules.specs.declared.Order.TheVariants.{Stop}
use Rattle.servo_rules.specs.declared.Sample.{Sample}
use Rattle.servo_rules.specs.declared.Mode.{Mode}
use Rattle.servo_rules.specs.declared.Mode.TheVariants.{Velocity, Trapezoid}
use Rattle.servo_rules.specs.declared.Servo.{Servo}
use Rattle.servo_rules.specs.State.{position, servo_off, started}
use Rattle.servo_rules.specs.Perform.{can}
use Rattle.servo_rules.specs.Tick.{ticked}
use Rattle.servo_rules.specs.Answers.{request, execute}
use Rattle.servo_rules.specs.LoadPromises.{Starting}
use Rattle.servo_rules.specs.StopPromises.{Released, Counted}
use Rattle.servo_rules.specs.HomingPromises.{Acts, HeldHere}

-- neither moving nor about to: no speed, no PWM value, no goal speed, no distance left
pub record Rests (p : Profile) (mode : Mode) (value : ℤ) : Type 0 where
  pub speed : p.speed ≡ pos 0
  pub pulse : value ≡ pos 0
  pub aim : mode ≡ Velocity → p.aim ≡ pos 0
  pub goal : mode ≡ Trapezoid → left p ≡ pos 0

abbrev pub Resting : Servo → Type 0
Resting m = Rests m.run.profile m.run.drive.mode m.run.drive.pulse

-- A servo at rest stays at rest until a Start or a load with bit 7 is carried out; a tick leaves its setpoint where it is, but for homing's abrupt stop,
-- which puts it at the position of that very tick (02 P8).
pub record StaysResting : Type 0 where
  pub power : Resting started
  pub frame : (f : Frame) (alone : Bool) (m : Servo)
      → Counted m
      → Resting m
      → ((c : Order) → f.damaged ≡ false → request f alone ≡ wants c → can c m ≡ true → Starting c → ⊥)
      → Resting (execute f alone m)
  pub tick : (x : Sample) (m : Servo)
      → m.run.profile.setpoint < 2 ^ 48
      → Resting m
      → Resting (ticked x m)
      × (((ticked x m).run.profile.setpoint ≡ m.run.profile.setpoint) ⊎ (Acts Abrupt x m × HeldHere (ticked x m)))

-- 01 Load Trajectory, Start, Stop: the frames that turn a servo on, or start PWM, where they are executed: a Load with bit 7, a Start, a Stop with
-- bit 2 or bit 4
abbrev pub TurnsOn : Frame → Type 0
TurnsOn f =
    ((f.code ≡ 4) × (is_set 7 (get_or f.content 0 0) ≡ true))
    ⊎ ((f.code ≡ 5)
    ⊎ ((f.code ≡ 7) × ((is_set 2 (get_or f.content 0 0) ≡ true) ⊎ (is_set 4 (get_or f.content 0 0) ≡ true))))

-- A servo that is off stays off and drives nothing until such a frame is executed, or homing's abrupt stop holds it where it is (02 P8).
pub record StaysOff : Type 0 where
  pub frame : (f : Frame) (alone : Bool) (m : Servo)
      → Released m.run
      → (f.damaged ≡ false → (execute f alone m).station.cause ≡ 0 → TurnsOn f → ⊥)
      → Released (execute f alone m).run
  pub tick : (x : Sample) (m : Servo) → Released m.run → Released (ticked x m).run ⊎ (Acts Abrupt x m × HeldHere (ticked x m))

-- how far the setpoint is from the position
abbrev pub following : Servo → ℤ
following m = difference (whole m.run.profile.setpoint) (position m)

-- No frame but an executed Stop Here puts the setpoint elsewhere: it stays as far from the position as it was, or is put at the position.
abbrev pub OnlyHere : Type 0
OnlyHere =
    (f : Frame) (alone : Bool) (m : Servo)
    → Counted m
    → ((a : Bool) (x : ℕ) → f.damaged ≡ false → request f alone ≡ wants (Stop a Here x) → can (Stop a Here x) m ≡ true → ⊥)
    → (following (execute f alone m) ≡ following m) ⊎ (following (execute f alone m) ≡ pos 0)

-- A frame that turns the servo on, and is no executed Stop Here, puts the setpoint at the position, wherever it was before (01 Start, Stop).
abbrev pub TurnsOnHere : Type 0
TurnsOnHere =
    (f : Frame) (alone : Bool) (m : Servo)
    → Counted m
    → ((a : Bool) (x : ℕ) → f.damaged ≡ false → request f alone ≡ wants (Stop a Here x) → can (Stop a Here x) m ≡ true → ⊥)
    → servo_off m.run.drive.mode ≡ true
    → servo_off (execute f alone m).run.drive.mode ≡ false
    → following (execute f alone m) ≡ pos 0

-- No frame raises a speed: only ticks do, toward what a start has given them (01 Tick).
abbrev pub NoFrameRaises : Type 0
NoFrameRaises =
    (f : Frame) (alone : Bool) (m : Servo)
    → nat_abs (execute f alone m).run.profile.speed ≤ nat_abs m.run.profile.speed
