-- What is promised of the cut bit and of what the filter remembers between ticks (document 02, P5). Each is proved under its name, with small letters,
-- in proofs/.
use Rattle.std.specs.Prelude.{◌≡◌, ◌⊎◌, Bool, true, false, get_or}
use Rattle.base_integers.specs.Bits.{is_set}
use Rattle.line_receiver.specs.Frames.{Frame}
use Rattle.servo_filter.specs.Filter.{blank}
use Rattle.servo_rules.specs.declared.Way.TheVariants.{Pulse}
use Rattle.servo_rules.specs.declared.Sample.{Sample}
use Rattle.servo_rules.specs.declared.Servo.{Servo}
use Rattle.servo_rules.specs.State.{servo_off, started}
use Rattle.servo_rules.specs.Tick.{ticked}
use Rattle.servo_rules.specs.Answers.{execute}

-- off and PWM have no cut bit
abbrev pub Uncut : Servo → Type 0
Uncut m = servo_off m.run.drive.mode ≡ true → m.run.drive.cut ≡ false

-- Between ticks only going off and a PWM start change the cut bit, and then to 0. In off and PWM it is 0: so at power-up, and every frame and tick keeps
-- it. What a tick makes of it is told with the tick (`Ticks`).
pub record CutBit : Type 0 where
  pub between : (f : Frame) (alone : Bool) (m : Servo)
      → ((execute f alone m).run.drive.cut ≡ m.run.drive.cut)
      ⊎ (((execute f alone m).run.drive.cut ≡ false) × (servo_off (execute f alone m).run.drive.mode ≡ true))
  pub power : Uncut started
  pub frame : (f : Frame) (alone : Bool) (m : Servo) → Uncut m → Uncut (execute f alone m)
  pub tick : (x : Sample) (m : Servo) → Uncut m → Uncut (ticked x m)

-- 01 Load Trajectory, Start, Stop, Hard Reset: the frames that blank the filter's memory where they are executed: a PWM start; a Stop with bit 1, 2 or 4,
-- and one with bit 3 while the servo is off; Hard Reset
abbrev pub BlanksByStop : Servo → Frame → Type 0
BlanksByStop m f =
    (is_set 1 (get_or f.content 0 0) ≡ true)
    ⊎ ((is_set 2 (get_or f.content 0 0) ≡ true)
    ⊎ ((is_set 4 (get_or f.content 0 0) ≡ true)
    ⊎ ((is_set 3 (get_or f.content 0 0) ≡ true) × (servo_off m.run.drive.mode ≡ true))))

abbrev pub Blanks : Servo → Frame → Type 0
Blanks m f =
    ((f.code ≡ 4) × (is_set 7 (get_or f.content 0 0) ≡ true) × (is_set 4 (get_or f.content 0 0) ≡ false))
    ⊎ (((f.code ≡ 5) × (m.settings.load.way ≡ Pulse))
    ⊎ (((f.code ≡ 7) × BlanksByStop m f)
    ⊎ (f.code ≡ 15)))

-- An executed one of these blanks what the filter remembers, no other frame changes it, and a tick that is cut leaves the integral.
pub record Remembers : Type 0 where
  pub blanked : (f : Frame) (alone : Bool) (m : Servo)
      → f.damaged ≡ false
      → (execute f alone m).station.cause ≡ 0
      → Blanks m f
      → (execute f alone m).run.memory ≡ blank
  pub frame : (f : Frame) (alone : Bool) (m : Servo)
      → (f.damaged ≡ false → (execute f alone m).station.cause ≡ 0 → Blanks m f → ⊥)
      → (execute f alone m).run.memory ≡ m.run.memory
  pub cut : (x : Sample) (m : Servo) → (ticked x m).run.drive.cut ≡ true → (ticked x m).run.memory.integral ≡ m.run.memory.integral
