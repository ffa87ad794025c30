-- What is promised of a servo's stops and its shift of position. Each is proved under its name, with small letters, in proofs/.
use Rattle.std.specs.Prelude.{◌≡◌, ℕ, ◌^◌, ◌<◌, Bool, true, false, pos}
use Rattle.base_integers.specs.Whole.{less, difference}
use Rattle.servo_motion.specs.Setpoint.{whole, fraction}
use Rattle.servo_motion.specs.Profile.{Ranged, left}
use Rattle.servo_filter.specs.Filter.{blank}
use Rattle.servo_rules.specs.declared.Halt.{Halt}
use Rattle.servo_rules.specs.declared.Halt.TheVariants.{Keep, Release, Abrupt, Smooth, Here}
use Rattle.servo_rules.specs.declared.Order.TheVariants.{ResetPosition, Stop}
use Rattle.servo_rules.specs.declared.Mode.TheVariants.{Off, Hold, Velocity}
use Rattle.servo_rules.specs.declared.Run.{Run}
use Rattle.servo_rules.specs.declared.Servo.{Servo}
use Rattle.servo_rules.specs.State.{position, setpoint_at, servo_off, with_run, amplified}
use Rattle.servo_rules.specs.Perform.{reset_position, stopped, can}
use Rattle.servo_rules.specs.LoadPromises.{Ready}

-- off, with speed, output, PWM value, integral, previous error and cut bit 0
pub record Released (r : Run) : Type 0 where
  pub mode : r.drive.mode ≡ Off
  pub speed : r.profile.speed ≡ pos 0
  pub output : r.drive.output ≡ pos 0
  pub pulse : r.drive.pulse ≡ pos 0
  pub cut : r.drive.cut ≡ false
  pub memory : r.memory ≡ blank

-- holding the position x, and output and cut bit as they were
pub record Holds (x : ℕ) (before r : Run) : Type 0 where
  pub mode : r.drive.mode ≡ Hold
  pub setpoint : r.profile.setpoint ≡ setpoint_at x
  pub speed : r.profile.speed ≡ pos 0
  pub output : r.drive.output ≡ before.drive.output
  pub cut : r.drive.cut ≡ before.drive.cut
  pub memory : r.memory ≡ blank

-- on the way to speed 0 by the running acceleration, and all that runs as it was
pub record Slows (before r : Run) : Type 0 where
  pub mode : r.drive.mode ≡ Velocity
  pub aim : r.profile.aim ≡ pos 0
  pub acceleration : r.profile.acceleration ≡ before.profile.acceleration
  pub setpoint : r.profile.setpoint ≡ before.profile.setpoint
  pub speed : r.profile.speed ≡ before.profile.speed
  pub output : r.drive.output ≡ before.drive.output
  pub cut : r.drive.cut ≡ before.drive.cut
  pub memory : r.memory ≡ before.memory

-- Each kind of stop: the amplifier bit is the given one and the error bit as it was; any kind of bits 1 to 4 drops a waiting load; without
-- them only the amplifier bit changes (01 Stop).
pub record Halting (a : Bool) (x : ℕ) (m : Servo) : Type 0 where
  pub keep : stopped a Keep x m ≡ with_run (amplified a m.run) m
  pub release : Released (stopped a Release x m).run
  pub abrupt : Holds (position m) m.run (stopped a Abrupt x m).run
  pub here : Holds x m.run (stopped a Here x m).run
  pub slow : servo_off m.run.drive.mode ≡ false → Slows m.run (stopped a Smooth x m).run
  pub slow_off : servo_off m.run.drive.mode ≡ true → Released (stopped a Smooth x m).run
  pub amplifier : (h : Halt) → (stopped a h x m).run.drive.amplifier ≡ a
  pub error : (h : Halt) → (stopped a h x m).run.drive.error ≡ m.run.drive.error
  pub waits : (h : Halt) → (h ≡ Keep → ⊥) → (stopped a h x m).settings.load.waits ≡ false

abbrev pub Stops : Type 0
Stops = (a : Bool) (x : ℕ) (m : Servo) → Halting a x m

-- Abrupt and Stop Here need power 1 and a clear error bit; the other kinds can always be carried out (01 Stop).
pub record HaltsNow (a : Bool) (x : ℕ) (m : Servo) : Type 0 where
  pub abrupt : (can (Stop a Abrupt x) m ≡ true → Ready m) × (Ready m → can (Stop a Abrupt x) m ≡ true)
  pub here : (can (Stop a Here x) m ≡ true → Ready m) × (Ready m → can (Stop a Here x) m ≡ true)
  pub keep : can (Stop a Keep x) m ≡ true
  pub release : can (Stop a Release x) m ≡ true
  pub slow : can (Stop a Smooth x) m ≡ true

abbrev pub StopsNow : Type 0
StopsNow = (a : Bool) (x : ℕ) (m : Servo) → HaltsNow a x m

-- Reset Position puts the position to 0 and moves nothing against anything else: last tick's change, distance left, following error, the
-- setpoint's fraction and how far home is are as they were, and so is what drives; homing goes on, and no load waits (01 Reset Position; 02 P8).
pub record Shifts (m : Servo) : Type 0 where
  pub zero : position (reset_position m) ≡ 0
  pub change : less (position (reset_position m)) (reset_position m).counts.last ≡ less (position m) m.counts.last
  pub far : left (reset_position m).run.profile ≡ left m.run.profile
  pub following : difference (whole (reset_position m).run.profile.setpoint) (position (reset_position m))
      ≡ difference (whole m.run.profile.setpoint) (position m)
  pub part : fraction (reset_position m).run.profile.setpoint ≡ fraction m.run.profile.setpoint
  pub speed : (reset_position m).run.profile.speed ≡ m.run.profile.speed
  pub memory : (reset_position m).run.memory ≡ m.run.memory
  pub drive : (reset_position m).run.drive ≡ m.run.drive
  pub waits : (reset_position m).settings.load.waits ≡ false
  pub home : less (reset_position m).homing.home (position (reset_position m)) ≡ less m.homing.home (position m)
  pub homing : (reset_position m).homing.byte ≡ m.homing.byte

-- the counts fit into their 32 bits
pub record Counted (m : Servo) : Type 0 where
  pub profile : Ranged m.run.profile
  pub raw : m.latched.raw < 2 ^ 32
  pub last : m.counts.last < 2 ^ 32

abbrev pub ResetsPosition : Type 0
ResetsPosition = (m : Servo) → Counted m → Shifts m

-- It can be carried out exactly at speed 0.
abbrev pub ShiftsNow : Type 0
ShiftsNow =
    (m : Servo)
    → (can ResetPosition m ≡ true → m.run.profile.speed ≡ pos 0) × (m.run.profile.speed ≡ pos 0 → can ResetPosition m ≡ true)
