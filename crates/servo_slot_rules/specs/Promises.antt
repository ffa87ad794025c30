-- What is promised of a servo in a slot. Each is proved under its name, with small letters, in proofs/.
use Rattle.std.specs.Prelude.{◌≡◌, ◌⊎◌, ◌↔◌, ℕ, ◌≤◌, List, Bool, true, false, pos, nat_abs, get_or}
use Rattle.base_layout.specs.Bytes.{Bytes}
use Rattle.line_receiver.specs.Frames.{Frame}
use Rattle.module_rules.specs.Slots.{leader_at, low_at}
use Rattle.servo_motion.specs.Profile.{fastest}
use Rattle.servo_motion.specs.Promises.{Running}
use Rattle.servo_filter.specs.Promises.{Ranged}
use Rattle.servo_rules.specs.declared.Sample.{Sample}
use Rattle.servo_rules.specs.declared.Mode.TheVariants.{Off, Pwm, Hold, Trapezoid}
use Rattle.servo_rules.specs.declared.Servo.{Servo}
use Rattle.servo_rules.specs.State.{servo_off, started}
use Rattle.servo_rules.specs.Homing.{good_byte}
use Rattle.servo_rules.specs.Tick.{ticked, Steady}
use Rattle.servo_rules.specs.Answers.{type_number, execute}
use Rattle.servo_slot_rules.specs.Slot.{sample, slot, paced_at, ramped_at, waits_at, way_at, placed_at, pulsed_at, reverse_at, mode_at, error_at, amplifier_at, cut_at, decode_of, ok_of}

-- The servos that a slot can hold: every number within its bytes, and the list.
abbrev pub Fits : Servo → Type 0
Fits m = slot.codec.fits m

-- They are never left: by power-up, frames or ticks with a good sample.
pub record Kept : Type 0 where
  pub power : Fits started
  pub frame : (f : Frame) (alone : Bool) (m : Servo) → Bytes f.content → Fits m → Fits (execute f alone m)
  pub tick : (x : Sample) (m : Servo) → sample.codec.fits x → Fits m → Fits (ticked x m)

-- A valid slot has all that a tick's arithmetic needs, so that every answer about it is defined.
abbrev pub Defined : Type 0
Defined = (m : Servo) → Fits m → Steady m.run

-- the list that a valid slot of this type satisfies, line by line
pub record Lines (s : List ℕ) (m : Servo) : Type 0 where
  pub type_byte : get_or s 0 0 ≡ type_number
  pub leader : get_or s leader_at 0 ≤ 1
  pub low : get_or s low_at 0 ≤ 1
  pub cause : m.station.cause ≤ 5
  pub latched_power : m.latched.power ≤ 2
  pub latched_inputs : m.latched.inputs ≤ 3
  pub gains : Ranged m.settings.tuning.gains
  pub paced : get_or s paced_at 0 ≤ 1
  pub ramped : get_or s ramped_at 0 ≤ 1
  pub velocity : m.settings.rates.velocity ≤ fastest
  pub acceleration : m.settings.rates.acceleration ≤ fastest
  pub loaded_force : m.settings.rates.ramped ≡ true → 1 ≤ m.settings.rates.acceleration
  pub waits : get_or s waits_at 0 ≤ 1
  pub way : get_or s way_at 0 ≤ 2
  pub placed : get_or s placed_at 0 ≤ 1
  pub pulsed : get_or s pulsed_at 0 ≤ 1
  pub reverse : get_or s reverse_at 0 ≤ 1
  -- what runs: profile, memory and drive
  pub speed : nat_abs m.run.profile.speed ≤ fastest
  pub aim : nat_abs m.run.profile.aim ≤ fastest
  pub running_acceleration : m.run.profile.acceleration ≤ fastest
  pub top : m.run.profile.top ≤ fastest
  pub integral : nat_abs m.run.memory.integral ≤ 32767
  pub previous : nat_abs m.run.memory.previous ≤ 16383
  pub mode : get_or s mode_at 0 ≤ 4
  pub pulse : nat_abs m.run.drive.pulse ≤ 255
  pub output : nat_abs m.run.drive.output ≤ 255
  pub error : get_or s error_at 0 ≤ 1
  pub amplifier : get_or s amplifier_at 0 ≤ 1
  pub cut : get_or s cut_at 0 ≤ 1
  -- the byte of Set Homing, or 0
  pub homing : (m.homing.byte ≡ 0) ⊎ (good_byte m.homing.byte ≡ true)
  -- without good power there is no output
  pub powerless : (m.latched.power ≡ 1 → ⊥) → m.run.drive.output ≡ pos 0
  -- off: speed, output, integral, previous error and PWM value are 0
  pub off : m.run.drive.mode ≡ Off → (m.run.profile.speed ≡ pos 0) × (m.run.drive.output ≡ pos 0)
  pub off_empty : m.run.drive.mode ≡ Off → (m.run.memory.integral ≡ pos 0) × (m.run.memory.previous ≡ pos 0)
  -- PWM: speed, integral and previous error are 0
  pub pwm : m.run.drive.mode ≡ Pwm → m.run.profile.speed ≡ pos 0
  pub pwm_empty : m.run.drive.mode ≡ Pwm → (m.run.memory.integral ≡ pos 0) × (m.run.memory.previous ≡ pos 0)
  -- neither off nor PWM has a cut bit; holding: the speed is 0
  pub uncut : servo_off m.run.drive.mode ≡ true → m.run.drive.cut ≡ false
  pub hold : m.run.drive.mode ≡ Hold → m.run.profile.speed ≡ pos 0
  -- a trapezoid goes toward a goal that is not half the range away, and can still stop
  pub trapezoid : m.run.drive.mode ≡ Trapezoid → Running m.run.profile
  -- the PWM value is 0 in every mode but PWM; every mode but off has a clear error bit and power that is not low
  pub unpulsed : (m.run.drive.mode ≡ Pwm → ⊥) → m.run.drive.pulse ≡ pos 0
  pub clear : (m.run.drive.mode ≡ Off → ⊥) → m.run.drive.error ≡ false
  pub alive : (m.run.drive.mode ≡ Off → ⊥) → m.latched.power ≡ 0 → ⊥

-- A slot of bytes is valid exactly when it satisfies the list.
abbrev pub Listed : Type 0
Listed = (s : List ℕ) → Bytes s → (ok_of s ≡ true) ↔ Lines s (decode_of s)
