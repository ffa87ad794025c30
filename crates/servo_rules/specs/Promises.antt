-- What is promised of a servo's frames, answers, power-up and samples, besides what is promised of every module type; Ask-, Byte-,
-- Load-, Stop-, Tick-, Homing-, Cut- and RestPromises have the rest. Each is proved under its name, with small letters, in proofs/.
use Rattle.std.specs.Prelude.{◌≡◌, ◌↔◌, ℕ, ◌%◌, ◌^◌, ◌<◌, [], ◌∷◌, Bool, true, false, not, length, get_or, drop, eqb, pos, nat_abs}
use Rattle.std.specs.Int.Signed.{lt_z}
use Rattle.base_integers.specs.Bits.{bit}
use Rattle.base_integers.specs.Whole.{less, word}
use Rattle.base_layout.specs.Bytes.{le}
use Rattle.line_receiver.specs.Frames.{Frame}
use Rattle.module_rules.specs.Report.{Fit}
use Rattle.servo_motion.specs.Profile.{left}
use Rattle.servo_rules.specs.declared.Tuning.{Tuning}
use Rattle.servo_rules.specs.declared.Order.TheVariants.{SetGain, SetHoming, ClearBits}
use Rattle.servo_rules.specs.declared.Sample.{Sample}
use Rattle.servo_rules.specs.declared.Mode.TheVariants.{Off, Velocity, Trapezoid}
use Rattle.servo_rules.specs.declared.Servo.{Servo}
use Rattle.servo_rules.specs.Asks.{gains_in, tuning_in, gains_fit}
use Rattle.servo_rules.specs.State.{position, good, powered, fresh, started, with_settings, with_tuning}
use Rattle.servo_rules.specs.Loads.{signed_by}
use Rattle.servo_rules.specs.Perform.{can, perform}
use Rattle.servo_rules.specs.Tick.{ticked}
use Rattle.servo_rules.specs.Answers.{done, bit_at, status, numbers, sizes, outputs_of, servo, with_cause, execute, reply}

-- The status byte: bit 0 move done, 1 cause not 0, 2 the cut bit, 3 power 1, 4 the error bit, 5 and 6 the latched inputs, 7 homing in progress (01
-- Servo, Status bits; 02 P5, P8).
pub record Status (m : Servo) : Type 0 where
  pub finished : bit 0 (status m) ≡ bit_at 1 (done m.run)
  pub refused : bit 1 (status m) ≡ bit_at 1 (not (eqb m.station.cause 0))
  pub cut : bit 2 (status m) ≡ bit_at 1 m.run.drive.cut
  pub good : bit 3 (status m) ≡ bit_at 1 (powered m)
  pub error : bit 4 (status m) ≡ bit_at 1 m.run.drive.error
  pub limit1 : bit 5 (status m) ≡ bit 0 m.latched.inputs
  pub limit2 : bit 6 (status m) ≡ bit 1 m.latched.inputs
  pub homing : bit 7 (status m) ≡ bit_at 1 (not (eqb m.homing.byte 0))
  pub small : status m < 256

abbrev pub StatusBits : Type 0
StatusBits = (m : Servo) → Status m

-- Move done: in velocity mode exactly at the goal speed, in a trapezoid exactly with no distance and no speed left, else always (01 Tick).
pub record Finished (m : Servo) : Type 0 where
  pub velocity : m.run.drive.mode ≡ Velocity → (done m.run ≡ true) ↔ (m.run.profile.speed ≡ m.run.profile.aim)
  pub trapezoid : m.run.drive.mode ≡ Trapezoid
      → (done m.run ≡ true) ↔ ((left m.run.profile ≡ pos 0) × (m.run.profile.speed ≡ pos 0))
  pub others : (m.run.drive.mode ≡ Velocity → ⊥) → (m.run.drive.mode ≡ Trapezoid → ⊥) → done m.run ≡ true

abbrev pub MoveDone : Type 0
MoveDone = (m : Servo) → Finished m

-- Every item's number fits into its bytes, so that a reply spells it whole.
abbrev pub NumbersFit : Type 0
NumbersFit = (m : Servo) → m.latched.ad < 256 → m.homing.home < 2 ^ 32 → Fit sizes (numbers m)

-- Each item by its number, of as many bytes as its size; the type's byte comes before the version's (01 Servo, Items;
-- 02 P8).
pub record Items (m : Servo) : Type 0 where
  pub place : get_or (numbers m) 0 0 ≡ less m.latched.raw m.counts.offset
  pub ad : get_or (numbers m) 1 0 ≡ m.latched.ad
  pub change : get_or (numbers m) 2 0 ≡ less (position m) m.counts.last % 65536
  pub zero : (get_or (numbers m) 3 0 ≡ 0) × (get_or (numbers m) 7 0 ≡ 0)
  pub home : get_or (numbers m) 4 0 ≡ m.homing.home
  pub version : le (get_or sizes 5 0) (get_or (numbers m) 5 0) ≡ 0 ∷ 10 ∷ []
  pub error : get_or (numbers m) 6 0 ≡ word m.run.memory.previous % 65536
  pub bytes : sizes ≡ 4 ∷ 1 ∷ 2 ∷ 1 ∷ 4 ∷ 2 ∷ 2 ∷ 1 ∷ []

abbrev pub ItemsAre : Type 0
ItemsAre = (m : Servo) → Items m

-- what a servo is after power-up and after Hard Reset: off and done, the error bit set, SM 1, nothing loaded, nothing assigned,
-- not homing, the rest 0
pub record Blank (m : Servo) : Type 0 where
  pub mode : m.run.drive.mode ≡ Off
  pub finished : done m.run ≡ true
  pub error : m.run.drive.error ≡ true
  pub amplifier : m.run.drive.amplifier ≡ false
  pub cut : m.run.drive.cut ≡ false
  pub output : m.run.drive.output ≡ pos 0
  pub pulse : m.run.drive.pulse ≡ pos 0
  pub speed : m.run.profile.speed ≡ pos 0
  pub profile : m.run.profile ≡ record { setpoint = 0; speed = pos 0; goal = 0; aim = pos 0; acceleration = 0; top = 0 }
  pub integral : m.run.memory.integral ≡ pos 0
  pub previous : m.run.memory.previous ≡ pos 0
  pub kp : m.settings.tuning.gains.kp ≡ 0
  pub kd : m.settings.tuning.gains.kd ≡ 0
  pub ki : m.settings.tuning.gains.ki ≡ 0
  pub il : m.settings.tuning.gains.il ≡ 0
  pub ol : m.settings.tuning.gains.ol ≡ 0
  pub el : m.settings.tuning.gains.el ≡ 0
  pub cl : m.settings.tuning.cl ≡ 0
  pub sm : m.settings.tuning.sm ≡ 1
  pub homing : (m.homing.home ≡ 0) × (m.homing.byte ≡ 0)
  pub waits : m.settings.load.waits ≡ false
  pub placed : (m.settings.load.placed ≡ false) × (m.settings.load.place ≡ 0)
  pub pulsed : (m.settings.load.pulsed ≡ false) × (m.settings.load.pulse ≡ 0)
  pub reverse : m.settings.load.reverse ≡ false
  pub paced : m.settings.rates.paced ≡ false
  pub ramped : m.settings.rates.ramped ≡ false
  pub velocity : m.settings.rates.velocity ≡ 0
  pub acceleration : m.settings.rates.acceleration ≡ 0
  pub individual : m.station.address.individual ≡ 0
  pub group : m.station.address.group ≡ 255
  pub leader : m.station.address.leader ≡ false
  pub low : m.station.address.low ≡ false
  pub cause : m.station.cause ≡ 0
  pub items : m.station.items ≡ 0
  pub baud : m.station.baud ≡ 0

-- Power-up: sample and counts 0, and the status byte has bits 0 and 4 (01 Who is touched, Servo).
pub record PowerUp : Type 0 where
  pub blank : Blank started
  pub renewed : (m : Servo) → Blank (servo.renewed m)
  pub latched : (started.latched.raw ≡ 0) × (started.latched.power ≡ 0) × (started.latched.ad ≡ 0) × (started.latched.inputs ≡ 0)
  pub counts : (started.counts.offset ≡ 0) × (started.counts.last ≡ 0)
  pub here : position started ≡ 0
  pub status : status started ≡ 17

-- Hard Reset, which has no data: the power-up record with the latched sample kept, position and last tick's change 0, and no reply.
pub record AfterReset (f : Frame) (alone : Bool) (m : Servo) : Type 0 where
  pub whole : execute f alone m ≡ fresh m.latched
  pub latched : (execute f alone m).latched ≡ m.latched
  pub mode : (execute f alone m).run.drive.mode ≡ Off
  pub error : (execute f alone m).run.drive.error ≡ true
  pub waits : (execute f alone m).settings.load.waits ≡ false
  pub here : m.latched.raw < 2 ^ 32 → position (execute f alone m) ≡ 0
  pub change : m.latched.raw < 2 ^ 32 → get_or (numbers (execute f alone m)) 2 0 ≡ 0
  pub silent : reply f (execute f alone m) ≡ []

abbrev pub Resets : Type 0
Resets = (f : Frame) (alone : Bool) (m : Servo) → f.damaged ≡ false → f.code ≡ 15 → length f.content ≡ 0 → AfterReset f alone m

-- What the board drives: the output's size and sign, the enable line, which is the amplifier bit at power 1, and five zeros (01 Filter).
pub record Drives (m : Servo) : Type 0 where
  pub size : get_or (outputs_of m) 0 0 ≡ nat_abs m.run.drive.output
  pub sign : get_or (outputs_of m) 1 0 ≡ bit_at 1 (lt_z m.run.drive.output (pos 0))
  pub signed : signed_by (eqb (get_or (outputs_of m) 1 0) 1) (get_or (outputs_of m) 0 0) ≡ m.run.drive.output
  pub high : m.run.drive.amplifier ≡ true → m.latched.power ≡ 1 → get_or (outputs_of m) 2 0 ≡ 1
  pub unset : m.run.drive.amplifier ≡ false → get_or (outputs_of m) 2 0 ≡ 0
  pub unpowered : (m.latched.power ≡ 1 → ⊥) → get_or (outputs_of m) 2 0 ≡ 0
  pub zeros : drop 3 (outputs_of m) ≡ 0 ∷ 0 ∷ 0 ∷ 0 ∷ 0 ∷ []

abbrev pub Enabled : Type 0
Enabled = (m : Servo) → Drives m

-- Set Gain stores all of it and changes nothing else; with any value out of range, or a wrong count, it stores nothing (01 Set Gain).
pub record StoresGain (f : Frame) (alone : Bool) (m : Servo) : Type 0 where
  pub tuning : (t : Tuning) → (perform (SetGain t) m).settings.tuning ≡ t
  pub others : (t : Tuning) → perform (SetGain t) m ≡ with_settings (with_tuning t m.settings) m
  pub taken : f.damaged ≡ false
      → f.code ≡ 6
      → length f.content ≡ 15
      → gains_fit (gains_in f.content) ≡ true
      → get_or f.content 12 0 ≡ 1
      → get_or f.content 13 0 ≡ 0
      → execute f alone m ≡ with_cause 0 (with_settings (with_tuning (tuning_in f.content) m.settings) m)
  pub count : f.damaged ≡ false → f.code ≡ 6 → (length f.content ≡ 15 → ⊥) → execute f alone m ≡ with_cause 2 m
  pub value : f.damaged ≡ false → f.code ≡ 6 → length f.content ≡ 15 → gains_fit (gains_in f.content) ≡ false → execute f alone m ≡ with_cause 5 m
  pub rate : f.damaged ≡ false → f.code ≡ 6 → length f.content ≡ 15 → (get_or f.content 12 0 ≡ 1 → ⊥) → execute f alone m ≡ with_cause 5 m
  pub band : f.damaged ≡ false → f.code ≡ 6 → length f.content ≡ 15 → (get_or f.content 13 0 ≡ 0 → ⊥) → execute f alone m ≡ with_cause 5 m

abbrev pub Gains : Type 0
Gains = (f : Frame) (alone : Bool) (m : Servo) → StoresGain f alone m

-- the error bit is clear now, and all else as it was
pub record Cleared (m n : Servo) : Type 0 where
  pub error : n.run.drive.error ≡ false
  pub cause : n.station.cause ≡ 0
  pub address : n.station.address ≡ m.station.address
  pub items : n.station.items ≡ m.station.items
  pub baud : n.station.baud ≡ m.station.baud
  pub latched : n.latched ≡ m.latched
  pub counts : n.counts ≡ m.counts
  pub settings : n.settings ≡ m.settings
  pub homing : n.homing ≡ m.homing
  pub profile : n.run.profile ≡ m.run.profile
  pub memory : n.run.memory ≡ m.run.memory
  pub mode : n.run.drive.mode ≡ m.run.drive.mode
  pub pulse : n.run.drive.pulse ≡ m.run.drive.pulse
  pub output : n.run.drive.output ≡ m.run.drive.output
  pub amplifier : n.run.drive.amplifier ≡ m.run.drive.amplifier
  pub cut : n.run.drive.cut ≡ m.run.drive.cut

-- Clear Bits clears the error bit of any servo and changes nothing else (01 Clear Bits).
abbrev pub Clears : Type 0
Clears = (f : Frame) (alone : Bool) (m : Servo) → f.damaged ≡ false → f.code ≡ 11 → f.content ≡ [] → Cleared m (execute f alone m)

-- Clear Bits, Set Gain and Set Homing are never refused as not now, whatever runs or waits (01 Set Gain, Clear Bits; 02 P8).
abbrev pub AlwaysNow : Type 0
AlwaysNow = (m : Servo) → (can ClearBits m ≡ true) × ((t : Tuning) → can (SetGain t) m ≡ true) × ((b : ℕ) → can (SetHoming b) m ≡ true)

-- A tick latches the sample that it is handed, whatever was latched before; until the next one no frame changes it (01 Servo, Sample; 02 P11).
pub record Sampling (x : Sample) (m : Servo) : Type 0 where
  pub latched : (ticked x m).latched ≡ x
  pub kept : (f : Frame) (alone : Bool) → (execute f alone m).latched ≡ m.latched
  pub power : powered (ticked x m) ≡ good x.power
  pub ad : get_or (numbers (ticked x m)) 1 0 ≡ x.ad
  pub limits : (bit 5 (status (ticked x m)) ≡ bit 0 x.inputs) × (bit 6 (status (ticked x m)) ≡ bit 1 x.inputs)
  pub place : position (ticked x m) ≡ less x.raw m.counts.offset
  pub change : get_or (numbers (ticked x m)) 2 0 ≡ less (position (ticked x m)) (position m) % 65536

abbrev pub Samples : Type 0
Samples = (x : Sample) (m : Servo) → Sampling x m
