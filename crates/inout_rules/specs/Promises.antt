-- What is promised of an I/O module beyond what module_rules promises of every type. Each is proved under its name, with small letters, in
-- proofs/.
use Rattle.std.specs.Prelude.{◌≡◌, ℕ, ◌+◌, ◌*◌, ◌%◌, ◌^◌, ◌<◌, ◌≤◌, [], ◌∷◌, ◌++◌, Bool, false, cond, ◌&&◌, length, get_or, eqb}
use Rattle.base_integers.specs.Bits.{bit}
use Rattle.base_layout.specs.Bytes.{le}
use Rattle.line_receiver.specs.Frames.{Frame}
use Rattle.module_rules.specs.declared.Setting.TheVariants.{Assign, Define, Rate, Nothing}
use Rattle.module_rules.specs.Commands.{assigned}
use Rattle.module_rules.specs.Report.{cause_bit}
use Rattle.module_rules.specs.Rules.{set, settled}
use Rattle.inout_rules.specs.declared.Sample.{Sample}
use Rattle.inout_rules.specs.declared.Pins.{Pins}
use Rattle.inout_rules.specs.declared.Io.{Io}
use Rattle.inout_rules.specs.declared.Command.TheVariants.{Direction, Pwm, SynchOutput, Output, SynchStore, Timer, SynchInput}
use Rattle.inout_rules.specs.Pins.{bits_of, blend}
use Rattle.inout_rules.specs.State.{fresh, read_now, ticked}
use Rattle.inout_rules.specs.Perform.{pulsed, output, perform}
use Rattle.inout_rules.specs.Answers.{numbers, outputs_of, inout, with_cause, execute, reply}

-- The cause after a frame is 0, 1, 2 or 4: nothing of this type is 3, not now, and no value of it is out of range, 5.
pub record Causes (cause : ℕ) : Type 0 where
  pub most : cause ≤ 4
  pub ever_now : cause ≡ 3 → ⊥

abbrev pub CauseIs : Type 0
CauseIs = (f : Frame) (alone : Bool) (m : Io) → Causes (execute f alone m).station.cause

-- The status byte of a reply has bit 1 set if the cause is not 0, clear if it is 0, and no other bit.
pub record Status (cause byte : ℕ) : Type 0 where
  pub set : (cause ≡ 0 → ⊥) → bit 1 byte ≡ 1
  pub clear : cause ≡ 0 → bit 1 byte ≡ 0
  pub others : (k : ℕ) → (k ≡ 1 → ⊥) → bit k byte ≡ 0

abbrev pub CauseBit : Type 0
CauseBit = (c : ℕ) → Status c (cause_bit c)

-- A reply, which an executed Hard Reset alone does not draw, begins with that status byte.
abbrev pub StatusFirst : Type 0
StatusFirst =
    (f : Frame) (m : Io)
    → (eqb f.code 15 && eqb m.station.cause 0) ≡ false
    → Status m.station.cause (get_or (reply f m) 0 0)

-- Of n bits picked by their direction each is x's where the direction bit is 1 and y's where it is 0, and there is no further bit.
abbrev pub EachBit : Type 0
EachBit = (n k d x y : ℕ) → k < n → bit k (blend n d x y) ≡ cond (eqb (bit k d) 1) (bit k x) (bit k y)

abbrev pub NoFurther : Type 0
NoFurther = (n d x y : ℕ) → blend n d x y < 2 ^ n

-- The upper nibble of a second bit byte is ignored.
abbrev pub Nibble : Type 0
Nibble = (low high : ℕ) → low < 256 → bits_of low high ≡ (low + 256 * high) % 4096

-- Of given bits only those directed as outputs reach the register; a bit directed as input keeps its register value.
pub record Put (before after : Pins) (given k : ℕ) : Type 0 where
  pub input : bit k before.direction ≡ 1 → bit k after.register ≡ bit k before.register
  pub output : bit k before.direction ≡ 0 → bit k after.register ≡ bit k given

-- So do Set Output with its own bits, and Synch Output with the stored ones, by the directions at its own time.
abbrev pub InputsKeep : Type 0
InputsKeep =
    (m : Io) (k : ℕ)
    → k < 12
    → ((bits : ℕ) → Put m.pins (perform (Output bits) m).pins bits k)
    × Put m.pins (perform SynchOutput m).pins m.synch.bits k

-- The read value: the latched sample for inputs, the register for outputs.
abbrev pub ReadValue : Type 0
ReadValue =
    (m : Io) (k : ℕ)
    → k < 12
    → (bit k m.pins.direction ≡ 1 → bit k (read_now m) ≡ bit k m.latched.inputs)
    × (bit k m.pins.direction ≡ 0 → bit k (read_now m) ≡ bit k m.pins.register)

-- What a command stores is what the module holds, drives or uses from then on.
pub record Stores (m : Io) : Type 0 where
  -- Set Direction: the pins' direction, by which the twelve bits are read; the register is as it was
  pub direction : (d : ℕ) → (perform (Direction d) m).pins.direction ≡ d
  pub register : (d : ℕ) → (perform (Direction d) m).pins.register ≡ m.pins.register
  pub read_by : (d : ℕ) → read_now (perform (Direction d) m) ≡ blend 12 d m.latched.inputs m.pins.register
  -- Set PWM: what is driven; the stored PWMs are as they were
  pub pwm : (a b : ℕ) → ((perform (Pwm a b) m).pins.pwm1 ≡ a) × ((perform (Pwm a b) m).pins.pwm2 ≡ b)
  pub apart : (a b : ℕ) → (perform (Pwm a b) m).synch ≡ m.synch
  -- Set Synch Output: nothing is driven yet; Synch Output puts out all that is stored, and keeps it
  pub stored : (bits a b : ℕ) → (perform (SynchStore bits a b) m).synch ≡ record { bits = bits; pwm1 = a; pwm2 = b }
  pub not_yet : (bits a b : ℕ) → (perform (SynchStore bits a b) m).pins ≡ m.pins
  pub then_out : (bits a b : ℕ) → (perform SynchOutput (perform (SynchStore bits a b) m)).pins ≡ pulsed a b (output bits m.pins)
  pub again : (perform SynchOutput m).synch ≡ m.synch
  -- Set Timer Mode, Set Address, Define Status, Set Baud
  pub timer : (t : ℕ) → (perform (Timer t) m).timer ≡ t
  pub address : (a b : ℕ) → (settled inout (set (Assign a b)) m).station.address ≡ assigned a b
  pub items : (b : ℕ) → (settled inout (set (Define b)) m).station.items ≡ b
  pub baud : (b : ℕ) → (settled inout (set (Rate b)) m).station.baud ≡ b
  -- Read Status, No Op
  pub nothing : settled inout (set Nothing) m ≡ with_cause 0 m

-- What the board is told to drive: the pins as the last command left them.
abbrev pub Driven : Type 0
Driven = (m : Io) → outputs_of m ≡ le 2 m.pins.direction ++ le 2 m.pins.register ++ (m.pins.pwm1 ∷ m.pins.pwm2 ∷ le 2 0)

-- A tick latches the sample that it is handed, whatever was latched before: items 0 to 4 are then its own, and what is driven is as it was. Until the
-- next tick no frame changes it (02 P11).
pub record Sampling (x : Sample) (m : Io) : Type 0 where
  pub latched : (ticked x m).latched ≡ x
  pub kept : (f : Frame) (alone : Bool) → (execute f alone m).latched ≡ m.latched
  pub undriven : outputs_of (ticked x m) ≡ outputs_of m
  pub shown : numbers (ticked x m)
      ≡ blend 12 m.pins.direction x.inputs m.pins.register
      ∷ x.ad1
      ∷ x.ad2
      ∷ x.ad3
      ∷ x.counter
      ∷ 258
      ∷ m.captured.inputs
      ∷ m.captured.counter
      ∷ []

-- After Synch Input items 6 and 7 are the read value and the counter of that time; a later tick leaves them.
pub record Captures (x : Sample) (m : Io) : Type 0 where
  pub inputs : get_or (numbers (perform SynchInput m)) 6 0 ≡ read_now m
  pub counter : get_or (numbers (perform SynchInput m)) 7 0 ≡ m.latched.counter
  pub inputs_stay : get_or (numbers (ticked x (perform SynchInput m))) 6 0 ≡ read_now m
  pub counter_stays : get_or (numbers (ticked x (perform SynchInput m))) 7 0 ≡ m.latched.counter

-- Stored things are shown.
abbrev pub Shown : Type 0
Shown = (x : Sample) (m : Io) → Stores m × (Sampling x m × Captures x m)

-- Hard Reset, which has no data: the power-up record with the latched sample kept, and no reply.
pub record AfterReset (f : Frame) (alone : Bool) (m : Io) : Type 0 where
  pub whole : execute f alone m ≡ fresh m.latched
  pub latched : (execute f alone m).latched ≡ m.latched
  pub silent : reply f (execute f alone m) ≡ []

abbrev pub Resets : Type 0
Resets = (f : Frame) (alone : Bool) (m : Io) → f.damaged ≡ false → f.code ≡ 15 → length f.content ≡ 0 → AfterReset f alone m
