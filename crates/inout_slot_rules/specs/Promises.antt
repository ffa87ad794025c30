-- What is promised of an I/O module in a slot. Each is proved under its name, with small letters, in proofs/.
use Rattle.std.specs.Prelude.{◌≡◌, ◌↔◌, ℕ, ◌<◌, ◌≤◌, List, Bool, true, get_or}
use Rattle.base_layout.specs.Bytes.{Bytes}
use Rattle.line_receiver.specs.Frames.{Frame}
use Rattle.module_rules.specs.Report.{Fit}
use Rattle.module_rules.specs.Slots.{leader_at, low_at, cause_at}
use Rattle.inout_rules.specs.declared.Sample.{Sample}
use Rattle.inout_rules.specs.declared.Io.{Io}
use Rattle.inout_rules.specs.State.{started, ticked}
use Rattle.inout_rules.specs.Answers.{type_number, numbers, sizes, execute}
use Rattle.inout_slot_rules.specs.Slot.{sample, slot, decode_of, ok_of}

-- The values that a slot can hold: every number within its bytes, twelve-bit ones below 4,096, a cause of at most 5.
abbrev pub Fits : Io → Type 0
Fits m = slot.codec.fits m

-- They are never left: by power-up, frames or ticks with a good sample.
pub record Kept : Type 0 where
  pub power : Fits started
  pub frame : (f : Frame) (alone : Bool) (m : Io) → Bytes f.content → Fits m → Fits (execute f alone m)
  pub tick : (x : Sample) (m : Io) → sample.codec.fits x → Fits m → Fits (ticked x m)

-- Every item's number fits into its bytes, so that a reply spells it whole.
abbrev pub NumbersFit : Type 0
NumbersFit = (m : Io) → Fits m → Fit sizes (numbers m)

-- The list that a valid slot of this type satisfies, line by line.
pub record Lines (s : List ℕ) : Type 0 where
  pub type_byte : get_or s 0 0 ≡ type_number
  pub leader : get_or s leader_at 0 ≤ 1
  pub low : get_or s low_at 0 ≤ 1
  pub cause : get_or s cause_at 0 ≤ 5
  pub latched_inputs : (decode_of s).latched.inputs < 4096
  pub direction : (decode_of s).pins.direction < 4096
  pub register : (decode_of s).pins.register < 4096
  pub synch_bits : (decode_of s).synch.bits < 4096
  pub captured_inputs : (decode_of s).captured.inputs < 4096

-- A slot of bytes is valid exactly when it satisfies the list.
abbrev pub Listed : Type 0
Listed = (s : List ℕ) → Bytes s → (ok_of s ≡ true) ↔ Lines s
