-- What is promised of a step-motor module in a slot. Each is proved under its name, with small letters, in proofs/.
use Rattle.std.specs.Prelude.{◌≡◌, ◌⊎◌, ◌↔◌, ℕ, ◌+◌, ◌<◌, ◌≤◌, List, Bool, true, get_or}
use Rattle.base_layout.specs.Bytes.{Bytes}
use Rattle.line_receiver.specs.Frames.{Frame}
use Rattle.module_rules.specs.Report.{Fit}
use Rattle.module_rules.specs.Slots.{leader_at, low_at, cause_at}
use Rattle.stepper_rules.specs.declared.Sample.{Sample}
use Rattle.stepper_rules.specs.declared.Motion.{Motion}
use Rattle.stepper_rules.specs.declared.Stepper.{Stepper}
use Rattle.stepper_rules.specs.State.{rest, started}
use Rattle.stepper_rules.specs.Ramp.{ticked}
use Rattle.stepper_rules.specs.Answers.{type_number, numbers, sizes, execute}
use Rattle.stepper_slot_rules.specs.Slot.{sample, slot, settings_at, load_at, motion_at, decode_of, ok_of}

-- The values that a slot can hold: every number within its bytes, and the list.
abbrev pub Fits : Stepper → Type 0
Fits m = slot.codec.fits m

-- They are never left: by power-up, frames or ticks with a good sample.
pub record Kept : Type 0 where
  pub power : Fits started
  pub frame : (f : Frame) (alone : Bool) (m : Stepper) → Bytes f.content → Fits m → Fits (execute f alone m)
  pub tick : (x : Sample) (m : Stepper) → sample.codec.fits x → Fits m → Fits (ticked x m)

-- Every item's number fits into its bytes, so that a reply spells it whole.
abbrev pub NumbersFit : Type 0
NumbersFit = (m : Stepper) → Fits m → Fit sizes (numbers m)

-- what moves: the minimum is 1 to 250 and known, speed and goal lie between it and 250, the acceleration time is at least 1 and fewer ticks were
-- counted, and a smooth stop goes to the minimum
pub record Moving (minimum : ℕ) (p : Motion) : Type 0 where
  pub known : 1 ≤ minimum
  pub speed : minimum ≤ p.speed
  pub fastest : p.speed ≤ 250
  pub goal : minimum ≤ p.goal
  pub goal_most : p.goal ≤ 250
  pub counted : p.ticks < p.time
  pub slowing : p.stopping ≡ true → p.goal ≡ minimum

-- The list that a valid slot of this type satisfies, line by line (02 P3).
pub record Lines (s : List ℕ) : Type 0 where
  pub type_byte : get_or s 0 0 ≡ type_number
  pub leader : get_or s leader_at 0 ≤ 1
  pub low : get_or s low_at 0 ≤ 1
  pub cause : get_or s cause_at 0 ≤ 5
  -- no item bit but 0 and 5
  pub items : ((decode_of s).station.items ≡ 0) ⊎ (((decode_of s).station.items ≡ 1) ⊎ (((decode_of s).station.items ≡ 32) ⊎ ((decode_of s).station.items ≡ 33)))
  pub amplifier : get_or s settings_at 0 ≤ 1
  pub minimum : (decode_of s).settings.minimum ≤ 250
  pub waits : get_or s load_at 0 ≤ 1
  pub load_backward : get_or s (load_at + 1) 0 ≤ 1
  pub load_speed : (decode_of s).load.speed ≤ 250
  pub backward : get_or s (motion_at + 1) 0 ≤ 1
  pub stopping : get_or s (motion_at + 5) 0 ≤ 1
  -- at rest all of it is 0
  pub motion : ((decode_of s).motion ≡ rest) ⊎ Moving (decode_of s).settings.minimum (decode_of s).motion

-- A slot of bytes is valid exactly when it satisfies the list.
abbrev pub Listed : Type 0
Listed = (s : List ℕ) → Bytes s → (ok_of s ≡ true) ↔ Lines s
