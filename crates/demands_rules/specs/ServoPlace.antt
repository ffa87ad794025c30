-- One place through any calls, where a servo stands: what Place.antt says of any type, of this one.
use Rattle.std.specs.Prelude.{ℕ, List}
use Rattle.line_receiver.specs.Frames.{Frame}
use Rattle.servo_rules.specs.declared.Halt.{Halt}
use Rattle.servo_rules.specs.declared.Sample.{Sample}
use Rattle.servo_rules.specs.declared.Servo.{Servo}
use Rattle.servo_rules.specs.HomingPromises.{Acts}
use Rattle.types_rules.specs.Table.{servo}
use Rattle.demands_history_rules.specs.Calls.{Call}
use Rattle.demands_rules.specs.Place as AnyType

-- the servo m is at place i of the network that a record holds
abbrev pub At : List ℕ → ℕ → Servo → Type 0
At = AnyType.AtOf servo

-- the sample that a tick's list has for a servo at place i
abbrev pub servo_sample_at : List ℕ → ℕ → Sample
servo_sample_at = AnyType.sample_at servo

module _ (net : List ℕ) (cs : List Call) (i : ℕ) where
  -- the servo after the first n calls, the frames that it executed, the samples that ticks handed it
  abbrev pub Stands : ℕ → Servo → Type 0
  Stands = AnyType.Stands servo net cs i

  abbrev pub Executed : ℕ → Frame → Type 0
  Executed = AnyType.Executed servo net cs i

  abbrev pub Ticked : ℕ → Sample → Type 0
  Ticked = AnyType.Ticked servo net cs i

  -- 02 P8: call n was a tick in which homing's stop of this kind acted on the servo there
  pub record Homed (h : Halt) (n : ℕ) : Type 0 where
    pub sample : Sample
    pub ticked : Ticked n sample
    pub before : Servo
    pub stood : Stands n before
    pub acts : Acts h sample before

  -- no frame such as P executed between two calls; the servo such as P after each of some calls
  abbrev pub None : (Frame → Type 0) → ℕ → ℕ → Type 0
  None = AnyType.None servo net cs i

  abbrev pub Since : ℕ → ℕ → (Servo → Type 0) → Type 0
  Since = AnyType.Since servo net cs i

-- what the ticks among calls make of it
abbrev pub in_time : List ℕ → ℕ → Call → Servo → Servo
in_time = AnyType.in_time servo

abbrev pub through_time : List ℕ → ℕ → List Call → Servo → Servo
through_time = AnyType.through_time servo
