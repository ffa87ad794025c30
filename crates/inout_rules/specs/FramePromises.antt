-- What is promised of an I/O module by the bytes of a frame: its codes and counts, what its commands do, its items and its power-up (document
-- 01, "I/O module"). Each is proved under its name, with small letters, in proofs/.
use Rattle.std.specs.Prelude.{◌≡◌, ℕ, ◌+◌, ◌<◌, List, [], ◌∷◌, Bool, true, false, get_or}
use Rattle.base_integers.specs.Bits.{bit}
use Rattle.base_layout.specs.Bytes.{le}
use Rattle.line_receiver.specs.Frames.{Frame}
use Rattle.module_rules.specs.declared.Setting.TheVariants.{Assign, Define, Rate, Nothing}
use Rattle.module_rules.specs.declared.Fault.TheVariants as Faults
use Rattle.module_rules.specs.Rules.{malformed, set, reset, wants}
use Rattle.module_rules.specs.FramePromises.{AtPowerUp, undamaged, Takes}
use Rattle.inout_rules.specs.declared.Sample.{Sample}
use Rattle.inout_rules.specs.declared.Pins.{Pins}
use Rattle.inout_rules.specs.declared.Io.{Io}
use Rattle.inout_rules.specs.declared.Command.TheVariants.{Direction, Pwm, SynchOutput, Output, SynchStore, Timer, SynchInput}
use Rattle.inout_rules.specs.Pins.{bits_of}
use Rattle.inout_rules.specs.State.{started, with_pins, with_synch, with_timer, with_capture, read_now}
use Rattle.inout_rules.specs.Answers.{numbers, sizes, inout, request, with_cause, execute}

-- a number is none of these
abbrev pub NoneOf : ℕ → List ℕ → Type 0
NoneOf n [] = Unit {0}
NoneOf n (k ∷ ks) = (n ≡ k → ⊥) × NoneOf n ks

-- 01 I/O module, Commands of both types: what each code asks of an I/O module, with as many data bytes as it takes.
pub record Asks (to : ℕ) (alone : Bool) : Type 0 where
  pub direction : (a b : ℕ) → request (undamaged to 0 (a ∷ b ∷ [])) alone ≡ wants (Direction (bits_of a b))
  pub address : (a b : ℕ) → request (undamaged to 1 (a ∷ b ∷ [])) alone ≡ set (Assign a b)
  pub defines : (b : ℕ) → request (undamaged to 2 (b ∷ [])) alone ≡ set (Define b)
  pub reads : (b : ℕ) → request (undamaged to 3 (b ∷ [])) alone ≡ set Nothing
  pub pwm : (a b : ℕ) → request (undamaged to 4 (a ∷ b ∷ [])) alone ≡ wants (Pwm a b)
  pub synch_output : request (undamaged to 5 []) alone ≡ wants SynchOutput
  pub output : (a b : ℕ) → request (undamaged to 6 (a ∷ b ∷ [])) alone ≡ wants (Output (bits_of a b))
  pub synch_store : (a b p q : ℕ) → request (undamaged to 7 (a ∷ b ∷ p ∷ q ∷ [])) alone ≡ wants (SynchStore (bits_of a b) p q)
  pub timer : (t : ℕ) → request (undamaged to 8 (t ∷ [])) alone ≡ wants (Timer t)
  pub baud : (b : ℕ) → request (undamaged to 10 (b ∷ [])) false ≡ set (Rate b)
  pub baud_alone : (ds : List ℕ) → request (undamaged to 10 ds) true ≡ malformed Faults.Unknown
  pub synch_input : request (undamaged to 12 []) alone ≡ wants SynchInput
  pub no_op : request (undamaged to 14 []) alone ≡ set Nothing
  pub hard_reset : request (undamaged to 15 []) alone ≡ reset

abbrev pub Codes : Type 0
Codes = (to : ℕ) (alone : Bool) → Asks to alone

-- 01 I/O module: how many data bytes each of its own codes takes; any other number of them is a wrong count.
pub record Counts : Type 0 where
  pub direction : Takes inout 0 2
  pub pwm : Takes inout 4 2
  pub synch_output : Takes inout 5 0
  pub output : Takes inout 6 2
  pub synch_store : Takes inout 7 4
  pub timer : Takes inout 8 1
  pub synch_input : Takes inout 12 0

-- 02 P1: any other code than these thirteen is unknown, with any data.
abbrev pub Unknown : Type 0
Unknown =
    (f : Frame) (alone : Bool)
    → NoneOf f.code (0 ∷ 1 ∷ 2 ∷ 3 ∷ 4 ∷ 5 ∷ 6 ∷ 7 ∷ 8 ∷ 10 ∷ 12 ∷ 14 ∷ 15 ∷ [])
    → request f alone ≡ malformed Faults.Unknown

-- twelve bits from two bytes: bits 0 to 7 are those of the first, bits 8 to 11 the lowest four of the second
pub record FromBytes (bits a b : ℕ) : Type 0 where
  pub first : (k : ℕ) → k < 8 → bit k bits ≡ bit k a
  pub second : (k : ℕ) → k < 4 → bit (8 + k) bits ≡ bit k b
  pub twelve : bits < 4096

-- the register after two bytes were put out: bits directed as outputs are those bytes', bits directed as inputs are as they were
pub record PutOut (before after : Pins) (a b : ℕ) : Type 0 where
  pub first : (k : ℕ) → k < 8 → bit k before.direction ≡ 0 → bit k after.register ≡ bit k a
  pub second : (k : ℕ) → k < 4 → bit (8 + k) before.direction ≡ 0 → bit (8 + k) after.register ≡ bit k b
  pub inputs : (k : ℕ) → k < 12 → bit k before.direction ≡ 1 → bit k after.register ≡ bit k before.register
  pub direction : after.direction ≡ before.direction

-- 01 I/O module: what an undamaged frame does, for every data byte and whatever the module is, so never "not now". It changes the cause, to 0,
-- and the part that it is for; all else is as it was.
pub record Does (to : ℕ) (alone : Bool) (m : Io) : Type 0 where
  -- 0 Set Direction
  pub directs : (a b : ℕ) → a < 256 → FromBytes (execute (undamaged to 0 (a ∷ b ∷ [])) alone m).pins.direction a b
  pub direction : (a b : ℕ)
      → execute (undamaged to 0 (a ∷ b ∷ [])) alone m
      ≡ with_cause 0 (with_pins (record { direction = bits_of a b; register = m.pins.register; pwm1 = m.pins.pwm1; pwm2 = m.pins.pwm2 }) m)
  -- 4 Set PWM
  pub pwm : (a b : ℕ)
      → execute (undamaged to 4 (a ∷ b ∷ [])) alone m
      ≡ with_cause 0 (with_pins (record { direction = m.pins.direction; register = m.pins.register; pwm1 = a; pwm2 = b }) m)
  -- 6 Set Output
  pub puts : (a b : ℕ) → a < 256 → PutOut m.pins (execute (undamaged to 6 (a ∷ b ∷ [])) alone m).pins a b
  pub output : (a b : ℕ)
      → execute (undamaged to 6 (a ∷ b ∷ [])) alone m
      ≡ with_cause 0
      (with_pins
      (record {
        direction = m.pins.direction;
        register = (execute (undamaged to 6 (a ∷ b ∷ [])) alone m).pins.register;
        pwm1 = m.pins.pwm1;
        pwm2 = m.pins.pwm2;
      })
      m)
  -- 7 Set Synch Output: two bit bytes, then PWM 1 and PWM 2
  pub stores : (a b p q : ℕ) → a < 256 → FromBytes (execute (undamaged to 7 (a ∷ b ∷ p ∷ q ∷ [])) alone m).synch.bits a b
  pub synch_store : (a b p q : ℕ)
      → execute (undamaged to 7 (a ∷ b ∷ p ∷ q ∷ [])) alone m ≡ with_cause 0 (with_synch (record { bits = bits_of a b; pwm1 = p; pwm2 = q }) m)
  -- 5 Synch Output, which puts out what the last Set Synch Output stored
  pub puts_stored : (a b p q sent : ℕ) (single : Bool)
      → a < 256
      → PutOut m.pins (execute (undamaged sent 5 []) single (execute (undamaged to 7 (a ∷ b ∷ p ∷ q ∷ [])) alone m)).pins a b
  pub pulses_stored : (a b p q sent : ℕ) (single : Bool)
      → ((execute (undamaged sent 5 []) single (execute (undamaged to 7 (a ∷ b ∷ p ∷ q ∷ [])) alone m)).pins.pwm1 ≡ p)
      × ((execute (undamaged sent 5 []) single (execute (undamaged to 7 (a ∷ b ∷ p ∷ q ∷ [])) alone m)).pins.pwm2 ≡ q)
  pub synch_output : execute (undamaged to 5 []) alone m ≡ with_cause 0 (with_pins (execute (undamaged to 5 []) alone m).pins m)
  -- 8 Set Timer Mode
  pub timer : (t : ℕ) → execute (undamaged to 8 (t ∷ [])) alone m ≡ with_cause 0 (with_timer t m)
  -- 12 Synch Input
  pub synch_input : execute (undamaged to 12 []) alone m
      ≡ with_cause 0 (with_capture (record { inputs = read_now m; counter = m.latched.counter }) m)

abbrev pub Obeys : Type 0
Obeys = (to : ℕ) (alone : Bool) (m : Io) → Does to alone m

-- 01 I/O module: the items by their numbers, and how many bytes each has; item 5 is type 2, then version 1.
pub record Item (m : Io) : Type 0 where
  pub inputs : get_or (numbers m) 0 0 ≡ read_now m
  pub ad1 : get_or (numbers m) 1 0 ≡ m.latched.ad1
  pub ad2 : get_or (numbers m) 2 0 ≡ m.latched.ad2
  pub ad3 : get_or (numbers m) 3 0 ≡ m.latched.ad3
  pub counter : get_or (numbers m) 4 0 ≡ m.latched.counter
  pub type_and_version : le 2 (get_or (numbers m) 5 0) ≡ 2 ∷ 1 ∷ []
  pub captured_inputs : get_or (numbers m) 6 0 ≡ m.captured.inputs
  pub captured_counter : get_or (numbers m) 7 0 ≡ m.captured.counter
  pub long : sizes ≡ 2 ∷ 1 ∷ 1 ∷ 1 ∷ 4 ∷ 2 ∷ 2 ∷ 4 ∷ []

abbrev pub Items : Type 0
Items = (m : Io) → Item m

-- a sample of nothing but 0
pub record Zero (x : Sample) : Type 0 where
  pub inputs : x.inputs ≡ 0
  pub ad1 : x.ad1 ≡ 0
  pub ad2 : x.ad2 ≡ 0
  pub ad3 : x.ad3 ≡ 0
  pub counter : x.counter ≡ 0

-- 01 I/O module: power-up, field by field: all twelve pins are inputs, the rest is 0.
pub record AtStart (m : Io) : Type 0 where
  pub station : AtPowerUp m.station
  pub latched : Zero m.latched
  pub inputs : (k : ℕ) → k < 12 → bit k m.pins.direction ≡ 1
  pub direction : m.pins.direction ≡ 4095
  pub register : m.pins.register ≡ 0
  pub pwm1 : m.pins.pwm1 ≡ 0
  pub pwm2 : m.pins.pwm2 ≡ 0
  pub synch_bits : m.synch.bits ≡ 0
  pub synch_pwm1 : m.synch.pwm1 ≡ 0
  pub synch_pwm2 : m.synch.pwm2 ≡ 0
  pub timer : m.timer ≡ 0
  pub captured_inputs : m.captured.inputs ≡ 0
  pub captured_counter : m.captured.counter ≡ 0

abbrev pub PowersUp : Type 0
PowersUp = AtStart started
