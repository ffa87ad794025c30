-- What a step-motor module tells the host and the board (document 02, P3), and the type as a whole.
use Rattle.std.specs.Prelude.{ℕ, ◌+◌, ◌/◌, ◌%◌, List, [], ◌∷◌, Bool, ◌&&◌, eqb}
use Rattle.base_layout.specs.Codec.{bit}
use Rattle.line_receiver.specs.Frames.{Frame}
use Rattle.module_rules.specs.Report.{cause_bit}
use Rattle.module_rules.specs.Rules as AnyType
use Rattle.stepper_rules.specs.declared.Sample.{Sample}
use Rattle.stepper_rules.specs.declared.Stepper.{Stepper}
use Rattle.stepper_rules.specs.declared.Order.{Order}
use Rattle.stepper_rules.specs.Asks.{own}
use Rattle.stepper_rules.specs.State.{started, is_moving, with_station}
use Rattle.stepper_rules.specs.Ramp.{ticked}
use Rattle.stepper_rules.specs.Perform.{can, perform}

-- its type's number, and the version above it
abbrev pub type_number : ℕ
type_number = 3

abbrev pub type_and_version : ℕ
type_and_version = 259

-- status: bit 0 moving, bit 1 the cause's, no other
abbrev pub status : Stepper → ℕ
status m = bit (is_moving m.motion) + cause_bit m.station.cause

-- items 0 and 5: the position, and type and version; there is no other
abbrev pub numbers : Stepper → List ℕ
numbers m = m.position ∷ 0 ∷ 0 ∷ 0 ∷ 0 ∷ type_and_version ∷ 0 ∷ 0 ∷ []

abbrev pub sizes : List ℕ
sizes = 4 ∷ 0 ∷ 0 ∷ 0 ∷ 0 ∷ 2 ∷ 0 ∷ 0 ∷ []

-- an item byte has no bit but 0 and 5
abbrev pub shows : ℕ → Bool
shows b = eqb (b / 2 % 16) 0 && eqb (b / 64) 0

-- what the board drives: the speed's size, 1 if backward, the amplifier bit; five bytes of 0
abbrev pub outputs_of : Stepper → List ℕ
outputs_of m = m.motion.speed ∷ bit m.motion.backward ∷ bit m.settings.amplifier ∷ 0 ∷ 0 ∷ 0 ∷ 0 ∷ 0 ∷ []

-- the step-motor module as a module type
abbrev pub stepper : AnyType.Rules Stepper Sample Order
stepper = record {
  number = type_number;
  station = λ m. m.station;
  with_station = with_station;
  started = started;
  renewed = λ m. started;
  own = own;
  can = can;
  perform = perform;
  tick = ticked;
  shows = shows;
  status = status;
  sizes = sizes;
  numbers = numbers;
  outputs = outputs_of;
}

-- what follows for it as for every type
abbrev pub request : Frame → Bool → AnyType.Request Order
request = AnyType.request stepper

abbrev pub with_cause : ℕ → Stepper → Stepper
with_cause = AnyType.with_cause stepper

abbrev pub execute : Frame → Bool → Stepper → Stepper
execute = AnyType.execute stepper

abbrev pub reply : Frame → Stepper → List ℕ
reply = AnyType.reply stepper
