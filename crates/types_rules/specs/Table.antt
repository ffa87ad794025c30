-- The module types that a chain can have: a line each in every table of this file, and no other file of the rules names one of them for the chain
-- or the record.
use Rattle.std.specs.Prelude.{ℕ, List, [], ◌∷◌}
use Rattle.std.proofs.Math.Option.{Option, some, none}
use Rattle.module_rules.specs.Rules.{Rules}
use Rattle.base_layout.proofs.Shape.{Shape}
use Rattle.module_rules.specs.Slots.{Slots}
use Rattle.inout_rules.specs.declared.Io.{Io}
use Rattle.inout_rules.specs.declared.Sample as InoutSample
use Rattle.inout_rules.specs.declared.Command.{Command}
use Rattle.inout_rules.specs.Answers as Inout
use Rattle.inout_slot_rules.specs.Slot as InoutSlot
use Rattle.inout_slot_rules.specs.Promises as InoutPromises
use Rattle.servo_rules.specs.declared.Servo.{Servo}
use Rattle.servo_rules.specs.declared.Sample as ServoSample
use Rattle.servo_rules.specs.declared.Order as ServoOrder
use Rattle.servo_rules.specs.Answers as Servos
use Rattle.servo_slot_rules.specs.Slot as ServoSlot
use Rattle.servo_slot_rules.specs.Promises as ServoPromises
use Rattle.stepper_rules.specs.declared.Stepper.{Stepper}
use Rattle.stepper_rules.specs.declared.Sample as StepperSample
use Rattle.stepper_rules.specs.declared.Order as StepperOrder
use Rattle.stepper_rules.specs.Answers as Steppers
use Rattle.stepper_slot_rules.specs.Slot as StepperSlot
use Rattle.stepper_slot_rules.specs.Promises as StepperPromises
use Rattle.types_rules.specs.declared.Measured.{Measured}

pub data ModuleType : Type 0 where
  servo : ModuleType
  inout : ModuleType
  stepper : ModuleType

-- all of them: one, and the others
abbrev pub first_type : ModuleType
first_type = servo

abbrev pub other_types : List ModuleType
other_types = inout ∷ stepper ∷ []

-- a type's record, its samples, its own commands
abbrev pub Of : ModuleType → Type 0
Of servo = Servo
Of inout = Io
Of stepper = Stepper

abbrev pub SampleOf : ModuleType → Type 0
SampleOf servo = ServoSample.Sample
SampleOf inout = InoutSample.Sample
SampleOf stepper = StepperSample.Sample

abbrev pub CommandOf : ModuleType → Type 0
CommandOf servo = ServoOrder.Order
CommandOf inout = Command
CommandOf stepper = StepperOrder.Order

-- what it says of itself, how it stands in a slot, and how its samples stand in a tick's list
abbrev pub rules_of : (t : ModuleType) → Rules (Of t) (SampleOf t) (CommandOf t)
rules_of servo = Servos.servo
rules_of inout = Inout.inout
rules_of stepper = Steppers.stepper

abbrev pub slots_of : (t : ModuleType) → Slots (Of t)
slots_of servo = ServoSlot.slots
slots_of inout = InoutSlot.slots
slots_of stepper = StepperSlot.slots

abbrev pub sample_of : (t : ModuleType) → Shape (SampleOf t)
sample_of servo = ServoSlot.sample
sample_of inout = InoutSlot.sample
sample_of stepper = StepperSlot.sample

-- the written list that a valid slot of the type satisfies, line by line
abbrev pub LinesOf : ModuleType → List ℕ → Type 0
LinesOf servo s = ServoPromises.Lines s (ServoSlot.decode_of s)
LinesOf inout s = InoutPromises.Lines s
LinesOf stepper s = StepperPromises.Lines s

-- a sample of any type as one of type t, if that is its type
abbrev pub own_of : (t : ModuleType) → (u : ModuleType) × SampleOf u → Option (SampleOf t)
own_of servo (servo, x) = some x
own_of servo (inout, x) = none
own_of servo (stepper, x) = none
own_of inout (servo, x) = none
own_of inout (inout, x) = some x
own_of inout (stepper, x) = none
own_of stepper (servo, x) = none
own_of stepper (inout, x) = none
own_of stepper (stepper, x) = some x

-- the case of the code's sample
abbrev pub measured : Measured → (t : ModuleType) × SampleOf t
measured (Measured.Servo x) = (servo, x)
measured (Measured.Io x) = (inout, x)
measured (Measured.Stepper x) = (stepper, x)
