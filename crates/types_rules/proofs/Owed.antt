-- What every type of the table owes, and that its valid slots are those of its written list. Assumes nothing.
use mathlib.Core.Path.{◌≡◌}
use mathlib.Core.List.{List}
use mathlib.Core.Bool.{true}
use mathlib.Core.Logic.{◌↔◌}
use Prim.Native.Nat.{ℕ}
use Rattle.base_layout.specs.Bytes.{Bytes}
use Rattle.module_rules.specs.Owes.{Owes}
use Rattle.inout_slot_rules.proofs.Owed as Inout
use Rattle.inout_slot_rules.proofs.Listed as InoutListed
use Rattle.servo_slot_rules.proofs.Owed as Servos
use Rattle.servo_slot_rules.proofs.Listed as ServoListed
use Rattle.stepper_slot_rules.proofs.Owed as Steppers
use Rattle.stepper_slot_rules.proofs.Listed as StepperListed
use Rattle.types_rules.specs.Types.{GoodOf}
use Rattle.types_rules.specs.Table.{ModuleType, servo, inout, stepper, rules_of, slots_of, LinesOf}

pub owes : (t : ModuleType) → Owes (rules_of t) (slots_of t) (GoodOf t)
owes servo = Servos.owes
owes inout = Inout.owes
owes stepper = Steppers.owes

pub listed : (t : ModuleType) (s : List ℕ) → Bytes s → ((slots_of t).ok s ≡ true) ↔ LinesOf t s
listed servo = ServoListed.listed
listed inout = InoutListed.listed
listed stepper = StepperListed.listed
