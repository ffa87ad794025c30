-- Which type of the table a type in code is.
use Rattle.types_rules.specs.Table.{ModuleType, servo, inout, stepper}
use Rattle.types_table.specs.declared.ModuleType as Code
use Rattle.types_table.specs.declared.ModuleType.TheVariants.{Servo, Io, Stepper}

-- the case of the code's type
abbrev pub type_meant : Code.ModuleType → ModuleType
type_meant Servo = servo
type_meant Io = inout
type_meant Stepper = stepper
