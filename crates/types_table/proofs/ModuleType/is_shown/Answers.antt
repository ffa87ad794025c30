-- `types_table::ModuleType::is_shown` meets its contract. Assumes nothing.
use Rattle.types_table.proofs.ModuleType.is_shown.Goals as goal

pub returns-in-Servo : goal.returns-in-Servo
returns-in-Servo c = rw c.in-Servo.is

pub returns-in-Io : goal.returns-in-Io
returns-in-Io c = rw c.in-Io.is

pub returns-in-Stepper : goal.returns-in-Stepper
returns-in-Stepper c = rw c.in-Stepper.is c.is_shown.ensures
