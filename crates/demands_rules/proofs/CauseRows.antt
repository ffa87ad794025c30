-- The rows of causes, computed. Assumes nothing.
use mathlib.Core.Path.{refl}
use lib.Count.{ones}
use Rattle.base_integers.specs.Whole.{same}
use Rattle.module_rules.specs.Commands.{asked}
use Rattle.module_rules.specs.Rules.{request, execute}
use Rattle.inout_rules.specs.Asks as Inout
use Rattle.stepper_rules.specs.Carried as Stepped
use Rattle.stepper_rules.specs.Asks as Stepper
use Rattle.stepper_rules.specs.Perform as Steps
use Rattle.servo_rules.specs.Carried.{carried_in, in_range}
use Rattle.servo_rules.specs.Asks.{load_meant, gains_in, gains_fit, gain_meant, halt_of, stop_meant, own}
use Rattle.servo_rules.specs.Homing.{good_byte}
use Rattle.servo_rules.specs.Loads.{way_of, load_of, rates_of, loaded, movable, complete, startable}
use Rattle.demands_rules.specs.Causes.{CauseRows}

pub cause_rows : CauseRows
unfolding same asked request execute Inout.own ones carried_in in_range load_meant gains_in gains_fit gain_meant halt_of stop_meant good_byte own way_of load_of rates_of loaded movable complete startable Stepped.carried_in Stepped.in_range Stepper.load_meant Stepper.parameters_meant Stepper.stop_meant Stepper.own Steps.load_of Steps.storing Steps.loaded Steps.startable
cause_rows = record { whole = refl; damaged = refl }
