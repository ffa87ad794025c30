-- An integral through calls whose ticks are all cut; and a carriage against a block, computed. Assumes nothing.
use mathlib.Core.Path.{◌≡◌, refl}
use lib.Count.{ones}
use Rattle.base_integers.specs.Whole.{signed, difference, same as same_number}
use Rattle.line_receiver.specs.Receive.{taken}
use Rattle.module_rules.specs.Commands.{asked}
use Rattle.module_rules.specs.Report.{report, reply_of}
use Rattle.module_rules.specs.Rules.{request, execute, reply}
use Rattle.chain_rules.specs.Chain.{byte_step}
use Rattle.servo_filter.specs.Filter.{held, drive, limited, filtered}
use Rattle.servo_rules.specs.Carried.{carried_in, in_range}
use Rattle.servo_rules.specs.Asks.{load_meant, gains_in, gains_fit, gain_meant, halt_of, stop_meant, own}
use Rattle.servo_rules.specs.State.{idled, off}
use Rattle.servo_rules.specs.Loads.{way_of, load_of, loaded, complete, startable, signed_by, start}
use Rattle.servo_rules.specs.Stops.{holding}
use Rattle.servo_rules.specs.Perform.{shifted, reset_position, stopped}
use Rattle.servo_rules.specs.Homing.{changed, homed}
use Rattle.servo_rules.specs.Tick.{advanced, put_out, servoed, pulsed, by_power, ticked, met}
use Rattle.servo_rules.specs.Answers.{done, status_of, numbers_of, outputs_from}
use Rattle.types_rules.specs.Table.{servo}
use Rattle.demands_rules.specs.Winding.{WindsUpNoMore, Blocked, Clears, Lowered}
use Rattle.demands_rules.proofs.Placing.{carried_on}
use Rattle.demands_rules.proofs.CutTicks.{goes}

pub winds_up_no_more : WindsUpNoMore
winds_up_no_more net cs i m k v h e q cut kept =
    carried_on servo net cs i (λ n k. k.run.memory.integral ≡ m.run.memory.integral) v h (goes net cs i cut kept m.run.memory.integral) m e refl k q

-- ---- computed

pub blocked : Blocked
unfolding taken byte_step asked request execute report reply reply_of ones gains_in gains_fit gain_meant halt_of stop_meant own holding stopped difference signed held drive limited filtered put_out advanced servoed by_power ticked done status_of numbers_of outputs_from met homed changed
blocked = (refl, (refl, (refl, (refl, (refl, (refl, (refl, (refl, (refl, (refl, (refl, (refl, (refl, tt)))))))))))))

pub clears : Clears
unfolding taken byte_step asked request execute report reply reply_of ones carried_in in_range load_meant gains_in gains_fit gain_meant halt_of stop_meant own idled off way_of load_of loaded complete startable signed_by start shifted reset_position holding stopped same_number difference signed held drive limited filtered put_out advanced servoed pulsed by_power ticked done status_of numbers_of outputs_from met homed changed
clears = (refl, (refl, (refl, (refl, (refl, (refl, (refl, (refl, tt))))))))

pub lowered : Lowered
unfolding taken byte_step asked request execute report reply reply_of ones gains_in gains_fit gain_meant halt_of stop_meant own holding stopped difference signed held drive limited filtered put_out advanced servoed by_power ticked done status_of numbers_of outputs_from met homed changed
lowered = (refl, (refl, (refl, (refl, tt))))
