-- `servo_start::is_complete` meets its contract. Assumes nothing.
use Rattle.std.proofs.Common.{arith}
use Rattle.servo_rules.specs.Loads.{complete}
use Rattle.servo_start.proofs.is_complete.Goals as goal

pub returns-in-Pulse : goal.returns-in-Pulse
unfolding complete
returns-in-Pulse c = grind arith

pub returns-in-Speed : goal.returns-in-Speed
unfolding complete
returns-in-Speed c = grind arith

pub returns-in-Move : goal.returns-in-Move
unfolding complete
returns-in-Move c = grind arith
