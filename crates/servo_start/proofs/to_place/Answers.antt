-- `servo_start::to_place` meets its contract. Assumes nothing.
use Rattle.std.proofs.Common.{rules}
use Rattle.servo_rules.specs.Loads.{to_place}
use Rattle.servo_start.proofs.to_place.Goals as goal

pub returns : goal.returns
unfolding to_place
returns c = search rules
