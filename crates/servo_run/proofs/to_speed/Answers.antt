-- `servo_run::to_speed` meets its contract. Assumes nothing.
use Rattle.std.proofs.Common.{arith}
use Rattle.std.proofs.lemmas.Int.{to_z-of_z}
use Rattle.servo_rules.specs.Loads.{to_speed}
use Rattle.servo_run.proofs.to_speed.Goals as goal

pub returns : goal.returns
unfolding to_speed
returns c = grind (arith, to_z-of_z)
