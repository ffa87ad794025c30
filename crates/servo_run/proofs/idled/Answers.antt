-- `servo_run::idled` meets its contract. Assumes nothing.
use Rattle.std.proofs.Common.{arith}
use Rattle.std.proofs.lemmas.Int.{to_z-of_z}
use Rattle.servo_rules.specs.State.{idled}
use Rattle.servo_run.proofs.idled.Goals as goal

pub returns : goal.returns
unfolding idled
returns c = grind (arith, to_z-of_z)
