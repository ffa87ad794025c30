-- `servo_run::is_at_rest` meets its contract. Assumes nothing.
use Rattle.std.proofs.Common.{arith}
use Rattle.std.proofs.lemmas.Int.{ints}
use Rattle.base_integers.specs.Whole.{same}
use Rattle.servo_run.proofs.is_at_rest.Goals as goal

pub returns : goal.returns
unfolding same
returns c = grind (arith, ints)
