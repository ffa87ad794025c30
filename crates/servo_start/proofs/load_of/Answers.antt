-- `servo_start::load_of` meets its contract. Assumes nothing.
use Rattle.std.proofs.Common.{arith}
use Rattle.servo_rules.specs.Loads.{load_of}
use Rattle.servo_start.proofs.load_of.Goals as goal

pub returns : goal.returns
unfolding load_of
returns c = grind arith
