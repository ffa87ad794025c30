-- `servo_start::rates_of` meets its contract. Assumes nothing.
use Rattle.std.proofs.Common.{arith}
use Rattle.servo_rules.specs.Loads.{rates_of}
use Rattle.servo_start.proofs.rates_of.Goals as goal

pub returns : goal.returns
unfolding rates_of
returns c = grind arith
