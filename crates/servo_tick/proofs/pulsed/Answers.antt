-- `servo_tick::pulsed` meets its contract. Assumes nothing.
use Rattle.std.proofs.Common.{arith}
use Rattle.std.proofs.lemmas.Int.{ints, to_z-of_z}
use Rattle.servo_rules.specs.Tick.{pulsed}
use Rattle.servo_tick.proofs.pulsed.Goals as goal

pub returns : goal.returns
unfolding pulsed
returns c = grind (arith, ints, to_z-of_z)
