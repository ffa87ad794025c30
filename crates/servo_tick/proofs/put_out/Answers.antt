-- `servo_tick::put_out` meets its contract. Assumes nothing.
use Rattle.std.proofs.Common.{arith}
use Rattle.std.proofs.lemmas.Int.{to_z-of_z}
use Rattle.servo_rules.specs.Tick.{put_out}
use Rattle.servo_tick.proofs.put_out.Goals as goal

pub returns-then-power-eq1 : goal.returns-then-power-eq1
unfolding put_out
returns-then-power-eq1 c = grind (arith, to_z-of_z)

pub returns-else-power-eq1 : goal.returns-else-power-eq1
unfolding put_out
returns-else-power-eq1 c = grind arith
