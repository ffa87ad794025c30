-- `servo_start::signed_by` meets its contract. Assumes nothing.
use Rattle.std.proofs.Common.{arith}
use Rattle.std.proofs.lemmas.Int.{ints}
use Rattle.servo_rules.specs.Loads.{signed_by}
use Rattle.servo_start.proofs.signed_by.Goals as goal

pub returns-then-reverse : goal.returns-then-reverse
unfolding signed_by
returns-then-reverse c = grind (arith, ints)

pub returns-else-reverse : goal.returns-else-reverse
unfolding signed_by
returns-else-reverse c = grind (arith, ints)
