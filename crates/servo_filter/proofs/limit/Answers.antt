-- `servo_filter::limit` meets its contract: less is left of a number above its limit, more of one below. Assumes nothing.
use Rattle.std.proofs.Common.{arith}
use Rattle.std.proofs.lemmas.Int.{to_z-of_z}
use Rattle.servo_filter.proofs.Limiting.{limited_by_tests}
use Rattle.servo_filter.proofs.limit.Goals as goal

pub returns-then-output-z : goal.returns-then-output-z
returns-then-output-z c = let l = limited_by_tests c.args.ol c.args.z in grind (arith, to_z-of_z)

pub returns-then-z-output : goal.returns-then-z-output
returns-then-z-output c = let l = limited_by_tests c.args.ol c.args.z in grind (arith, to_z-of_z)

pub returns : goal.returns
returns c = let l = limited_by_tests c.args.ol c.args.z in grind (arith, to_z-of_z)
