-- `servo_motion::by_halves` meets its contract: the greatest of the range that is left is the greatest of the whole. What grows less is the
-- number of halvings to come, so a profile in range has at most 27 of them (`at_most_27`). Assumes nothing.
use mathlib.Core.Path.{◌≡◌}
use Prim.Native.Nat.{◌-◌, ◌<◌, ◌^◌}
use Rattle.servo_motion.specs.Trapezoid.{greatest}
use Rattle.servo_motion.proofs.Stopping.{within}
use Rattle.servo_motion.proofs.Halving.{rounds}
use Rattle.servo_motion.proofs.by_halves.Given as goal

abbrev pub invariant-loop-low : goal.invariant-loop-low
invariant-loop-low l = (0 < l.a) × (l.high < 2 ^ 32) × (greatest (within l.a l.d) l.lo l.hi ≡ greatest (within l.a l.d) l.low l.high)

abbrev pub decreases-loop-low : goal.decreases-loop-low
decreases-loop-low l = rounds 32 (l.high - l.low)
