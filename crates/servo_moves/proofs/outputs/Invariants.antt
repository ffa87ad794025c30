-- `servo_moves::outputs`: every answer keeps the memory in range.
use Rattle.servo_filter.specs.Filter.{Kept}
use Rattle.servo_moves.proofs.outputs.Given as goal

abbrev pub invariant-loop-position : goal.invariant-loop-position
invariant-loop-position g l = Kept l.m
