-- `servo_moves::walk`: every row keeps the profile moving.
use Rattle.servo_moves.specs.Steps.{Moving}
use Rattle.servo_moves.proofs.walk.Given as goal

abbrev pub invariant-loop : goal.invariant-loop
invariant-loop g l = Moving l.p
