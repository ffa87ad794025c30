-- `servo_moves::ticks`: every step keeps the profile moving.
use Rattle.servo_moves.specs.Steps.{Moving}
use Rattle.servo_moves.proofs.ticks.Given as goal

abbrev pub invariant-loop : goal.invariant-loop
invariant-loop g l = Moving l.p
