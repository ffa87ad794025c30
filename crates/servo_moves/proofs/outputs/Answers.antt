-- `servo_moves::outputs` meets its contract: an output is within OL, and every answer keeps the memory in range. Assumes nothing.
use Rattle.std.proofs.Common.{◌<◌, arith}
use Rattle.std.proofs.Math.Nat.{lt_of_le_of_lt}
use Rattle.servo_filter.proofs.Answers.{within, keeps}
use Rattle.servo_moves.proofs.outputs.Goals as goal

pub answered-m-requires : goal.answered-m-requires
answered-m-requires g c =
    let small : c.args.g.ol < 256 = omega arith in
    rw c.filter.ensures (lt_of_le_of_lt (within c.args.g c.loop-position.m _) small)

pub loop-position-preserved : goal.loop-position-preserved
loop-position-preserved g c =
    rw (c.answered-m.ensures, c.filter.ensures) (keeps c.args.g c.loop-position.m _ c.requires.gains_ranged c.loop-position.invariant)
