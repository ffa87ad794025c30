-- `servo_motion::by_halves` meets its contract: the greatest of the range that is left is the greatest of the whole. What grows less is the
-- number of halvings to come, so a profile in range has at most 27 of them (`at_most_27`). Assumes nothing.
use mathlib.Core.Path.{sym, ◌∙◌}
use native.Mathlib.Omega.{arith}
use borrow.Author.Tests.{le-leb, lt-leb}
use Rattle.servo_motion.proofs.Stopping.{within}
use Rattle.servo_motion.proofs.Search.{greatest_low}
use Rattle.servo_motion.proofs.Halving.{upper, lower, stopping_stays, rounds_less}
use Rattle.servo_motion.proofs.by_halves.Goals as goal

pub loop-low-smaller-then-stopping_sum-d : goal.loop-low-smaller-then-stopping_sum-d
loop-low-smaller-then-stopping_sum-d c = rounds_less 32 _ _ (omega arith) (omega arith) (omega arith)

pub loop-low-preserved-then-stopping_sum-d : goal.loop-low-preserved-then-stopping_sum-d
loop-low-preserved-then-stopping_sum-d c =
    let t = c.before in
    let l = t.loop-low in
    let s = t.args in
    (omega arith, omega arith, l.invariant.2 ∙ upper (within s.a s.d) l.low l.high (omega arith) (le-leb _ s.d (omega (arith, t.stopping_sum.ensures))))

pub loop-low-smaller : goal.loop-low-smaller
loop-low-smaller c = rounds_less 32 _ _ (omega arith) (omega arith) (omega arith)

pub loop-low-preserved : goal.loop-low-preserved
loop-low-preserved c =
    let t = c.before in
    let l = t.loop-low in
    let s = t.args in
    let falls = stopping_stays s.a s.d (omega arith) in
    (omega arith, omega arith, l.invariant.2 ∙ lower (within s.a s.d) l.low l.high (omega arith) falls (lt-leb _ s.d (omega (arith, t.stopping_sum.ensures))))

pub returns : goal.returns
returns c =
    let s = c.args in
    let l = c.loop-low in
    sym (l.invariant.2 ∙ greatest_low (within s.a s.d) l.low l.high (omega arith))
