-- `net_record::is_all_marks` meets its contract. The invariant: the marks looked at and those left are good exactly if all are. Assumes nothing.
use native.Mathlib.Omega.{arith}
use Rattle.net_rules.proofs.Tests.{marks_turn, marks_over}
use Rattle.net_record.proofs.is_all_marks.Goals as goal

pub loop-mark-preserved : goal.loop-mark-preserved
loop-mark-preserved c =
    let l = c.loop-mark in
    marks_turn c.args.marks.now l.mark-index l.good (omega arith) l.invariant

pub returns : goal.returns
returns c = let l = c.loop-mark in marks_over c.args.marks.now l.mark-index l.good (omega arith) l.invariant
