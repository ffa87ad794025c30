-- `net_record::is_all_marks` meets its contract. The invariant: the marks looked at and those left are good exactly if all are. Assumes nothing.
use mathlib.Core.Path.{◌≡◌}
use mathlib.Core.Bool.{◌&&◌}
use lib.ListN.{drop}
use Rattle.net_rules.specs.Calls.{all_marks}
use Rattle.net_record.proofs.is_all_marks.Given as goal

abbrev pub invariant-loop-mark : goal.invariant-loop-mark
invariant-loop-mark l = (l.good && all_marks (drop l.mark-index l.marks)) ≡ all_marks l.marks
