-- `text_export::measure` meets its contract. The invariant: the records left give what all of them do. Assumes nothing.
use Rattle.std.specs.Slice.Iter.{chunks_exact_rest, chunks_exact_size}
use mathlib.Core.Path.{◌≡◌}
use Rattle.text_rules.proofs.Records.{Along}
use Rattle.text_export.proofs.measure.Given as goal

abbrev pub invariant-loop-record : goal.invariant-loop-record
invariant-loop-record l = (chunks_exact_size l.record-iterator ≡ 3) × Along l.records (chunks_exact_rest l.record-iterator) l.marks
