-- `text_export::put_text` meets its contract. The invariant: the text of the records left, put where the loop stands, gives the whole. Assumes nothing.
use Rattle.std.specs.Slice.Iter.{chunks_exact_rest, chunks_exact_size}
use mathlib.Core.Path.{◌≡◌}
use Rattle.text_rules.proofs.Showing.{Showing}
use Rattle.text_export.proofs.put_text.Given as goal

abbrev pub invariant-loop-record : goal.invariant-loop-record
invariant-loop-record l =
    (chunks_exact_size l.record-iterator ≡ 3) × Showing l.records l.initial.room l.column l.at (chunks_exact_rest l.record-iterator) l.room
