-- `module_reply::put_items` meets its contract. The invariant: the items left, put where the loop is, give the whole. Assumes nothing.
use Rattle.std.proofs.Common.{◌≡◌, ◌+◌, ◌≤◌, length, ℕ, List}
use Rattle.std.specs.Iterator.Adapters.{zip_first, zip_second}
use Rattle.std.specs.Slice.Iter.{iter_rest}
use Rattle.base_layout.specs.Bytes.{pasted}
use Rattle.line_receiver.specs.Receive.{total}
use Rattle.module_rules.specs.Report.{chosen}
use Rattle.module_reply.proofs.put_items.Given as goal

abbrev sizes_left : goal.Live-loop-size → List ℕ
sizes_left l = iter_rest (zip_first l.size-iterator)

abbrev numbers_left : goal.Live-loop-size → List ℕ
numbers_left l = iter_rest (zip_second l.size-iterator)

abbrev pub invariant-loop-size : goal.invariant-loop-size
invariant-loop-size l =
    (length l.room ≡ length l.initial.room)
    × (l.at + total (sizes_left l) ≤ length l.initial.room)
    × (pasted l.at (chosen l.left (sizes_left l) (numbers_left l)) l.room ≡ pasted l.from (chosen l.items l.fn.sizes l.fn.numbers) l.initial.room)
    × (l.at + length (chosen l.left (sizes_left l) (numbers_left l)) ≡ l.from + length (chosen l.items l.fn.sizes l.fn.numbers))
