-- `host_status::needed` meets its contract. The invariant: the bytes counted and those of the items left give the whole. Assumes nothing.
use Rattle.std.proofs.Common.{◌≡◌, ◌+◌, ◌*◌, ◌≤◌, drop}
use Rattle.host_rules.specs.Reading.{chosen_size, needed_for}
use Rattle.host_status.proofs.needed.Given as goal

abbrev pub invariant-loop-size : goal.invariant-loop-size
invariant-loop-size l =
    (l.n ≤ 2 + 255 * l.size-index)
    × (l.n + chosen_size l.left (drop l.size-index l.size-items) ≡ needed_for l.items l.size-items)
