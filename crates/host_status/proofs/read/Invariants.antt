-- `host_status::read` meets its contract. The invariant: the numbers read and those that the bytes left hold give the whole. Assumes nothing.
use Rattle.std.proofs.Common.{◌≡◌, ◌+◌, ◌++◌, length, take, drop}
use Rattle.host_rules.specs.Reading.{chosen_size, numbers_in}
use Rattle.host_status.proofs.read.Given as goal

abbrev pub invariant-loop-i : goal.invariant-loop-i
invariant-loop-i l =
    (length l.number-items ≡ 8)
    × (length l.reply ≡ 1 + l.at + chosen_size l.left (drop l.i l.sizes))
    × (take l.i l.number-items ++ numbers_in l.left (drop l.i l.sizes) (drop l.at l.reply) ≡ numbers_in l.items l.sizes (drop 1 l.reply))
