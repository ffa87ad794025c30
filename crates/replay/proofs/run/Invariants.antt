-- `replay::run`: the slices hold a replay, and each turn before this one took 11 bytes at most.
use Rattle.std.proofs.Common.{◌*◌, ◌≤◌, length}
use Rattle.replay_file.specs.Turns.{Held}
use Rattle.replay.proofs.run.Given as goal

abbrev pub invariant-loop : goal.invariant-loop
invariant-loop g l = Held l.s.at l.types l.samples l.net × (l.s.at.offset ≤ 11 * l.counter) × (l.s.start ≤ l.s.end) × (l.s.end ≤ length l.buf)
