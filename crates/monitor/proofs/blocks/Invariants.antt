-- `monitor::blocks`: what goes into the next block is ready for it, and each block before it had 65,536 bytes at most.
use Rattle.std.proofs.Common.{◌*◌, ◌≤◌}
use Rattle.monitor.proofs.blocks.Given as goal

abbrev pub invariant-loop : goal.invariant-loop
invariant-loop g l = g.C.Conversion.ready l.state × (g.C.Conversion.offset l.state ≤ 65536 * l.counter)
