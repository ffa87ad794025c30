-- `line_receiver::sum_on` meets its contract: with the bytes not yet passed, the loop's sum gives the whole. Assumes nothing.
use Rattle.std.proofs.Common.{◌≡◌, ◌+◌, ◌%◌, drop}
use Rattle.line_receiver.specs.Receive.{total}
use Rattle.line_receiver.proofs.sum_on.Given as goal

abbrev pub invariant-loop-byte : goal.invariant-loop-byte
invariant-loop-byte l = (l.sum + total (drop l.byte-index l.bytes)) % 256 ≡ (l.start + total l.bytes) % 256
