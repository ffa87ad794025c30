-- `net_receiver::is_blank` meets its contract. The invariant: the bytes looked at and those left are blank exactly if all are. Assumes nothing.
use Rattle.std.proofs.Common.{◌≡◌, ◌&&◌, take}
use lib.ListN.{drop}
use Rattle.net_rules.specs.Record.{blank, receiver_size}
use Rattle.net_receiver.proofs.is_blank.Given as goal

abbrev pub invariant-loop-byte : goal.invariant-loop-byte
invariant-loop-byte l = (l.is_blank && blank (drop l.byte-index (take receiver_size l.s))) ≡ blank (take receiver_size l.s)
