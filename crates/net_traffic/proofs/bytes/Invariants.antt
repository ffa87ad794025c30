-- `net_traffic::bytes` meets its contract. The invariant: the bytes still to be taken give the whole. Assumes nothing.
use lib.ListN.{length, drop}
use Rattle.chain_rules.specs.Chain.{taking}
use Rattle.types_rules.specs.Types.{kind, slots}
use Rattle.net_rules.specs.Record.{net_in}
use Rattle.net_rules.specs.Calls.{bytes_of}
use Rattle.net_rules.proofs.Buffer.{Midway}
use Rattle.net_traffic.proofs.bytes.Given as goal

abbrev pub invariant-loop-value : goal.invariant-loop-value
invariant-loop-value l =
    Midway (taking kind (bytes_of l.values l.marks) (net_in slots l.initial.net)) l.initial.net l.initial.room (bytes_of (drop (length l.yielded) l.values) (drop (length l.yielded) l.marks)) l.r l.net l.room l.written
