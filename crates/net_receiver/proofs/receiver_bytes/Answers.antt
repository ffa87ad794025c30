-- `net_receiver::receiver_bytes` meets its contract. Assumes nothing.
use Rattle.net_rules.specs.Record.{receiver_bytes}
use borrow.Author.Rules.{rules}
use Rattle.net_receiver.proofs.receiver_bytes.Goals as goal

pub returns : goal.returns
unfolding receiver_bytes
returns c = search rules
