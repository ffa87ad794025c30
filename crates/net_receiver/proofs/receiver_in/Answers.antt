-- `net_receiver::receiver_in` meets its contract. Assumes nothing.
use Rattle.net_rules.specs.Record.{receiver_in}
use borrow.Author.Rules.{rules}
use Rattle.net_receiver.proofs.receiver_in.Goals as goal

pub returns : goal.returns
unfolding receiver_in
returns c = search rules
