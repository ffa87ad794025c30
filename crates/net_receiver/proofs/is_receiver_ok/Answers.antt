-- `net_receiver::is_receiver_ok` meets its contract: an idle receiver is blank, another has no more bytes in than announced. Assumes nothing.
use Rattle.net_rules.proofs.Tests.{idle_test}
use Rattle.net_rules.specs.Record.{ok_receiver}
use borrow.Author.Tests.{ne_eqb}
use Rattle.net_receiver.proofs.is_receiver_ok.Goals as goal

pub returns-then-s-eq0 : goal.returns-then-s-eq0
returns-then-s-eq0 c = idle_test c.args.s.now c.if-s-eq0.true c.is_blank.ensures

pub returns : goal.returns
unfolding ok_receiver
returns c = rw (ne_eqb _ _ c.if-s-eq0.false)
