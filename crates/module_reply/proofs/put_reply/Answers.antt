-- `module_reply::put_reply` meets its contract. Assumes nothing.
use Rattle.module_rules.specs.Report.{reply_of}
use Rattle.base_layout.proofs.Pasted.{pasted_none}
use mathlib.Core.Path.{refl, sym}
use Rattle.module_reply.proofs.put_reply.Goals as goal

pub returns-then-f-s : goal.returns-then-f-s
unfolding reply_of
returns-then-f-s c = rw c.if-f-s.true record { value = refl; room_after = sym (pasted_none c.args.from c.args.room.now) }

pub returns : goal.returns
unfolding reply_of
returns c = rw (c.if-f-s.false, ← c.items_for.ensures) c.put_report.ensures
