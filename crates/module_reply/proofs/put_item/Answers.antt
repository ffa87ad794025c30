-- `module_reply::put_item` meets its contract. Assumes nothing.
use Rattle.base_layout.proofs.Laws.{length-le}
use mathlib.Core.Path.{sym}
use Rattle.module_reply.proofs.put_item.Goals as goal

pub returns-then-t : goal.returns-then-t
returns-then-t c = rw c.if-t.true record { value = sym (length-le _ _); room_after = c.put_number.ensures }
