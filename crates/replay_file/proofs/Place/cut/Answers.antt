-- `replay_file::Place::cut` meets its contract. Assumes nothing.
use mathlib.Core.Path.{sym}
use Rattle.base_layout.proofs.Pasted.{pasted_none}
use Rattle.replay_file.specs.Turns.{turned_by, text_by, text_after}
use Rattle.replay_file.proofs.Place.cut.Goals as goal

pub returns-then-last : goal.returns-then-last
unfolding turned_by text_by text_after
returns-then-last c = let e = c.bad.ensures in rw c.if-last.true record { value = e.value; out_after = e.out_after }

pub returns : goal.returns
unfolding turned_by text_by
returns c = rw c.if-last.false record { value = c.waits.ensures; out_after = sym (pasted_none 0 _) }
