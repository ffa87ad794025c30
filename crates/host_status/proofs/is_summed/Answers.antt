-- `host_status::is_summed` meets its contract. Assumes nothing.
use native.Mathlib.Nat.{zero-add}
use Rattle.host_rules.specs.Reading.{summed}
use Rattle.host_status.proofs.is_summed.Goals as goal

pub returns : goal.returns
unfolding summed
returns c = rw (c.sum_on.ensures, zero-add)
