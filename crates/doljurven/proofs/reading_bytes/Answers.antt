-- `doljurven::reading_bytes` meets its contract. Assumes nothing.
use Rattle.api_rules.specs.Calls.{reading_bytes}
use Rattle.doljurven.proofs.reading_bytes.Goals as goal

pub returns : goal.returns
unfolding reading_bytes
returns c = rw c.put_numbers.ensures
