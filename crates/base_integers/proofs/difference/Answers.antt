-- `base_integers::difference` meets its contract. Assumes nothing.
use Rattle.std.proofs.Common.{rules}
use Rattle.base_integers.specs.Whole.{difference}
use Rattle.base_integers.proofs.difference.Goals as goal

pub returns : goal.returns
unfolding difference
returns c = search rules
