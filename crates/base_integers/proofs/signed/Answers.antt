-- `base_integers::signed` meets its contract. Assumes nothing.
use Rattle.std.proofs.Common.{arith}
use Rattle.std.proofs.lemmas.Int.{ints}
use Rattle.base_integers.specs.Whole.{signed}
use Rattle.base_integers.proofs.signed.Goals as goal

pub returns : goal.returns
unfolding signed
returns c = grind (arith, ints)
