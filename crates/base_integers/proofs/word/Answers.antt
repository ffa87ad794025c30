-- `base_integers::word` meets its contract. Assumes nothing.
use Rattle.std.proofs.Common.{arith}
use Rattle.std.proofs.lemmas.Int.{ints}
use Rattle.base_integers.specs.Whole.{word}
use Rattle.base_integers.proofs.word.Goals as goal

pub returns : goal.returns
unfolding word
returns c = grind (arith, ints)
