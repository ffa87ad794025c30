-- The 32 bits of a whole number, and the number that 32 bits stand for: each gives the other back. Assumes nothing.
use Rattle.std.proofs.Common.{◌≡◌, ℕ, ◌^◌, ◌<◌, ℤ, nat_abs, arith}
use Rattle.std.proofs.lemmas.Int.{ints}
use Rattle.base_integers.specs.Whole.{signed, word}

pub word_lt : (z : ℤ) → word z < 2 ^ 32
unfolding word
word_lt z = grind (arith, ints)

pub word-signed : (n : ℕ) → n < 2 ^ 32 → word (signed n) ≡ n
unfolding word signed
word-signed n h = grind (arith, ints)

pub signed_word : (z : ℤ) → nat_abs z < 2 ^ 31 → signed (word z) ≡ z
unfolding word signed
signed_word z h = grind (arith, ints)
