-- The host's reader of replies: which bytes a reply must have, and what they say.
use Rattle.std.specs.Prelude.{ℕ, ◌+◌, ◌-◌, ◌/◌, ◌%◌, List, [], ◌∷◌, Bool, cond, not, ◌&&◌, length, get_or, take, drop, replicate, eqb, Result, Ok, Err}
use Rattle.base_layout.specs.Bytes.{of_le}
use Rattle.line_receiver.specs.Receive.{total}
use Rattle.types_rules.specs.Types.{known, sizes_of, shows_of}
use Rattle.host_rules.specs.declared.Reading.{Reading}
use Rattle.host_rules.specs.declared.Refusal.{Refusal}
use Rattle.host_rules.specs.Refusals.{number_of}

-- 01 Numbers given back: what the status reader gives back, its number, and what it read.
pub record Answered : Type 0 where
  pub number : ℕ
  pub reading : Reading

-- 01 Commands of both types: an item of k bytes takes none of them if its bit, the lowest, is clear.
abbrev pub one_size : ℕ → ℕ → ℕ
one_size b k = cond (eqb (b % 2) 1) k 0

-- 01 Commands of both types: how many bytes the chosen items have together, bit 0 of the item byte being for the first size.
abbrev pub chosen_size : ℕ → List ℕ → ℕ
chosen_size b [] = 0
chosen_size b (k ∷ ks) = one_size b k + chosen_size (b / 2) ks

-- 01 Commands of both types: how many bytes a reply with these items has, the status byte and the sum included.
abbrev pub needed_for : ℕ → List ℕ → ℕ
needed_for b ks = 2 + chosen_size b ks

-- 01 Numbers given back, 18, 02 P3: the type has these items, and the reply's length is what type and items require.
abbrev pub suits : ℕ → ℕ → List ℕ → Bool
suits kind items bs = shows_of kind items && eqb (length bs) (needed_for items (sizes_of kind))

-- 01 Commands of both types: the last byte is the 8-bit sum of all bytes before it.
unfoldable pub summed : List ℕ → Bool
summed bs = eqb (get_or bs (length bs - 1) 0) (total (take (length bs - 1) bs) % 256)

-- 01 Numbers given back, last paragraph: the items' numbers in bit order, a chosen one taken from the bytes, the others 0.
abbrev pub numbers_in : ℕ → List ℕ → List ℕ → List ℕ
numbers_in b [] bs = []
numbers_in b (k ∷ ks) bs =
    cond (eqb (b % 2) 1) (of_le (take k bs) ∷ numbers_in (b / 2) ks (drop k bs)) (0 ∷ numbers_in (b / 2) ks bs)

-- 01 Numbers given back, last paragraph: the status byte stands first, the chosen items after it.
unfoldable pub reading_of : ℕ → List ℕ → List ℕ → Reading
reading_of b ks bs = record { status = get_or bs 0 0; numbers = numbers_in b ks (drop 1 bs) }

-- 01 Numbers given back: refused, all of the reading is 0.
abbrev pub refusal : ℕ → Answered
refusal n = record { number = n; reading = record { status = 0; numbers = replicate 8 0 } }

-- 01 Numbers given back: a reply that was read, or why not, as what is given back.
abbrev pub answered : Result Reading Refusal → Answered
answered (Ok r) = record { number = 0; reading = r }
answered (Err r) = refusal (number_of r)

-- 01 Numbers given back: what the status reader gives back, by the first refusal that applies.
unfoldable pub status_of : ℕ → ℕ → List ℕ → Answered
status_of kind items bs =
    cond (not (known kind)) (refusal 12)
    (cond (not (suits kind items bs)) (refusal 18)
    (cond (not (summed bs)) (refusal 19)
    (record { number = 0; reading = reading_of items (sizes_of kind) bs })))
