-- Numbers as bytes, least significant first (document 01, "Who is touched", last sentence), and bytes put into a list.
use Rattle.std.specs.Prelude.{ℕ, zero, suc, ◌+◌, ◌*◌, ◌/◌, ◌%◌, ◌<◌, List, [], ◌∷◌, get_or, length}
use Rattle.std.proofs.Math.Seq.{paste}

-- the k bytes of x
abbrev pub le : ℕ → ℕ → List ℕ
le zero x = []
le (suc k) x = x % 256 ∷ le k (x / 256)

-- the number that bytes spell
abbrev pub of_le : List ℕ → ℕ
of_le [] = 0
of_le (b ∷ bs) = b + 256 * of_le bs

-- the k bytes of s from place at
abbrev pub read_at : ℕ → ℕ → List ℕ → List ℕ
read_at zero at s = []
read_at (suc k) at s = get_or s at 0 ∷ read_at k (at + 1) s

-- s with all of xs put over what stood from place at on
abbrev pub pasted : ℕ → List ℕ → List ℕ → List ℕ
pasted at xs s = paste s at xs (length xs)

-- every element is a byte
abbrev pub Bytes : List ℕ → Type 0
Bytes bs = (i : ℕ) → get_or bs i 0 < 256
