-- The twelve bits of an I/O module (document 01, "I/O module").
use Rattle.std.specs.Prelude.{ℕ, zero, suc, ◌+◌, ◌*◌, ◌/◌, ◌%◌, cond, ◌∷◌, [], eqb}
use Rattle.base_layout.specs.Bytes.{of_le}

-- twelve bits from two bytes; the upper nibble of the second is ignored
abbrev pub bits_of : ℕ → ℕ → ℕ
bits_of low high = of_le (low ∷ high % 16 ∷ [])

-- n bits, each from x where the direction bit is 1 (input) and from y where it is 0 (output)
unfoldable pub blend : ℕ → ℕ → ℕ → ℕ → ℕ
blend zero direction x y = 0
blend (suc n) direction x y =
    cond (eqb (direction % 2) 1) (x % 2) (y % 2) + 2 * blend n (direction / 2) (x / 2) (y / 2)
