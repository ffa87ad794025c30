-- Bits of a number.
use Rattle.std.specs.Prelude.{ℕ, ◌/◌, ◌%◌, ◌^◌, Bool, ◌==◌}

-- bit k, the lowest being bit 0
abbrev pub bit : ℕ → ℕ → ℕ
bit k x = x / 2 ^ k % 2

-- whether it is set
abbrev pub is_set : ℕ → ℕ → Bool
is_set k b = bit k b == 1
