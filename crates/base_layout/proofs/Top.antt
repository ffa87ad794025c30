-- A number read from its top byte down. Assumes nothing.
use mathlib.Core.Path.{◌≡◌}
use mathlib.Core.List.{List}
use Prim.Native.Nat.{ℕ, zero, suc, ◌+◌, ◌*◌, ◌^◌, ◌<◌}
use native.Mathlib.Nat.{pow-suc}
use native.Mathlib.Omega.{arith}
use lib.ListN.{length, get_or, take, drop}
use lib.Seq.{drop-cons}
use Rattle.base_layout.specs.Bytes.{of_le}

-- the bytes from a place on are the byte there and those after it
pub top_turn : (s : List ℕ) (i n m j : ℕ) → i < length s → m ≡ suc n → j ≡ suc i
    → of_le (take m (drop i s)) ≡ get_or s i 0 + 256 * of_le (take n (drop j s))
top_turn s i n m j h p q = rw (p, q, drop-cons s i 0 h)

-- three bytes spell less than 2 ^ 24, and a byte more takes one power more
pub top_small : (n x : ℕ) → n < 4 → x < 256 ^ n → x < 16777216
top_small zero x h p = omega arith
top_small (suc zero) x h p = omega arith
top_small (suc (suc zero)) x h p = omega arith
top_small (suc (suc (suc zero))) x h p = omega arith
top_small (suc (suc (suc (suc n)))) x h p = let z : ⊥ = omega arith in absurd z

pub top_more : (n m x b : ℕ) → m ≡ suc n → b < 256 → x < 256 ^ n → x * 256 + b < 256 ^ m
top_more n m x b e h p = rw (e, pow-suc 256 n) (omega arith)
