-- Eight numbers put into a reading, one after another. Assumes nothing.
use mathlib.Core.Path.{◌≡◌, refl}
use mathlib.Core.List.{List}
use Prim.Native.Nat.{ℕ, zero, suc, ◌+◌, ◌*◌, ◌-◌, ◌<◌, ◌≤◌}
use native.Mathlib.Nat.{mul-suc}
use native.Mathlib.Omega.{arith}
use lib.ListN.{length, get_or, length-append}
use Rattle.base_layout.specs.Bytes.{le, pasted}
use Rattle.base_layout.proofs.Pasted.{pasted_twice}
use Rattle.api_rules.specs.Calls.{numbers_bytes}

length-numbers : (k i : ℕ) (ns : List ℕ) → length (numbers_bytes k i ns) ≡ 4 * k
length-numbers zero i ns = refl
length-numbers (suc k) i ns =
    omega (arith, length-append (le 4 (get_or ns i 0)) (numbers_bytes k (i + 1) ns), length-numbers k (i + 1) ns, mul-suc 4 k)

-- a turn of the loop, with k numbers to go before it
pub numbers_turn : (k i at : ℕ) (ns s : List ℕ) → 0 < k → at + 4 * k ≤ length s
    → pasted (at + 4) (numbers_bytes (k - 1) (i + 1) ns) (pasted at (le 4 (get_or ns i 0)) s) ≡ pasted at (numbers_bytes k i ns) s
numbers_turn zero i at ns s p h = absurd (omega arith)
numbers_turn (suc k) i at ns s p h =
    let one : suc k - 1 ≡ k = omega arith in
    let l = length-numbers k (i + 1) ns in
    rw one (pasted_twice at (le 4 (get_or ns i 0)) (numbers_bytes k (i + 1) ns) s (omega (arith, mul-suc 4 k)))
