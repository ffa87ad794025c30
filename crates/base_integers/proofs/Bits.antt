-- Bits of a number and of its half. Assumes nothing.
use Rattle.std.proofs.Common.{◌≡◌, ℕ, suc, ◌/◌, ◌%◌, ◌^◌, sym, ap, ◌∙◌}
use native.Mathlib.Nat.{pow-succ', div-div-eq-div-mul}
use Rattle.base_integers.specs.Bits.{bit}

-- a bit above the lowest is a bit of the half
pub bit_half : (k n : ℕ) → bit (suc k) n ≡ bit k (n / 2)
bit_half k n = ap (λ (z : ℕ). z % 2) (ap (λ (p : ℕ). n / p) (pow-succ' 2 k) ∙ sym (div-div-eq-div-mul n 2 (2 ^ k)))
