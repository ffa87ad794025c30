-- Bits picked by their direction are a sum of two masks. Assumes nothing.
use mathlib.Core.Path.{◌≡◌, refl, ap}
use mathlib.Core.Bool.{Bool, true, false, cond}
use Prim.Native.Nat.{ℕ, zero, suc, ◌+◌, ◌-◌, ◌/◌, ◌%◌, ◌^◌}
use native.Mathlib.Nat.{pow-suc}
use native.Mathlib.Omega.{arith}
use borrow.Author.Tests.{eqb-true, eqb-false}
use lib.Arith.{mod-mul}
use lib.Bits.{bit_and, and_step, and_le_l}
use lib.Dec.{eqb}
use lib.Pow.{pow_pos}
use Rattle.inout_rules.specs.Pins.{blend}

-- x where d is set, y elsewhere
masked : ℕ → ℕ → ℕ → ℕ
masked d x y = bit_and x d + (y - bit_and y d)

one_bit : (d x y : ℕ) → (masked d x y / 2 ≡ masked (d / 2) (x / 2) (y / 2)) × (masked d x y % 2 ≡ cond (eqb (d % 2) 1) (x % 2) (y % 2))
unfolding masked
one_bit d x y = go (eqb (d % 2) 1) refl
  where
    go : (t : Bool) → eqb (d % 2) 1 ≡ t → (masked d x y / 2 ≡ masked (d / 2) (x / 2) (y / 2)) × (masked d x y % 2 ≡ cond t (x % 2) (y % 2))
    go true e =
        let a = and_step x d in
        let b = and_step y d in
        let l = and_le_l (y / 2) (d / 2) in
        let s = eqb-true (d % 2) 1 e in
        (omega arith, omega arith)
    go false e =
        let a = and_step x d in
        let b = and_step y d in
        let l = and_le_l (y / 2) (d / 2) in
        let s : d % 2 ≡ 0 = omega (arith, eqb-false (d % 2) 1 e) in
        (omega arith, omega arith)

pub blend_is : (n d x y : ℕ) → blend n d x y ≡ (bit_and x d + (y - bit_and y d)) % 2 ^ n
unfolding blend masked
blend_is zero d x y = omega arith
blend_is (suc n) d x y =
    let b = one_bit d x y in
    let ih = blend_is n (d / 2) (x / 2) (y / 2) in
    let m = mod-mul (masked d x y) {m = 2 ^ n} {c = 2} (pow_pos n) (omega arith) in
    let h = ap (λ (z : ℕ). z % 2 ^ n) b.0 in
    rw (pow-suc 2 n) (omega (arith, m, h, b.1, ih))
