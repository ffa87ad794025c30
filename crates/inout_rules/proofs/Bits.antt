-- Each of the twelve bits comes from where its direction says. Assumes nothing.
use mathlib.Core.Path.{◌≡◌, ap, ◌∙◌}
use mathlib.Core.Bool.{Bool, true, false, cond}
use Prim.Native.Nat.{ℕ, zero, suc, ◌+◌, ◌*◌, ◌/◌, ◌%◌, ◌<◌}
use native.Mathlib.Nat.{pow-succ'}
use native.Mathlib.Omega.{arith}
use lib.Dec.{eqb}
use Rattle.base_integers.specs.Bits.{bit}
use Rattle.base_integers.proofs.Bits.{bit_half}
use Rattle.inout_rules.specs.Pins.{blend}
use Rattle.inout_rules.specs.Promises.{EachBit, NoFurther, Nibble, InputsKeep, ReadValue}

-- one bit is 0 or 1
one : (t : Bool) (x y : ℕ) → cond t (x % 2) (y % 2) < 2
one true x y = omega arith
one false x y = omega arith

pub first : (x : ℕ) → bit 0 x ≡ x % 2
first x = omega arith

pub no_further : NoFurther
unfolding blend
no_further zero d x y = omega arith
no_further (suc n) d x y =
    let ih = no_further n (d / 2) (x / 2) (y / 2) in
    let b = one (eqb (d % 2) 1) x y in
    rw (pow-succ' 2 n) (omega arith)

pub each_bit : EachBit
unfolding blend
each_bit zero k d x y h = absurd (omega arith)
each_bit (suc n) zero d x y h =
    let b = one (eqb (d % 2) 1) x y in
    rw (first d, first x, first y) (omega arith)
each_bit (suc n) (suc k) d x y h =
    let b = one (eqb (d % 2) 1) x y in
    let half : (cond (eqb (d % 2) 1) (x % 2) (y % 2) + 2 * blend n (d / 2) (x / 2) (y / 2)) / 2 ≡ blend n (d / 2) (x / 2) (y / 2) = omega arith in
    rw (bit_half k (cond (eqb (d % 2) 1) (x % 2) (y % 2) + 2 * blend n (d / 2) (x / 2) (y / 2)), half, bit_half k d, bit_half k x, bit_half k y)
    (each_bit n k (d / 2) (x / 2) (y / 2) (omega arith))

pub nibble : Nibble
nibble low high h = omega arith

-- a bit directed as input, and as output
picked : (k d x y : ℕ) → k < 12 → (bit k d ≡ 1 → bit k (blend 12 d x y) ≡ bit k x) × (bit k d ≡ 0 → bit k (blend 12 d x y) ≡ bit k y)
picked k d x y h =
    let e = each_bit 12 k d x y h in
    (λ i. e ∙ ap (λ (b : ℕ). cond (eqb b 1) (bit k x) (bit k y)) i, λ o. e ∙ ap (λ (b : ℕ). cond (eqb b 1) (bit k x) (bit k y)) o)

pub inputs_keep : InputsKeep
inputs_keep m k h = (
  λ bits. let p = picked k m.pins.direction m.pins.register bits h in record { input = p.0; output = p.1 },
  let p = picked k m.pins.direction m.pins.register m.synch.bits h in record { input = p.0; output = p.1 },
)

pub read_value : ReadValue
read_value m k h = picked k m.pins.direction m.latched.inputs m.pins.register h
