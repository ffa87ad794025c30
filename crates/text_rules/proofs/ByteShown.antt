-- What is shown of a byte is a byte of the grammar. Assumes nothing.
use mathlib.Core.Path.{◌≡◌, refl, subst}
use mathlib.Core.List.{[], ◌∷◌, ◌++◌}
use mathlib.Core.Bool.{Bool, true, false, cond}
use Prim.Native.Nat.{ℕ, ◌+◌, ◌*◌, ◌-◌, ◌/◌, ◌%◌, ◌<◌}
use native.Mathlib.Omega.{arith}
use borrow.Author.Tests.{ltb-true, ltb-false}
use lib.Dec.{ltb}
use Rattle.base_text.specs.Digits.{hex_digit, hex_pair}
use Rattle.line_receiver.specs.Frames.{Byte}
use Rattle.text_rules.specs.Text.{bang, Hex, figure, upper, OneByte, plain, marked}
use Rattle.text_rules.specs.Export.{shown}

-- an upper-case digit is a hex digit
hex_shown : (d : ℕ) → d < 16 → Hex (hex_digit d) d
hex_shown d h = go (ltb d 10) refl
  where
    go : (q : Bool) → ltb d 10 ≡ q → Hex (cond q (48 + d) (55 + d)) d
    go true e = figure (ltb-true d 10 e) refl
    go false e = let g = ltb-false d 10 e in upper g h (omega arith)

pub byte-shown : (b : Byte) → b.value < 256 → OneByte (shown b) b
byte-shown b h = go b.mark
  where
    v : ℕ
    v = b.value

    e : 16 * (v / 16) + v % 16 ≡ v
    e = omega arith

    go : (m : Bool) → OneByte (hex_pair v ++ cond m (bang ∷ []) []) (record { value = v; mark = m })
    go true = subst (λ (k : ℕ). OneByte (hex_pair v ++ bang ∷ []) (record { value = k; mark = true })) e (marked (hex_shown (v / 16) (omega arith)) (hex_shown (v % 16) (omega arith)))
    go false = subst (λ (k : ℕ). OneByte (hex_pair v) (record { value = k; mark = false })) e (plain (hex_shown (v / 16) (omega arith)) (hex_shown (v % 16) (omega arith)))
