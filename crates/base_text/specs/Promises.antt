-- What is promised of digits, as ASCII codes: 48 is the digit 0, 65 the letter A (document 01, "Replay file"). Each is proved under its name, with
-- small letters, in proofs/.
use Rattle.std.specs.Prelude.{◌≡◌, ℕ, ◌+◌, ◌-◌, ◌<◌, ◌≤◌, [], ◌∷◌}
use Rattle.base_text.specs.Digits.{decimal, hex_digit, hex_pair}

-- 01 Replay file, 02 P7: hex digits are 0 to 9, and from ten on the letters from A.
abbrev pub UpperCase : Type 0
UpperCase = (d : ℕ) → (d < 10 → hex_digit d ≡ 48 + d) × (10 ≤ d → hex_digit d ≡ 65 + (d - 10))

-- 01 Replay file: numbers in decimal, 0, 7, 31 and 120, and bytes in hex, AB, 0F and E9.
abbrev pub Examples : Type 0
Examples =
    (decimal 0 ≡ 48 ∷ [])
    × (decimal 7 ≡ 55 ∷ [])
    × (decimal 31 ≡ 51 ∷ 49 ∷ [])
    × (decimal 120 ≡ 49 ∷ 50 ∷ 48 ∷ [])
    × (hex_pair 0xAB ≡ 65 ∷ 66 ∷ [])
    × (hex_pair 0x0F ≡ 48 ∷ 70 ∷ [])
    × (hex_pair 0xE9 ≡ 69 ∷ 57 ∷ [])
