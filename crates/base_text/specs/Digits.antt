-- Numbers in decimal and bytes in hex, as ASCII codes.
use Rattle.std.specs.Prelude.{ℕ, zero, suc, ◌+◌, ◌/◌, ◌%◌, List, [], ◌∷◌, ◌++◌, cond, eqb, ltb}

-- 01 Replay file, 02 P7: what stands before each byte.
abbrev pub space : ℕ
space = 32

-- 01 Replay file, 02 P7: the line's end.
abbrev pub newline : ℕ
newline = 10

-- 01 Replay file: a decimal digit.
abbrev pub digit : ℕ → ℕ
digit d = 48 + d

-- 01 Replay file: the digits of a number in their order, none for 0; k is as many as there can be.
abbrev pub digits : ℕ → ℕ → List ℕ
digits zero n = []
digits (suc k) n = cond (eqb n 0) [] (digits k (n / 10) ++ digit (n % 10) ∷ [])

-- 01 Replay file: a number in decimal: the digits of its tens, then its last digit.
unfoldable pub decimal : ℕ → List ℕ
decimal n = digits n (n / 10) ++ digit (n % 10) ∷ []

-- 01 Replay file, 02 P7: an upper-case hex digit: 0 to 9, then A to F.
abbrev pub hex_digit : ℕ → ℕ
hex_digit d = cond (ltb d 10) (48 + d) (55 + d)

-- 01 Replay file, 02 P7: a byte as two hex digits, the upper one first.
abbrev pub hex_pair : ℕ → List ℕ
hex_pair b = hex_digit (b / 16) ∷ hex_digit (b % 16) ∷ []
