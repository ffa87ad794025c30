-- What is promised of the text that a replay prints, as ASCII codes: 48 is the digit 0, 65 the letter A, 32 a space, 10 a newline (document 01,
-- "Replay file"). Each is proved under its name, with small letters, in proofs/.
use Rattle.std.specs.Prelude.{◌≡◌, [], ◌∷◌}
use Rattle.replay_print.specs.Text.{line, bad_line}

-- 01 Replay file: lines as they are printed: "7 AB 0F", "31 CD E9", "bad 0", "bad 120".
abbrev pub Examples : Type 0
Examples =
    (line 7 (0xAB ∷ 0x0F ∷ []) ≡ 55 ∷ 32 ∷ 65 ∷ 66 ∷ 32 ∷ 48 ∷ 70 ∷ 10 ∷ [])
    × (line 31 (0xCD ∷ 0xE9 ∷ []) ≡ 51 ∷ 49 ∷ 32 ∷ 67 ∷ 68 ∷ 32 ∷ 69 ∷ 57 ∷ 10 ∷ [])
    × (bad_line 0 ≡ 98 ∷ 97 ∷ 100 ∷ 32 ∷ 48 ∷ 10 ∷ [])
    × (bad_line 120 ≡ 98 ∷ 97 ∷ 100 ∷ 32 ∷ 49 ∷ 50 ∷ 48 ∷ 10 ∷ [])
