-- Where a character stands in a text, by line and column (document 02, P7, for the fitters).
use Rattle.std.specs.Prelude.{List, [], ◌∷◌, cond, ℕ, ◌+◌, ◌≤◌, eqb}
use Rattle.base_text.specs.Digits.{newline}
use Rattle.monitor_file.specs.declared.Spot.{Spot}

-- the text's first character
abbrev pub first_spot : Spot
first_spot = record { offset = 0; line = 1; column = 1 }

-- one character further: a newline ends its line
abbrev pub onward : Spot → ℕ → Spot
onward s c =
    record { offset = s.offset + 1; line = cond (eqb c newline) (s.line + 1) s.line; column = cond (eqb c newline) 1 (s.column + 1) }

unfoldable pub spot_after : Spot → List ℕ → Spot
spot_after s [] = s
spot_after s (c ∷ cs) = spot_after (onward s c) cs

-- a line and a column are no further than the offset allows
abbrev pub Near : Spot → Type 0
Near s = (s.line ≤ s.offset + 1) × (s.column ≤ s.offset + 1)
