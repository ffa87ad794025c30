-- The text that a replay prints, as ASCII codes.
use Rattle.std.specs.Prelude.{ℕ, zero, suc, ◌+◌, ◌*◌, List, [], ◌∷◌, ◌++◌, get_or, take, drop}
use Rattle.base_text.specs.Digits.{space, newline, decimal, hex_pair}
use Rattle.module_rules.specs.Owes.{reply_size}
use Rattle.chain_rules.specs.Chain.{Reply}
use Rattle.net_rules.specs.Record.{chain_most}

-- 01 Replay file: bytes as two hex digits each, a space before each.
abbrev pub hexes : List ℕ → List ℕ
hexes [] = []
hexes (b ∷ bs) = (space ∷ hex_pair b) ++ hexes bs

-- 01 Replay file: the line of a reply: its place in decimal, its bytes, the line's end.
unfoldable pub line : ℕ → List ℕ → List ℕ
line place bytes = decimal place ++ (hexes bytes ++ newline ∷ [])

-- the longest line, with a place of two digits, and the room that the lines of all replies to a byte need
abbrev pub line_size : ℕ
line_size = 3 + 3 * reply_size

abbrev pub text_size : ℕ
text_size = chain_most * line_size

-- 01 Replay file: a line for each of some replies.
abbrev pub lines : List Reply → List ℕ
lines [] = []
lines (r ∷ rs) = line r.place r.bytes ++ lines rs

-- 01 Replay file: the line of what a place said; no line where it said nothing.
abbrev pub reply_text : ℕ → List ℕ → List ℕ
reply_text place [] = []
reply_text place (b ∷ bs) = line place (b ∷ bs)

-- 01 Replay file: the lines of k places from one on, whose words stand in a room one after another, by the length of each.
unfoldable pub printed : ℕ → ℕ → ℕ → List ℕ → List ℕ → List ℕ
printed zero place at lengths room = []
printed (suc k) place at lengths room =
    reply_text place (take (get_or lengths place 0) (drop at room)) ++ printed k (place + 1) (at + get_or lengths place 0) lengths room

-- 01 Replay file: the last line of a replay that a record ended: "bad ", and where that record begins.
unfoldable pub bad_line : ℕ → List ℕ
bad_line offset = (98 ∷ 97 ∷ 100 ∷ space ∷ []) ++ (decimal offset ++ newline ∷ [])
