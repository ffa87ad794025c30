-- The host's writer of frames: what it gives back and what it leaves in the room that it is lent.
use Rattle.std.specs.Prelude.{ℕ, ◌+◌, List, Bool, cond, ◌||◌, length, ltb, Result, Ok, Err}
use Rattle.base_layout.specs.Bytes.{pasted}
use Rattle.line_receiver.specs.Frames.{written}
use Rattle.host_rules.specs.declared.Refusal.{Refusal}
use Rattle.host_rules.specs.Refusals.{number_of}

-- 01 Numbers given back: what the writer gives back, its number, and how many bytes it wrote.
pub record Written : Type 0 where
  pub number : ℕ
  pub len : ℕ

-- 01 Numbers given back: how many bytes were written, or why none, as what is given back.
abbrev pub reported : Result ℕ Refusal → Written
reported (Ok n) = record { number = 0; len = n }
reported (Err r) = record { number = number_of r; len = 0 }

-- 01 Numbers given back, 17: the address does not fit a byte, the code does not fit a nibble, or there are more than fifteen data bytes.
abbrev pub unfit : ℕ → ℕ → List ℕ → Bool
unfit address code ds = ltb 255 address || ltb 15 code || ltb 15 (length ds)

-- 01 Numbers given back, 15: the room does not hold the data bytes and the four bytes around them.
abbrev pub cramped : List ℕ → List ℕ → Bool
cramped ds room = ltb (length room) (length ds + 4)

-- 01 Numbers given back: what the writer gives back, by the first refusal that applies; refused, no byte is written.
unfoldable pub written_of : ℕ → ℕ → List ℕ → List ℕ → Written
written_of address code ds room =
    cond (unfit address code ds) (record { number = 17; len = 0 })
    (cond (cramped ds room) (record { number = 15; len = 0 })
    (record { number = 0; len = length ds + 4 }))

-- 01 Numbers given back and Frames: the room afterwards begins with the frame and is as it was behind it; refused, all of it is as it was.
unfoldable pub room_after : ℕ → ℕ → List ℕ → List ℕ → List ℕ
room_after address code ds room =
    cond (unfit address code ds) room (cond (cramped ds room) room (pasted 0 (written address code ds) room))
