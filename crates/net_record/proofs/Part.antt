-- A slot of the record as a part of its own. Assumes nothing.
use mathlib.Core.Path.{◌≡◌, ap}
use mathlib.Core.List.{List}
use Prim.Native.Nat.{ℕ, ◌<◌}
use lib.ListN.{length, get_or, take, drop}
use lib.Seq.{drop-cons}
use Rattle.module_rules.specs.Slots.{slot_size}

-- its first byte
pub first_byte : (at : ℕ) (s : List ℕ) → at < length s → get_or (take slot_size (drop at s)) 0 0 ≡ get_or s at 0
first_byte at s within = ap (λ (rest : List ℕ). get_or (take slot_size rest) 0 0) (drop-cons s at 0 within)
