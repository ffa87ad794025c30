-- `base_layout::get_number` meets its contract. The invariant: the last i bytes spell the number so far. Assumes nothing.
use mathlib.Core.Path.{◌≡◌}
use Prim.Native.Nat.{◌+◌, ◌-◌, ◌^◌, ◌<◌}
use lib.ListN.{take, drop}
use Rattle.base_layout.specs.Bytes.{of_le}
use Rattle.base_layout.proofs.get_number.Given as goal

abbrev pub invariant-loop-i : goal.invariant-loop-i
invariant-loop-i l = (l.number < 256 ^ l.i) × (l.number ≡ of_le (take l.i (drop (l.at + (l.k - l.i)) l.s)))
