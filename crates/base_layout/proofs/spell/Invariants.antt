-- `base_layout::spell` meets its contract. The invariant: the bytes put and what is left of the number are all its bytes. Assumes nothing.
use mathlib.Core.Path.{◌≡◌}
use mathlib.Core.List.{◌++◌}
use Prim.Native.Nat.{◌-◌}
use lib.ListN.{length, take}
use Rattle.base_layout.specs.Bytes.{le}
use Rattle.base_layout.proofs.spell.Given as goal

abbrev pub invariant-loop-byte : goal.invariant-loop-byte
invariant-loop-byte l =
    (length l.s ≡ length l.initial.s)
    × (take l.byte-index l.s ++ le (length l.initial.s - l.byte-index) l.rest ≡ le (length l.initial.s) l.x)
