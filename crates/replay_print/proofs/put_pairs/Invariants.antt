-- `replay_print::put_pairs` meets its contract. The invariant: the bytes left, put where the loop is, give the whole. Assumes nothing.
use mathlib.Core.Path.{◌≡◌}
use Prim.Native.Nat.{◌+◌, ◌*◌}
use lib.ListN.{length, drop}
use Rattle.base_layout.specs.Bytes.{pasted}
use Rattle.replay_print.specs.Text.{hexes}
use Rattle.replay_print.proofs.put_pairs.Given as goal

abbrev pub invariant-loop-i : goal.invariant-loop-i
invariant-loop-i l =
    (length l.out ≡ length l.initial.out)
    × (pasted (l.at + 3 * l.i) (hexes (drop l.i l.bytes)) l.out ≡ pasted l.at (hexes l.bytes) l.initial.out)
