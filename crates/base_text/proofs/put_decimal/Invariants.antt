-- `base_text::put_decimal` meets its contract. The invariant: the digits of what is left, before those that are there, give the whole. Assumes nothing.
use mathlib.Core.Path.{◌≡◌}
use mathlib.Core.List.{◌++◌}
use Prim.Native.Nat.{◌^◌, ◌<◌, ◌≤◌}
use lib.ListN.{length, drop}
use Rattle.base_text.specs.Digits.{decimal}
use Rattle.base_text.specs.Digits as Spec
use Rattle.base_text.proofs.put_decimal.Given as goal

abbrev pub invariant-loop-rest : goal.invariant-loop-rest
invariant-loop-rest l =
    (length l.digits ≡ 20)
    × (l.i ≤ 19)
    × (l.rest < 10 ^ l.i)
    × (Spec.digits l.i l.rest ++ drop l.i l.digits ≡ decimal l.n)

abbrev pub decreases-loop-rest : goal.decreases-loop-rest
decreases-loop-rest l = l.rest
