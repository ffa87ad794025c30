-- `replay_print::put_pairs` meets its contract. The invariant: the bytes left, put where the loop is, give the whole. Assumes nothing.
use mathlib.Core.Path.{◌≡◌, ◌∙◌}
use Prim.Native.Nat.{◌+◌, ◌*◌}
use native.Mathlib.Omega.{arith}
use Rattle.replay_print.proofs.Text.{hexes_turn}
use Rattle.replay_print.proofs.put_pairs.Goals as goal

pub loop-i-preserved : goal.loop-i-preserved
loop-i-preserved c =
    let l = c.loop-i in
    let a = c.args in
    let t = hexes_turn a.bytes.now l.out (a.at + 3 * l.i) l.i (omega arith) (omega arith) in
    let e : a.at + 3 * (l.i + 1) ≡ a.at + 3 * l.i + 3 = omega arith in
    (omega arith, rw (e, c.put_pair.ensures) (t ∙ l.invariant.1))
