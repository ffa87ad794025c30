-- `base_layout::put_all` meets its contract. The invariant: the first i bytes are pasted, and the length is as it was. Assumes nothing.
use native.Mathlib.Numerals.{add-one}
use native.Mathlib.Omega.{arith}
use lib.ListN.{length-set}
use lib.Seq.{paste-suc}
use Rattle.base_layout.proofs.put_all.Goals as goal

pub loop-i-preserved : goal.loop-i-preserved
loop-i-preserved c =
    let a = c.args in
    let l = c.loop-i in
    let step = paste-suc a.dst.now a.at a.src.now l.i 0 (omega arith) (omega arith) in
    (simp length-set (omega arith), rw (l.invariant.1, add-one) step)
