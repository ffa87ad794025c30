-- `base_layout::get_number` meets its contract. The invariant: the last i bytes spell the number so far. Assumes nothing.
use mathlib.Core.Path.{◌≡◌}
use Prim.Native.Nat.{ℕ, ◌+◌, ◌-◌}
use native.Mathlib.Omega.{arith}
use lib.ListN.{get_or}
use Rattle.base_layout.proofs.Top.{top_turn, top_small, top_more}
use Rattle.base_layout.proofs.get_number.Goals as goal

pub overflow_mul-number : goal.overflow_mul-number
overflow_mul-number c =
    let l = c.loop-i in
    omega (arith, top_small l.i l.number (omega arith) l.invariant.0)

pub overflow_add-number-in-loop-i : goal.overflow_add-number-in-loop-i
overflow_add-number-in-loop-i c =
    let l = c.loop-i in
    let a = c.args in
    omega (arith, top_small l.i l.number (omega arith) l.invariant.0, c.type_inv.s (a.at + (a.k - 1 - l.i)))

pub loop-i-preserved : goal.loop-i-preserved
loop-i-preserved c =
    let l = c.loop-i in
    let a = c.args in
    let s = a.s.now in
    let j : ℕ = a.at + (a.k - 1 - l.i) in
    let e : a.k - (l.i + 1) ≡ a.k - 1 - l.i = omega arith in
    let t = top_turn s j l.i (l.i + 1) (a.at + (a.k - l.i)) (omega arith) (omega arith) (omega arith) in
    (top_more l.i (l.i + 1) l.number (get_or s j 0) (omega arith) (omega (arith, c.type_inv.s j)) l.invariant.0, rw e (omega (arith, t, l.invariant.1)))
