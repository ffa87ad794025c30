-- `monitor_file::column_behind` meets its contract. The invariant: no newline stands from the place on. Assumes nothing.
use mathlib.Core.Path.{◌≡◌, sym, ap, ◌∙◌}
use Prim.Native.Nat.{ℕ, ◌-◌}
use native.Mathlib.Omega.{arith}
use lib.ListN.{drop}
use Rattle.base_text.specs.Digits.{newline}
use Rattle.text_rules.specs.Promises.{occurs}
use Rattle.monitor_file.proofs.SpotParts.{spot_none}
use Rattle.monitor_file.proofs.Spotted.{spot_found}
use Rattle.monitor_file.proofs.column_behind.Goals as goal

pub returns-then-text-i-eq10 : goal.returns-then-text-i-eq10
returns-then-text-i-eq10 c =
    let l = c.loop-i in
    let a = c.args in
    spot_found a.from a.text.now (l.i - 1) l.i (omega arith) (omega arith) c.if-text-i-eq10.true l.invariant.1

pub returns : goal.returns
returns c =
    let l = c.loop-i in
    let a = c.args in
    let z : l.i ≡ 0 = omega arith in
    sym (spot_none a.from a.text.now (ap (λ (k : ℕ). occurs newline (drop k a.text.now)) (sym z) ∙ l.invariant.1))
