-- `base_text::put_decimal` meets its contract. The invariant: the digits of what is left, before those that are there, give the whole. Assumes nothing.
use mathlib.Core.Path.{◌≡◌, refl, sym, ap, ◌∙◌}
use mathlib.Core.List.{List}
use Prim.Native.Nat.{ℕ, ◌-◌, ◌/◌, ◌^◌, ◌<◌}
use native.Mathlib.Omega.{arith}
use lib.ListN.{length, take, drop, length-drop}
use lib.Seq.{take_all}
use Rattle.base_layout.specs.Bytes.{pasted}
use Rattle.base_text.specs.Digits.{decimal}
use Rattle.base_text.proofs.Digits.{decimal_is, ends}
use Rattle.base_text.proofs.put_decimal.Goals as goal

pub loop-rest-init : goal.loop-rest-init
loop-rest-init c =
    let n = c.args.n in
    let h : n / 10 < 10 ^ 19 = omega (arith, c.ranges.n) in
    (refl, omega arith, h, sym (decimal_is 19 n h))

pub returns : goal.returns
returns c =
    let b = c in
    let l = b.loop-rest in
    let a = b.args in
    let e = ends l.i l.rest l.digits (omega arith) l.invariant.3 in
    let n = length-drop l.i l.digits in
    let w : take (20 - l.i) (drop l.i l.digits) ≡ decimal a.n = take_all (20 - l.i) (drop l.i l.digits) (omega arith) ∙ e in
    record { value = omega (arith, ap length e); out_after = c.put_all.ensures ∙ ap (λ (x : List ℕ). pasted a.at x a.out.now) w }
