-- `servo_calls::tick` meets its contract. Assumes nothing.
use mathlib.Core.Path.{sym, ◌∙◌}
use native.Mathlib.Omega.{arith}
use Rattle.servo_slot_rules.specs.Slot.{decode_of}
use Rattle.servo_slot_rules.proofs.Tested.{steady_in}
use Rattle.servo_calls.proofs.Stepping.{tick_is}
use Rattle.servo_calls.proofs.tick.Goals as goal

pub ran-requires : goal.ran-requires
unfolding decode_of
ran-requires c =
    let k = c in
    let a = k in
    rw c.run_in-run.ensures (steady_in a.args.s.now (λ i. omega (arith, k.slice_known-1.given i)) a.requires.1)

pub returns : goal.returns
unfolding decode_of
returns c =
    let p = c in
    let r = p in
    let g = r in
    let q = g in
    let n = q in
    let e = n in
    let l = e in
    let k = l in
    let a = k in
    tick_is a.args.x a.args.s.now (omega (arith, a.requires.0)) (λ i. omega (arith, k.slice_known-1.given i)) a.requires.1
    (sym e.is_changed.ensures ∙ e.if-is_changed.false) l.latched_in-latched.ensures n.counts_in-counts.ensures g.gains_in-gains.ensures r.run_in-run.ensures
    q.position-last.ensures q.position-here.ensures p.ran.ensures p.put_ticked.ensures
