-- `stepper_calls::tick` meets its contract. Assumes nothing.
use native.Mathlib.Omega.{arith}
use Rattle.stepper_calls.proofs.Ticking.{few_ticks, tick_is, rest_is}
use Rattle.stepper_calls.proofs.tick.Goals as goal

pub returns-then-before-eq0 : goal.returns-then-before-eq0
returns-then-before-eq0 c =
    let k = c in
    let a = k in
    rest_is a.args.x a.args.s.now a.requires.0 (λ i. omega (arith, k.slice_known-1.given i)) a.requires.1 c.motion_in-before.ensures c.if-before-eq0.true

pub ran-after-requires : goal.ran-after-requires
ran-after-requires c =
    let k = c in
    rw c.motion_in-before.ensures (few_ticks k.args.s.now (λ i. omega (arith, k.slice_known-1.given i)) k.requires.1)

pub returns : goal.returns
returns c =
    let g = c in
    let r = g in
    let k = r in
    let a = k in
    tick_is a.args.x a.args.s.now (omega (arith, a.requires.0)) (λ i. omega (arith, k.slice_known-1.given i)) a.requires.1
    r.motion_in-before.ensures r.ran-after.ensures g.position_in-position.ensures c.moved.ensures c.put_run.ensures
