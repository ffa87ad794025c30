-- `inout_calls::tick` meets its contract. Assumes nothing.
use mathlib.Core.Path.{sym, ◌∙◌}
use native.Mathlib.Omega.{arith}
use Rattle.inout_slot_rules.proofs.Over.{ticked_over_lem}
use Rattle.inout_calls.proofs.tick.Goals as goal
use Rattle.inout_calls.proofs.tick.Goals.{After-slice_known-1}

pub returns : goal.returns
returns c = let p = c in
    let a = p in
    c.put_latched.ensures ∙ sym (ticked_over_lem a.args.s.now (omega (arith, a.requires.0)) (λ i. omega (arith, (goal.at.returns c).After-slice_known-1.type_inv.s i)) a.requires.1 a.args.x)
