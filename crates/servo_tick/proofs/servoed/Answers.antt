-- `servo_tick::servoed` meets its contract: each answer of the filter, after the profile's step. Assumes nothing.
use mathlib.Core.Path.{◌≡◌, sym, ap, ◌∙◌}
use mir.Syntax.{w64}
use native.Mathlib.Omega.{arith}
use mir.Val.{to_z, of_z}
use mir.ValLaws.{to_z-of_z}
use Rattle.servo_filter.specs.declared.Filtered.{Filtered}
use Rattle.servo_filter.specs.Filter.{filtered, told}
use Rattle.servo_rules.specs.Tick.{advanced, filtered_to, followed_at, servoed}
use Rattle.servo_rules.proofs.Ranges.{advanced-ranged}
use Rattle.servo_tick.proofs.servoed.Goals as goal
use Rattle.servo_tick.proofs.servoed.Goals.{After-filter}

-- what a tick makes of the filter's answer, at the new setpoint and the position
made_of : (c : After-filter) (q : Filtered) → c.filter.result ≡ q
    → let a = c.args in
    filtered_to (told q) a.power (advanced a.r) a.r ≡ servoed a.power a.here a.g a.r
unfolding servoed
made_of c q e =
    let a = c.args in
    let answer : c.filter.result ≡ filtered a.g a.r.memory (followed_at a.here a.r) =
    rw (c.whole.ensures, c.advanced-p.ensures) at c.filter.ensures in
    ap (λ (q : Filtered). filtered_to (told q) a.power (advanced a.r) a.r) (sym e ∙ answer)

pub whole-requires : goal.whole-requires
whole-requires c = rw c.advanced-p.ensures (advanced-ranged c.args.r c.requires.profile).setpoint

pub returns-in-Plain : goal.returns-in-Plain
returns-in-Plain c =
    let f = (goal.at.returns-in-Plain c).After-filter in
    let u : to_z w64 (of_z w64 c.in-Plain.u) ≡ c.in-Plain.u = to_z-of_z w64 c.in-Plain.u (record { sfits = omega arith }) in
    (rw (f.advanced-p.ensures, u) at c.followed.ensures) ∙ made_of f _ c.in-Plain.is

pub returns-in-Cut : goal.returns-in-Cut
returns-in-Cut c =
    let f = (goal.at.returns-in-Cut c).After-filter in
    let u : to_z w64 (of_z w64 c.in-Cut.u) ≡ c.in-Cut.u = to_z-of_z w64 c.in-Cut.u (record { sfits = omega arith }) in
    (rw (f.advanced-p.ensures, u) at c.followed-in-Cut.ensures) ∙ made_of f _ c.in-Cut.is

pub returns-in-Off : goal.returns-in-Off
returns-in-Off c =
    let f = (goal.at.returns-in-Off c).After-filter in
    (rw f.advanced-p.ensures at c.tripped.ensures) ∙ made_of f _ c.in-Off.is
