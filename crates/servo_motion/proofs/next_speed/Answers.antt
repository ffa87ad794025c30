-- `servo_motion::next_speed` meets its contract: no range, its top at once, or a search of it. Assumes nothing.
use mathlib.Core.Path.{◌≡◌, refl, sym, ◌∙◌, subst}
use mathlib.Core.Logic.{inr}
use native.Mathlib.Omega.{arith}
use lib.Dec.{T}
use Rattle.servo_motion.specs.Trapezoid.{greatest, next_speed}
use Rattle.servo_motion.proofs.Stopping.{within}
use Rattle.servo_motion.proofs.Search.{greatest_low, greatest-found}
use Rattle.servo_motion.proofs.next_speed.Goals as goal
use Rattle.servo_motion.proofs.next_speed.Goals.{After-min-hi}

-- the range that the code works out
range : (c : After-min-hi) → next_speed c.args.a c.args.top c.args.d c.args.v
    ≡ greatest (within c.args.a c.args.d) c.saturating_sub-lo.result c.min-hi.result
unfolding next_speed
range c = rw (c.min-hi.ensures, c.saturating_sub-lo.ensures) refl

pub returns-then-hi-lo : goal.returns-then-hi-lo
returns-then-hi-lo c =
    let s = c.before.before.before in
    sym (range c.before ∙ greatest_low (within s.args.a s.args.d) _ c.min-hi.result (omega arith))

pub returns-then-can_stop : goal.returns-then-can_stop
returns-then-can_stop c =
    let h = c.before.before.before in
    let s = h.before.before in
    let passes : T (within s.args.a s.args.d h.min-hi.result) = subst T (sym (sym c.can_stop.ensures ∙ c.if-can_stop.true)) tt in
    greatest-found (within s.args.a s.args.d) h.saturating_sub-lo.result h.min-hi.result h.min-hi.result (omega arith)
    (record { from = omega arith; to = omega arith; has = inr passes; above = λ x p q. p })
    ∙ sym (range h)

pub returns : goal.returns
returns c = c.by_halves.ensures ∙ sym (range c.before.before.before.before)
