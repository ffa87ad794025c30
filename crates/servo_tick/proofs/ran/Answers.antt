-- `servo_tick::ran` meets its contract. Assumes nothing.
use borrow.Author.Tests.{eq-eqb, ne_eqb}
use Rattle.servo_rules.specs.State.{idled, off}
use Rattle.servo_rules.specs.Tick.{by_power}
use Rattle.servo_tick.proofs.ran.Goals as goal

pub returns-then-power-eq0 : goal.returns-then-power-eq0
unfolding by_power off idled
returns-then-power-eq0 c = rw (eq-eqb _ _ c.if-power-eq0.true) c.off.ensures

pub returns : goal.returns
unfolding by_power
returns c = rw (ne_eqb _ _ c.if-power-eq0.false) c.driven.ensures
