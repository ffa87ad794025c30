-- A tick that does not disturb a step-motor module's ramp. Assumes nothing.
use mathlib.Core.Path.{◌≡◌, ap}
use mathlib.Core.Bool.{Bool, false, cond}
use Rattle.stepper_rules.specs.declared.Sample.{Sample}
use Rattle.stepper_rules.specs.declared.Stepper.{Stepper}
use Rattle.stepper_rules.specs.State.{rest}
use Rattle.stepper_rules.specs.Ramp.{onward, ticked}

abbrev pub Calm : Sample → Stepper → Type 0
Calm x m = x.stop ≡ false

pub tick_steps : (x : Sample) (m : Stepper) → Calm x m → (ticked x m).motion ≡ onward m.motion
unfolding ticked
tick_steps x m e = ap (λ (b : Bool). cond b rest (onward m.motion)) e
