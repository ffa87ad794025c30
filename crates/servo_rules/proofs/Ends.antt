-- What holds at each end of what profile and filter make of what runs holds of what they make. Assumes nothing.
use mathlib.Core.Path.{◌≡◌, refl, sym, ap, subst}
use mathlib.Core.Bool.{true, false}
use Prim.Native.Nat.{ℕ}
use Rattle.servo_filter.specs.declared.Gains.{Gains}
use Rattle.servo_filter.specs.Filter.{filtered, Told, told}
use Rattle.servo_rules.specs.declared.Mode.{Mode}
use Rattle.servo_rules.specs.declared.Mode.TheVariants.{Off, Pwm, Hold, Velocity, Trapezoid}
use Rattle.servo_rules.specs.declared.Run.{Run}
use Rattle.servo_rules.specs.declared.Sample.{Sample}
use Rattle.servo_rules.specs.declared.Servo.{Servo}
use Rattle.servo_rules.specs.State.{position_at, servo_off}
use Rattle.servo_rules.specs.Tick.{advanced, tripped, worked_to, filtered_to, followed_at, servoed, pulsed, driven_by, met, ticked}
use Rattle.servo_rules.proofs.Keeping.{by_test}
use Rattle.servo_rules.proofs.Meeting.{tick_is}

-- what the filter tells at the new setpoint and the position here
abbrev pub answer : ℕ → Gains → Run → Told
answer here g r = told (filtered g r.memory (followed_at here r))

-- what holds at each end
pub record Ends (P : Run → Type 0) (power here : ℕ) (g : Gains) (r : Run) : Type 0 where
  pub off : r.drive.mode ≡ Off → P r
  pub pwm : r.drive.mode ≡ Pwm → P (pulsed power g.ol r)
  pub output : servo_off r.drive.mode ≡ false → (t : Told) → answer here g r ≡ t → P (worked_to t power (advanced r) r)
  pub trip : (answer here g r).trips ≡ true → P (tripped (advanced r) r)

pub ends : (P : Run → Type 0) (power here : ℕ) (g : Gains) (r : Run) → Ends P power here g r → P (driven_by r.drive.mode power here g r)
unfolding servoed
ends P power here g r e = drive r.drive.mode refl
  where
    filter : servo_off r.drive.mode ≡ false → P (filtered_to (answer here g r) power (advanced r) r)
    filter s = by_test P (answer here g r).trips (tripped (advanced r) r) _ e.trip (λ n. e.output s (answer here g r) refl)

    drive : (k : Mode) → r.drive.mode ≡ k → P (driven_by k power here g r)
    drive Off q = e.off q
    drive Pwm q = e.pwm q
    drive Hold q = filter (ap servo_off q)
    drive Velocity q = filter (ap servo_off q)
    drive Trapezoid q = filter (ap servo_off q)

-- of a servo's tick: at the power and the position of its sample, of what it met
abbrev pub TickEnds : (Run → Type 0) → Sample → Servo → Type 0
TickEnds P x m = Ends P x.power (position_at x m.counts) m.settings.tuning.gains (met x m).run

pub tick_ends : (P : Run → Type 0) (x : Sample) (m : Servo) → TickEnds P x m → P (ticked x m).run
tick_ends P x m e =
    subst P (sym (ap (λ (n : Servo). n.run) (tick_is x m)))
    (ends P x.power (position_at x m.counts) m.settings.tuning.gains (met x m).run e)
