-- Which modes count as off, where a setpoint is put, and a tick that leaves the servo on. Assumes nothing.
use mathlib.Core.Path.{◌≡◌, refl, sym, ap, subst, ◌∙◌}
use mathlib.Core.Logic.{◌⊎◌, inl, inr}
use mathlib.Core.Bool.{Bool, true, false, true≢false, false≢true}
use Prim.Native.Nat.{ℕ, ◌≤◌}
use native.Mathlib.Omega.{arith}
use borrow.Author.Tests.{leb-true, leb-false}
use lib.Dec.{eqb, leb}
use lib.IntN.{ℤ, nat_abs}
use Rattle.base_integers.specs.Whole.{difference}
use Rattle.servo_motion.specs.declared.Profile.{Profile}
use Rattle.servo_motion.specs.Setpoint.{whole, moved}
use Rattle.servo_motion.proofs.Moves.{moves}
use Rattle.servo_rules.specs.declared.Mode.{Mode}
use Rattle.servo_rules.specs.declared.Mode.TheVariants.{Off, Pwm, Hold, Velocity, Trapezoid}
use Rattle.servo_rules.specs.declared.Sample.{Sample}
use Rattle.servo_rules.specs.declared.Servo.{Servo}
use Rattle.servo_rules.specs.State.{position_at, position, servo_off}
use Rattle.servo_rules.specs.Tick.{advanced_by, advanced, met, ticked}
use Rattle.servo_rules.specs.LoadPromises.{OffModes, PutAt}
use Rattle.servo_rules.specs.TickPromises.{followed, StillOn, GoesOn}
use Rattle.servo_rules.proofs.Keeping.{number, distinct}
use Rattle.servo_rules.proofs.Meeting.{met_is, tick_is}
use Rattle.servo_rules.proofs.Ticking.{ticks}

neither : (k : Mode) → eqb (number k) 0 ≡ false → eqb (number k) 1 ≡ false → (k ≡ Off) ⊎ (k ≡ Pwm) → ⊥
neither k o p (inl e) = distinct k Off o e
neither k o p (inr e) = distinct k Pwm p e

pub off_modes : OffModes
off_modes Off = (λ e. inl refl, λ e. refl)
off_modes Pwm = (λ e. inr refl, λ e. refl)
off_modes Hold = (λ e. absurd (false≢true e), λ e. absurd (neither Hold refl refl e))
off_modes Velocity = (λ e. absurd (false≢true e), λ e. absurd (neither Velocity refl refl e))
off_modes Trapezoid = (λ e. absurd (false≢true e), λ e. absurd (neither Trapezoid refl refl e))

pub put_at : PutAt
put_at x = (omega arith, omega arith)

module _ (x : Sample) (m : Servo) (on : servo_off (ticked x m).run.drive.mode ≡ false) where
  -- it ended in no mode that counts as off
  not_ended : (k : Mode) → servo_off k ≡ true → (ticked x m).run.drive.mode ≡ k → ⊥
  not_ended k o e = true≢false (sym o ∙ ap servo_off (sym e) ∙ on)

  -- the step of the profile, by the mode
  steps : (q : Profile) (k : Mode) → (met x m).run.drive.mode ≡ k → q ≡ advanced (met x m).run → q ≡ advanced_by k (met x m).run.profile
  unfolding advanced
  steps q k e s = s ∙ ap (λ (k : Mode). advanced_by k (met x m).run.profile) e

  goes : (q : Profile) → q ≡ advanced (met x m).run → ((met x m).run.drive.mode ≡ Velocity) ⊎ ((met x m).run.drive.mode ≡ Trapezoid) → q.setpoint ≡ moved (met x m).run.profile.setpoint q.speed
  goes q s (inl e) = subst (λ (q : Profile). q.setpoint ≡ moved (met x m).run.profile.setpoint q.speed) (sym (steps q Velocity e s)) (moves (met x m).run.profile).0
  goes q s (inr e) = subst (λ (q : Profile). q.setpoint ≡ moved (met x m).run.profile.setpoint q.speed) (sym (steps q Trapezoid e s)) (moves (met x m).run.profile).1

  -- the position that the filter saw is the one after the tick
  seen : (q : Profile) → q ≡ advanced (met x m).run → followed x m ≡ difference (whole q.setpoint) (position (ticked x m))
  seen q s =
      ap (λ (p : Profile). difference (whole p.setpoint) (position_at x m.counts)) (sym s)
      ∙ ap (difference (whole q.setpoint)) (sym (ap position (tick_is x m)))

  went : servo_off (met x m).run.drive.mode ≡ false → nat_abs (followed x m) ≤ m.settings.tuning.gains.el → StillOn (met x m) (ticked x m)
  went k h =
      let r = (ticks x m).runs k h in
      record {
        mode = r.mode;
        goes = goes (ticked x m).run.profile r.profile;
        holds = λ e. let s = steps (ticked x m).run.profile Hold e r.profile in (ap (λ (p : Profile). p.setpoint) s, ap (λ (p : Profile). p.speed) s);
        previous = r.previous ∙ seen (ticked x m).run.profile r.profile;
        within = subst (λ (el : ℕ). nat_abs (ticked x m).run.memory.previous ≤ el) (sym (ap (λ (n : Servo). n.settings.tuning.gains.el) (met_is x m)))
            (subst (λ (z : ℤ). nat_abs z ≤ m.settings.tuning.gains.el) (sym r.previous) h);
      }

  by_error : servo_off (met x m).run.drive.mode ≡ false → (t : Bool) → leb (nat_abs (followed x m)) m.settings.tuning.gains.el ≡ t → StillOn (met x m) (ticked x m)
  by_error k true h = went k (leb-true _ _ h)
  by_error k false h = absurd (not_ended Off refl ((ticks x m).trip k (leb-false _ _ h)).0.mode)

  by_mode : (k : Mode) → (met x m).run.drive.mode ≡ k → StillOn (met x m) (ticked x m)
  by_mode Off e = absurd (not_ended Off refl (ap (λ (s : Servo). s.run.drive.mode) ((ticks x m).off e) ∙ e))
  by_mode Pwm e = absurd (not_ended Pwm refl ((ticks x m).pulse e).2)
  by_mode Hold e = by_error (ap servo_off e) _ refl
  by_mode Velocity e = by_error (ap servo_off e) _ refl
  by_mode Trapezoid e = by_error (ap servo_off e) _ refl

  still_on : StillOn (met x m) (ticked x m)
  still_on = by_mode (met x m).run.drive.mode refl

pub goes_on_lem : GoesOn
goes_on_lem x m on = still_on x m on
