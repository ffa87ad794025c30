-- What turns a servo on, but for Stop Here, begins at the position. Assumes nothing.
use mathlib.Core.Path.{◌≡◌, refl, sym, ap, ◌∙◌}
use mathlib.Core.Bool.{Bool, true, false, true≢false}
use Prim.Native.Nat.{ℕ, ◌^◌, ◌<◌}
use native.Mathlib.Omega.{arith}
use lib.IntN.{pos}
use Rattle.base_integers.specs.Whole.{difference}
use Rattle.module_rules.specs.Rules.{wants}
use Rattle.servo_motion.specs.Setpoint.{whole}
use Rattle.servo_rules.specs.declared.Halt.{Halt}
use Rattle.servo_rules.specs.declared.Halt.TheVariants.{Keep, Release, Abrupt, Smooth, Here}
use Rattle.servo_rules.specs.declared.Order.{Order}
use Rattle.servo_rules.specs.declared.Order.TheVariants.{ResetPosition, LoadTrajectory, Start, SetGain, Stop, SetHoming, ClearBits}
use Rattle.servo_rules.specs.declared.Way.{Way}
use Rattle.servo_rules.specs.declared.Way.TheVariants.{Pulse, Speed, Move}
use Rattle.servo_rules.specs.declared.Settings.{Settings}
use Rattle.servo_rules.specs.declared.Run.{Run}
use Rattle.servo_rules.specs.declared.Servo.{Servo}
use Rattle.servo_rules.specs.State.{position, servo_off, with_station, idled, off}
use Rattle.servo_rules.specs.Loads.{loaded, starts_now, beginning_at, to_speed, to_place, started_by, start}
use Rattle.servo_rules.specs.Stops.{holding, smooth, halted_by}
use Rattle.servo_rules.specs.Perform.{reset_position, stopped, can, perform}
use Rattle.servo_rules.specs.RestPromises.{following, TurnsOnHere}
use Rattle.servo_rules.proofs.Keeping.{either}
use Rattle.servo_rules.proofs.Framed.{leaves}
use Rattle.servo_rules.proofs.Placing.{at_here}

-- what runs, if it is on, has its setpoint at the position here
abbrev OnAt : ℕ → Run → Type 0
OnAt here r = servo_off r.drive.mode ≡ false → difference (whole r.profile.setpoint) here ≡ pos 0

module _ (here : ℕ) (h : here < 2 ^ 32) (r : Run) (was : servo_off r.drive.mode ≡ true) where
  -- off, as it was or newly
  unmoved : OnAt here r
  unmoved on = absurd (true≢false (sym was ∙ on))

  begins_here : difference (whole (beginning_at here r)) here ≡ pos 0
  unfolding beginning_at
  begins_here = rw was (at_here here h)

  started-here : (w : Way) (s : Settings) → OnAt here (started_by w here s r)
  unfolding idled to_speed to_place
  started-here Pulse s on = absurd (true≢false on)
  started-here Speed s on = begins_here
  started-here Move s on = begins_here

  halted-here : (k : Halt) (x : ℕ) → (k ≡ Here → ⊥) → OnAt here (halted_by k here x r)
  unfolding off idled holding smooth
  halted-here Keep x n = unmoved
  halted-here Release x n = λ on. absurd (true≢false on)
  halted-here Abrupt x n = λ on. at_here here h
  halted-here Smooth x n = rw was (λ on. absurd (true≢false on))
  halted-here Here x n = λ on. absurd (n refl)

-- the same of a servo
abbrev OnHere : Servo → Type 0
OnHere n = servo_off n.run.drive.mode ≡ false → following n ≡ pos 0

module _ (m : Servo) (was : servo_off m.run.drive.mode ≡ true) where
  stays_off : (n : Servo) → n.run.drive.mode ≡ m.run.drive.mode → OnHere n
  stays_off n e on = absurd (true≢false (sym was ∙ ap servo_off (sym e) ∙ on))

start-here : (m : Servo) → servo_off m.run.drive.mode ≡ true → OnHere (start m)
unfolding start
start-here m was = started-here (position m) (omega arith) m.run was m.settings.load.way m.settings

order-here : (c : Order) (m : Servo) → servo_off m.run.drive.mode ≡ true → ((a : Bool) (x : ℕ) → c ≡ Stop a Here x → ⊥) → OnHere (perform c m)
unfolding reset_position loaded stopped
order-here ResetPosition m was n = stays_off m was (reset_position m) refl
order-here (LoadTrajectory c) m was n =
    either OnHere (starts_now c) (start (loaded c m)) (loaded c m) (start-here (loaded c m) was) (stays_off m was (loaded c m) refl)
order-here Start m was n = start-here m was
order-here (SetGain t) m was n = stays_off m was (perform (SetGain t) m) refl
order-here (Stop a k x) m was n = halted-here (position m) (omega arith) m.run was k x (λ e. n a x (ap (λ (k : Halt). Stop a k x) e))
order-here (SetHoming b) m was n = stays_off m was (perform (SetHoming b) m) refl
order-here ClearBits m was n = stays_off m was (perform ClearBits m) refl

pub turns_on_here : TurnsOnHere
turns_on_here f alone m k n was = leaves OnHere f alone m (record {
  kept = λ s. stays_off m was (with_station s m) refl;
  renewed = λ d q on. absurd (true≢false on);
  performed = λ c d q t.
      order-here c m was (λ a x e. n a x d (q ∙ ap wants e) (ap (λ (c : Order). can c m) (sym e) ∙ t));
})
