-- Only Stop Here puts the setpoint elsewhere than at the position or where it was. Assumes nothing.
use mathlib.Core.Path.{◌≡◌, refl, sym, ap, ◌∙◌}
use mathlib.Core.Logic.{◌⊎◌, inl, inr}
use mathlib.Core.Bool.{Bool}
use Prim.Native.Nat.{ℕ, ◌^◌, ◌<◌}
use native.Mathlib.Omega.{arith}
use lib.IntN.{pos}
use Rattle.base_integers.specs.Whole.{less, signed, difference}
use Rattle.module_rules.specs.Rules.{wants}
use Rattle.servo_motion.specs.Setpoint.{whole}
use Rattle.servo_rules.specs.declared.Halt.{Halt}
use Rattle.servo_rules.specs.declared.Halt.TheVariants.{Keep, Release, Abrupt, Smooth, Here}
use Rattle.servo_rules.specs.declared.Order.{Order}
use Rattle.servo_rules.specs.declared.Order.TheVariants.{ResetPosition, LoadTrajectory, Start, SetGain, Stop, SetHoming, ClearBits}
use Rattle.servo_rules.specs.declared.Way.{Way}
use Rattle.servo_rules.specs.declared.Way.TheVariants.{Pulse, Speed, Move}
use Rattle.servo_rules.specs.declared.Settings.{Settings}
use Rattle.servo_rules.specs.declared.Run.{Run}
use Rattle.servo_rules.specs.declared.Servo.{Servo}
use Rattle.servo_rules.specs.State.{position, setpoint_at, servo_off, idled, off}
use Rattle.servo_rules.specs.Loads.{loaded, starts_now, beginning_at, to_speed, to_place, started_by, start}
use Rattle.servo_rules.specs.Stops.{holding, smooth, halted_by}
use Rattle.servo_rules.specs.Perform.{reset_position, stopped, can, perform}
use Rattle.servo_rules.specs.StopPromises.{Counted}
use Rattle.servo_rules.specs.RestPromises.{following, OnlyHere}
use Rattle.servo_rules.proofs.Keeping.{either}
use Rattle.servo_rules.proofs.Framed.{leaves}
use Rattle.servo_rules.proofs.Shifting.{resets_position}
use Rattle.servo_rules.proofs.Shown.{less_self}

-- the setpoint as far from the position as it was, or at the position
abbrev Placed : Servo → Servo → Type 0
Placed m n = (following n ≡ following m) ⊎ (following n ≡ pos 0)

-- the same of a setpoint and a position that stays here
module _ (here : ℕ) (h : here < 2 ^ 32) where
  abbrev Beside : ℕ → ℕ → Type 0
  Beside before setpoint =
      (difference (whole setpoint) here ≡ difference (whole before) here) ⊎ (difference (whole setpoint) here ≡ pos 0)

  pub at_here : difference (whole (setpoint_at here)) here ≡ pos 0
  unfolding difference signed
  at_here = let w : whole (setpoint_at here) ≡ here = omega arith in ap signed (ap (λ (w : ℕ). less w here) w ∙ less_self here h)

  begin_beside : (r : Run) → Beside r.profile.setpoint (beginning_at here r)
  unfolding beginning_at
  begin_beside r =
      either (Beside r.profile.setpoint) (servo_off r.drive.mode) (setpoint_at here) r.profile.setpoint (inr at_here) (inl refl)

  started_beside : (w : Way) (s : Settings) (r : Run) → Beside r.profile.setpoint (started_by w here s r).profile.setpoint
  unfolding idled to_speed to_place
  started_beside Pulse s r = inl refl
  started_beside Speed s r = begin_beside r
  started_beside Move s r = begin_beside r

  halted_beside : (k : Halt) (x : ℕ) (r : Run) → (k ≡ Here → ⊥) → Beside r.profile.setpoint (halted_by k here x r).profile.setpoint
  unfolding off idled holding smooth to_speed
  halted_beside Keep x r n = inl refl
  halted_beside Release x r n = inl refl
  halted_beside Abrupt x r n = inr at_here
  halted_beside Smooth x r n =
      either (λ (s : Run). Beside r.profile.setpoint s.profile.setpoint)
      (servo_off r.drive.mode) (off r) (to_speed r.profile.setpoint (pos 0) r.profile.acceleration r)
      (inl refl) (inl refl)
  halted_beside Here x r n = absurd (n refl)

start_placed : (m : Servo) → Placed m (start m)
unfolding start
start_placed m = started_beside (position m) (omega arith) m.settings.load.way m.settings m.run

order_placed : (c : Order) (m : Servo) → Counted m → ((a : Bool) (x : ℕ) → c ≡ Stop a Here x → ⊥) → Placed m (perform c m)
unfolding reset_position loaded stopped
order_placed ResetPosition m k n = inl (resets_position m k).following
order_placed (LoadTrajectory c) m k n = either (Placed m) (starts_now c) (start (loaded c m)) (loaded c m) (start_placed (loaded c m)) (inl refl)
order_placed Start m k n = start_placed m
order_placed (SetGain t) m k n = inl refl
order_placed (Stop a h x) m k n = halted_beside (position m) (omega arith) h x m.run (λ e. n a x (ap (λ (h : Halt). Stop a h x) e))
order_placed (SetHoming b) m k n = inl refl
order_placed ClearBits m k n = inl refl

pub only_here : OnlyHere
unfolding difference signed
only_here f alone m k n = leaves (Placed m) f alone m (record {
  kept = λ s. inl refl;
  renewed = λ d q. inr (ap (difference 0) (less_self m.latched.raw k.raw));
  performed = λ c d q t.
      order_placed c m k (λ a x e. n a x d (q ∙ ap wants e) (ap (λ (c : Order). can c m) (sym e) ∙ t));
})
