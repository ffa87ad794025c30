-- A step of what is at rest leaves its profile as it is. Assumes nothing.
use mathlib.Core.Path.{◌≡◌, refl, sym, ap, ap₂, ◌∙◌}
use Prim.Native.Nat.{ℕ, zero, suc, ◌+◌, ◌%◌, ◌^◌, ◌≤◌, ◌<◌, zero-le}
use native.Mathlib.Nat.{zero-sub}
use native.Mathlib.Omega.{arith}
use lib.IntN.{ℤ, pos, nat_abs}
use Rattle.base_integers.proofs.Parts.{parts_same, parts_size}
use Rattle.servo_motion.specs.declared.Profile.{Profile}
use Rattle.servo_motion.specs.Trapezoid.{next_speed}
use Rattle.servo_motion.specs.Setpoint.{moved}
use Rattle.servo_motion.specs.Velocity.{toward}
use Rattle.servo_motion.specs.Profile.{trapezoid, stepped, by_trapezoid, by_velocity}
use Rattle.servo_motion.specs.Promises.{CanStop}
use Rattle.servo_motion.proofs.Stopping.{stop_zero}
use Rattle.servo_motion.proofs.Speeds.{next, still_stops}
use Rattle.servo_motion.proofs.Velocity.{toward_most}
use Rattle.servo_rules.specs.declared.Mode.{Mode}
use Rattle.servo_rules.specs.declared.Mode.TheVariants.{Off, Pwm, Hold, Velocity, Trapezoid}
use Rattle.servo_rules.specs.declared.Run.{Run}
use Rattle.servo_rules.specs.Tick.{advanced_by, advanced}
use Rattle.servo_rules.specs.RestPromises.{Rests}

-- at rest and at the goal a trapezoid's next speed is 0
can-rest : (a top : ℕ) → CanStop a top 0 0
can-rest a top = record { slow = zero-le; room = rw (zero-sub, stop_zero) zero-le }

trapezoid-rest : (a top : ℕ) → next_speed a top 0 0 ≡ 0
trapezoid-rest zero top = let g = next zero top 0 0 (can-rest zero top) in omega (arith, g.to)
trapezoid-rest (suc a) top = omega (arith, (still_stops (suc a) top 0 0 (omega arith) (can-rest (suc a) top)).0)

-- and so is velocity mode's toward 0
no_size : (z : ℤ) → nat_abs z ≤ 0 → z ≡ pos 0
no_size z h = parts_same z (pos 0) (omega (arith, parts_size z))

toward-rest : (a : ℕ) → toward a (pos 0) (pos 0) ≡ pos 0
toward-rest a = no_size _ (toward_most a (pos 0) (pos 0) 0 zero-le zero-le)

-- a step of speed 0 leaves a profile at rest
step-rest : (p : Profile) → p.setpoint < 2 ^ 48 → p.speed ≡ pos 0 → stepped p (pos 0) ≡ p
unfolding stepped moved
step-rest p h e =
    let s : (p.setpoint + 0) % 2 ^ 48 ≡ p.setpoint = omega arith in
    ap₂ (λ (s : ℕ) (v : ℤ). record { setpoint = s; speed = v; goal = p.goal; aim = p.aim; acceleration = p.acceleration; top = p.top }) s (sym e)

-- what runs is at rest
abbrev pub Still : Run → Type 0
Still r = Rests r.profile r.drive.mode r.drive.pulse

module _ (r : Run) (h : r.profile.setpoint < 2 ^ 48) (still : Still r) where
  pub rest-advanced : advanced r ≡ r.profile
  unfolding advanced by_velocity by_trapezoid trapezoid
  rest-advanced = by r.drive.mode refl
    where
      p : Profile
      p = r.profile

      by : (k : Mode) → r.drive.mode ≡ k → advanced_by k p ≡ p
      by Off q = refl
      by Pwm q = refl
      by Hold q = refl
      by Velocity q =
          ap (stepped p) (ap₂ (toward p.acceleration) (still.aim q) still.speed ∙ toward-rest p.acceleration) ∙ step-rest p h still.speed
      by Trapezoid q =
          ap (stepped p) (ap₂ (trapezoid p.acceleration p.top) (still.goal q) still.speed ∙ ap pos (trapezoid-rest p.acceleration p.top))
          ∙ step-rest p h still.speed
