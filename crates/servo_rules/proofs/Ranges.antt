-- What a start begins with is a setpoint, a tick keeps the profile's ranges, and a status byte is a byte. Assumes nothing.
use mathlib.Core.Bool.{Bool, true, false, cond}
use Prim.Native.Nat.{ℕ, ◌*◌, ◌^◌, ◌<◌, ◌≤◌}
use native.Mathlib.Nat.{le_refl}
use lib.Dec.{eqb}
use native.Mathlib.Omega.{arith}
use Rattle.servo_motion.specs.Profile.{Ranged}
use Rattle.servo_motion.proofs.Runs.{in_range}
use Rattle.module_rules.specs.Report.{cause_bit}
use Rattle.servo_rules.specs.declared.Mode.{Mode}
use Rattle.servo_rules.specs.declared.Mode.TheVariants.{Off, Pwm, Hold, Velocity, Trapezoid}
use Rattle.servo_rules.specs.declared.Run.{Run}
use Rattle.servo_rules.specs.declared.Servo.{Servo}
use Rattle.servo_rules.specs.State.{position, servo_off}
use Rattle.servo_rules.specs.Loads.{beginning_at, beginning}
use Rattle.servo_rules.specs.Tick.{advanced_by, advanced}
use Rattle.servo_rules.specs.Answers.{bit_at}

pick_small : (t : Bool) (x p : ℕ) → x < 2 ^ 32 → p < 2 ^ 48 → cond t (65536 * x) p < 2 ^ 48
pick_small true x p h k = omega arith
pick_small false x p h k = k

pub beginning_small : (m : Servo) → Ranged m.run.profile → beginning m < 2 ^ 48
unfolding beginning_at
beginning_small m r = pick_small (servo_off m.run.drive.mode) (position m) m.run.profile.setpoint (omega arith) r.setpoint

-- a tick's profile stays in range
pub advanced-ranged : (r : Run) → Ranged r.profile → Ranged (advanced r)
unfolding advanced
advanced-ranged r h = by r.drive.mode
  where
    by : (k : Mode) → Ranged (advanced_by k r.profile)
    by Off = h
    by Pwm = h
    by Hold = h
    by Velocity = (in_range r.profile h).1
    by Trapezoid = (in_range r.profile h).0

-- what the bits of a status byte come to
pub bit_most : (n : ℕ) (t : Bool) → bit_at n t ≤ n
bit_most n true = le_refl n
bit_most n false = omega arith

pub cause_bit_most : (c : ℕ) → cause_bit c ≤ 2
cause_bit_most c = at (eqb c 0)
  where
    at : (t : Bool) → cond t 0 2 ≤ 2
    at true = omega arith
    at false = omega arith
