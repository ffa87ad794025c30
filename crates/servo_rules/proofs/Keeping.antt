-- What every start and every stop leave: error bit and amplifier bit, and output and cut bit but for going off and PWM; and what off is. Assumes nothing.
use mathlib.Core.Path.{◌≡◌, refl, sym, ap, ◌∙◌}
use mathlib.Core.Logic.{◌⊎◌, inl, inr}
use mathlib.Core.Bool.{Bool, true, false, cond, false≢true}
use Prim.Native.Nat.{ℕ}
use borrow.Author.Tests.{eqb-false}
use lib.Dec.{eqb}
use lib.IntN.{pos}
use Rattle.servo_rules.specs.declared.Halt.{Halt}
use Rattle.servo_rules.specs.declared.Halt.TheVariants.{Keep, Release, Abrupt, Smooth, Here}
use Rattle.servo_rules.specs.declared.Mode.{Mode}
use Rattle.servo_rules.specs.declared.Mode.TheVariants.{Off, Pwm, Hold, Velocity, Trapezoid}
use Rattle.servo_rules.specs.declared.Way.{Way}
use Rattle.servo_rules.specs.declared.Way.TheVariants.{Pulse, Speed, Move}
use Rattle.servo_rules.specs.declared.Settings.{Settings}
use Rattle.servo_rules.specs.declared.Drive.{Drive}
use Rattle.servo_rules.specs.declared.Run.{Run}
use Rattle.servo_rules.specs.State.{servo_off, idled, off}
use Rattle.servo_rules.specs.Loads.{servoing, to_speed, to_place, started_by}
use Rattle.servo_rules.specs.Stops.{holding, smooth, halted_by}
use Rattle.servo_rules.specs.StopPromises.{Released}

-- of one or another, by a test, with what it tells or without
pub by_test : {A : Type 0} (P : A → Type 0) (t : Bool) (n k : A) → (t ≡ true → P n) → (t ≡ false → P k) → P (cond t n k)
by_test P true n k h g = h refl
by_test P false n k h g = g refl

pub either : {A : Type 0} (P : A → Type 0) (t : Bool) (n k : A) → P n → P k → P (cond t n k)
either P t n k h g = by_test P t n k (λ e. h) (λ e. g)

-- output and cut bit as they were, and not newly off; or 0 in a mode with the servo off
abbrev pub Undriven : Drive → Drive → Type 0
Undriven d e =
    ((e.output ≡ d.output) × (e.cut ≡ d.cut) × (e.mode ≡ Off → d.mode ≡ Off) × (servo_off e.mode ≡ true → servo_off d.mode ≡ true))
    ⊎ ((e.output ≡ pos 0) × (e.cut ≡ false) × (servo_off e.mode ≡ true))

pub still : (d : Drive) → Undriven d d
still d = inl (refl, refl, λ e. e, λ e. e)

-- a mode with the servo on is not off
pub not_off : (k : Mode) → servo_off k ≡ false → k ≡ Off → ⊥
not_off k s e = false≢true (sym s ∙ ap servo_off e)

-- modes with different numbers are different
abbrev pub number : Mode → ℕ
number Off = 0
number Pwm = 1
number Hold = 2
number Velocity = 3
number Trapezoid = 4

pub distinct : (j k : Mode) → eqb (number j) (number k) ≡ false → j ≡ k → ⊥
distinct j k s e = eqb-false _ _ s (ap number e)

-- so it is of a servo that is on now
on-driven : (k : Mode) (d : Drive) → servo_off k ≡ false → Undriven d (servoing k d)
on-driven k d n = inl (refl, refl, λ e. absurd (not_off k n e), λ e. absurd (false≢true (sym n ∙ e)))

pub record Keeps (r s : Run) : Type 0 where
  pub error : s.drive.error ≡ r.drive.error
  pub amplifier : s.drive.amplifier ≡ r.drive.amplifier
  pub undriven : Undriven r.drive s.drive

pub started_keeps : (w : Way) (here : ℕ) (s : Settings) (r : Run) → Keeps r (started_by w here s r)
unfolding idled to_speed to_place
started_keeps Pulse here s r = record { error = refl; amplifier = refl; undriven = inr (refl, refl, refl) }
started_keeps Speed here s r = record { error = refl; amplifier = refl; undriven = on-driven Velocity r.drive refl }
started_keeps Move here s r = record { error = refl; amplifier = refl; undriven = on-driven Trapezoid r.drive refl }

pub off_released : (r : Run) → Released (off r)
unfolding off idled
off_released r = record { mode = refl; speed = refl; output = refl; pulse = refl; cut = refl; memory = refl }

pub off_keeps : (r : Run) → Keeps r (off r)
unfolding off idled
off_keeps r = record { error = refl; amplifier = refl; undriven = inr (refl, refl, refl) }

smooth_keeps : (r : Run) → Keeps r (smooth r)
unfolding smooth to_speed
smooth_keeps r = either (Keeps r) (servo_off r.drive.mode) (off r) (to_speed r.profile.setpoint (pos 0) r.profile.acceleration r)
    (off_keeps r)
    (record { error = refl; amplifier = refl; undriven = on-driven Velocity r.drive refl })

holding_keeps : (x : ℕ) (r : Run) → Keeps r (holding x r)
unfolding holding
holding_keeps x r = record { error = refl; amplifier = refl; undriven = on-driven Hold r.drive refl }

pub halted_keeps : (h : Halt) (here x : ℕ) (r : Run) → Keeps r (halted_by h here x r)
halted_keeps Keep here x r = record { error = refl; amplifier = refl; undriven = still r.drive }
halted_keeps Release here x r = off_keeps r
halted_keeps Abrupt here x r = holding_keeps here r
halted_keeps Smooth here x r = smooth_keeps r
halted_keeps Here here x r = holding_keeps x r

-- a stop that does not hold leaves off what is off
smooth_released : (r : Run) → r.drive.mode ≡ Off → Released (smooth r)
unfolding smooth
smooth_released r e = rw (ap servo_off e) (off_released r)

pub halted_released : (h : Halt) (here x : ℕ) (r : Run) → Released r → ((h ≡ Abrupt) ⊎ (h ≡ Here) → ⊥) → Released (halted_by h here x r)
halted_released Keep here x r q n = q
halted_released Release here x r q n = off_released r
halted_released Abrupt here x r q n = absurd (n (inl refl))
halted_released Smooth here x r q n = smooth_released r q.mode
halted_released Here here x r q n = absurd (n (inr refl))
