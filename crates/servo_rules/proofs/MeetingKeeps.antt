-- What stays of a servo in what profile and filter meet. Assumes nothing.
use mathlib.Core.Path.{◌≡◌, refl, subst, ◌∙◌}
use mathlib.Core.Logic.{◌⊎◌, inl, inr}
use Rattle.servo_rules.specs.declared.Halt.{Halt}
use Rattle.servo_rules.specs.declared.Halt.TheVariants.{Abrupt, Here}
use Rattle.servo_rules.specs.declared.Drive.{Drive}
use Rattle.servo_rules.specs.declared.Run.{Run}
use Rattle.servo_rules.specs.declared.Sample.{Sample}
use Rattle.servo_rules.specs.declared.Servo.{Servo}
use Rattle.servo_rules.specs.Stops.{halted_by}
use Rattle.servo_rules.specs.Tick.{met}
use Rattle.servo_rules.specs.StopPromises.{Released}
use Rattle.servo_rules.specs.HomingPromises.{Acts}
use Rattle.servo_rules.proofs.Keeping.{Undriven, still, Keeps, off_keeps, halted_keeps, halted_released}
use Rattle.servo_rules.proofs.Meeting.{here, not_here, before, met_runs, by_power_lem}

module _ (x : Sample) (m : Servo) where
  -- what is off after the power stays off, unless an abrupt stop acts
  pub met_released : Released (before x m) → (Acts Abrupt x m → ⊥) → Released (met x m).run
  met_released k n = met_runs x m Released k (λ h a. halted_released h (here x m) 0 (before x m) k (λ q. holding h a q))
    where
      holding : (h : Halt) → Acts h x m → (h ≡ Abrupt) ⊎ (h ≡ Here) → ⊥
      holding h a (inl e) = n (subst (λ (h : Halt). Acts h x m) e a)
      holding h a (inr e) = not_here m.homing.byte (a.asked ∙ e)

  powered_keeps : Keeps m.run (before x m)
  powered_keeps = by_power_lem (Keeps m.run) x.power m.run (λ e. off_keeps m.run) (λ n. record {
    error = refl;
    amplifier = refl;
    undriven = still m.run.drive;
  })

  stop_keeps : (h : Halt) → Keeps (before x m) (halted_by h (here x m) 0 (before x m))
  stop_keeps h = halted_keeps h (here x m) 0 (before x m)

  -- error bit and amplifier bit stay
  pub met_error : (met x m).run.drive.error ≡ m.run.drive.error
  met_error =
      met_runs x m (λ (r : Run). r.drive.error ≡ m.run.drive.error) powered_keeps.error (λ h a. (stop_keeps h).error ∙ powered_keeps.error)

  pub met_amplifier : (met x m).run.drive.amplifier ≡ m.run.drive.amplifier
  met_amplifier =
      met_runs x m (λ (r : Run). r.drive.amplifier ≡ m.run.drive.amplifier) powered_keeps.amplifier
      (λ h a. (stop_keeps h).amplifier ∙ powered_keeps.amplifier)

  -- what holds of a drive, and of every one that output and cut bit were left to or taken from, holds of what is met
  pub met_undriven : (P : Drive → Type 0) → ((d e : Drive) → Undriven d e → P d → P e) → P m.run.drive → P (met x m).run.drive
  met_undriven P k p =
      let q : P (before x m).drive = k m.run.drive (before x m).drive powered_keeps.undriven p in
      met_runs x m (λ (r : Run). P r.drive) q
      (λ h a. k (before x m).drive (halted_by h (here x m) 0 (before x m)).drive (stop_keeps h).undriven q)
