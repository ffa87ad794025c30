-- The test that starts and stops make says what it tests. Assumes nothing.
use mathlib.Core.Path.{◌≡◌, refl}
use mathlib.Core.List.{[], ◌∷◌}
use mathlib.Core.Bool.{true, not}
use borrow.Author.Tests.{eqb-true, eq-eqb, not-true}
use Rattle.base_layout.proofs.Every.{every_hold}
use Rattle.servo_rules.specs.declared.Servo.{Servo}
use Rattle.servo_rules.specs.State.{powered, ready}
use Rattle.servo_rules.specs.LoadPromises.{Ready}

pub ready_is : (m : Servo) → ready m ≡ true → Ready m
ready_is m e =
    let t = every_hold (powered m ∷ not m.run.drive.error ∷ []) e in
    (eqb-true _ _ t.0, not-true _ t.1.0)

pub is_ready : (m : Servo) → Ready m → ready m ≡ true
is_ready m h = rw (eq-eqb _ _ h.0, h.1) refl
