-- What holds of each servo that a frame can leave holds of the one that it leaves. Assumes nothing.
use mathlib.Core.Path.{◌≡◌, refl}
use mathlib.Core.Bool.{Bool, true, false}
use Rattle.line_receiver.specs.Frames.{Frame}
use Rattle.module_rules.specs.declared.Station.{Station}
use Rattle.module_rules.specs.Commands.{applied, caused}
use Rattle.module_rules.specs.Rules as AnyType
use Rattle.module_rules.specs.Rules.{Request, malformed, set, reset, wants, fault_cause, settled}
use Rattle.servo_rules.specs.declared.Order.{Order}
use Rattle.servo_rules.specs.declared.Servo.{Servo}
use Rattle.servo_rules.specs.State.{with_station}
use Rattle.servo_rules.specs.Perform.{can, perform}
use Rattle.servo_rules.specs.Answers.{servo, request, with_cause, execute}
use Rattle.servo_rules.proofs.Keeping.{by_test}

-- P where nothing but the station changes, after Hard Reset, and after each order that is carried out
pub record Leaves (P : Servo → Type 0) (f : Frame) (alone : Bool) (m : Servo) : Type 0 where
  pub kept : (s : Station) → P (with_station s m)
  pub renewed : f.damaged ≡ false → request f alone ≡ reset → P (with_cause 0 (servo.renewed m))
  pub performed : (c : Order) → f.damaged ≡ false → request f alone ≡ wants c → can c m ≡ true → P (with_cause 0 (perform c m))

pub leaves : (P : Servo → Type 0) (f : Frame) (alone : Bool) (m : Servo) → Leaves P f alone m → P (execute f alone m)
unfolding AnyType.execute
leaves P f alone m e =
    by_test P f.damaged (with_cause 1 m) (settled servo (request f alone) m)
    (λ d. e.kept (caused 1 m.station))
    (λ d. by (request f alone) d refl)
  where
    by : (q : Request Order) → f.damaged ≡ false → request f alone ≡ q → P (settled servo q m)
    by (malformed x) d g = e.kept (caused (fault_cause x) m.station)
    by (set s) d g = e.kept (caused 0 (applied s m.station))
    by reset d g = e.renewed d g
    by (wants c) d g =
        by_test P (can c m) (with_cause 0 (perform c m)) (with_cause 3 m) (e.performed c d g) (λ t. e.kept (caused 3 m.station))
