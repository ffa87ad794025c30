-- When a move is done. Assumes nothing.
use mathlib.Core.Path.{◌≡◌, refl, sym, subst}
use mathlib.Core.Logic.{◌↔◌}
use mathlib.Core.List.{[], ◌∷◌}
use mathlib.Core.Bool.{true}
use lib.IntN.{pos}
use Rattle.base_integers.specs.Whole.{same}
use Rattle.base_integers.proofs.Same.{same_eq, eq_same}
use Rattle.base_layout.proofs.Every.{every_hold, hold_every}
use Rattle.servo_motion.specs.Profile.{left}
use Rattle.servo_rules.specs.declared.Mode.{Mode}
use Rattle.servo_rules.specs.declared.Mode.TheVariants.{Off, Pwm, Hold, Velocity, Trapezoid}
use Rattle.servo_rules.specs.declared.Run.{Run}
use Rattle.servo_rules.specs.Loads.{at_rest}
use Rattle.servo_rules.specs.Answers.{done_by, done}
use Rattle.servo_rules.specs.Promises.{MoveDone}

module _ (r : Run) where
  at_speed : (done_by Velocity r ≡ true) ↔ (r.profile.speed ≡ r.profile.aim)
  at_speed = (same_eq _ _, eq_same _ _)

  arrived : (done_by Trapezoid r ≡ true) ↔ ((left r.profile ≡ pos 0) × (r.profile.speed ≡ pos 0))
  arrived = (
    λ e. let h = every_hold (same (left r.profile) (pos 0) ∷ at_rest r ∷ []) e in (same_eq _ _ h.0, same_eq _ _ h.1.0),
    λ p. hold_every (same (left r.profile) (pos 0) ∷ at_rest r ∷ []) (eq_same _ _ p.0, (eq_same _ _ p.1, tt)),
  )

  otherwise : (k : Mode) → r.drive.mode ≡ k → (r.drive.mode ≡ Velocity → ⊥) → (r.drive.mode ≡ Trapezoid → ⊥) → done_by k r ≡ true
  otherwise Off e v t = refl
  otherwise Pwm e v t = refl
  otherwise Hold e v t = refl
  otherwise Velocity e v t = absurd (v e)
  otherwise Trapezoid e v t = absurd (t e)

pub move_done : MoveDone
unfolding done
move_done m = record {
  velocity = λ e. subst (λ (k : Mode). (done_by k m.run ≡ true) ↔ (m.run.profile.speed ≡ m.run.profile.aim)) (sym e) (at_speed m.run);
  trapezoid = λ e.
      subst (λ (k : Mode). (done_by k m.run ≡ true) ↔ ((left m.run.profile ≡ pos 0) × (m.run.profile.speed ≡ pos 0)))
      (sym e) (arrived m.run);
  others = otherwise m.run m.run.drive.mode refl;
}
