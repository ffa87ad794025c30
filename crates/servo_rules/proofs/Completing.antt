-- What makes a load complete, by its mode. Assumes nothing.
use mathlib.Core.Path.{◌≡◌, refl, sym, ap, ap₂, ◌∙◌}
use mathlib.Core.List.{List, [], ◌∷◌}
use mathlib.Core.Bool.{Bool, true, not, ◌&&◌}
use Prim.Native.Nat.{◌^◌}
use borrow.Author.Tests.{ltb-true, lt-ltb, eqb-false, ne_eqb, not-true}
use lib.Dec.{eqb, ltb}
use Rattle.base_layout.proofs.Every.{every_hold, hold_every}
use Rattle.base_integers.specs.Whole.{less}
use Rattle.servo_motion.specs.Setpoint.{whole}
use Rattle.servo_rules.specs.declared.Way.{Way}
use Rattle.servo_rules.specs.declared.Way.TheVariants.{Pulse, Speed, Move}
use Rattle.servo_rules.specs.declared.Servo.{Servo}
use Rattle.servo_rules.specs.Loads.{beginning, at_rest, movable, complete_by}
use Rattle.servo_rules.specs.LoadPromises.{Movable, Completes, Complete}
use Rattle.base_integers.proofs.Same.{same_eq, eq_same}
use Rattle.servo_rules.proofs.Starting.{complete_is}

-- the five tests of a trapezoid's load
abbrev tests : Servo → List Bool
tests m =
    (m.settings.rates.paced && m.settings.rates.ramped)
    ∷ m.settings.load.placed
    ∷ ltb 0 m.settings.rates.velocity
    ∷ at_rest m.run
    ∷ not (eqb (less m.settings.load.place (whole (beginning m))) (2 ^ 31))
    ∷ []

movable_is : (m : Servo) → movable m ≡ true → Movable m
unfolding movable
movable_is m e =
    let t = every_hold (tests m) e in
    let r = every_hold (m.settings.rates.paced ∷ m.settings.rates.ramped ∷ []) t.0 in
    record {
      paced = r.0;
      ramped = r.1.0;
      placed = t.1.0;
      fast = ltb-true _ _ t.1.1.0;
      still = same_eq _ _ t.1.1.1.0;
      near = eqb-false _ _ (not-true _ t.1.1.1.1.0);
    }

is_movable : (m : Servo) → Movable m → movable m ≡ true
unfolding movable
is_movable m r =
    hold_every (tests m)
    (ap₂ ◌&&◌ r.paced r.ramped, (r.placed, (lt-ltb _ _ r.fast, (eq_same _ _ r.still, (ap not (ne_eqb _ _ r.near), tt)))))

pub complete : Complete
complete m = (λ e. there m.settings.load.way (sym (complete_is m) ∙ e), λ h. complete_is m ∙ back m.settings.load.way h)
  where
    there : (w : Way) → complete_by w m ≡ true → Completes w m
    there Pulse e = e
    there Speed e = let t = every_hold (m.settings.rates.paced ∷ m.settings.rates.ramped ∷ []) e in (t.0, t.1.0)
    there Move e = movable_is m e

    back : (w : Way) → Completes w m → complete_by w m ≡ true
    back Pulse h = h
    back Speed h = rw (h.0, h.1) refl
    back Move h = is_movable m h
