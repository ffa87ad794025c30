-- Whether a load's values are good, what its bytes ask, and what it leaves. Assumes nothing.
use mathlib.Core.Path.{◌≡◌, refl, ap, ap₂, ◌∙◌}
use mathlib.Core.List.{List, [], ◌∷◌}
use mathlib.Core.Bool.{Bool, true, false, cond, not, ◌&&◌, ◌||◌}
use Prim.Native.Nat.{ℕ}
use borrow.Author.Tests.{eq-eqb, le-leb}
use lib.ListN.{length}
use lib.Dec.{leb}
use Rattle.base_integers.specs.Bits.{is_set}
use Rattle.base_layout.specs.Bytes.{of_le}
use Rattle.base_layout.proofs.Every.{hold_every}
use Rattle.module_rules.specs.declared.Fault.TheVariants.{Count, Value}
use Rattle.module_rules.specs.Commands.{asked}
use Rattle.module_rules.specs.Rules as AnyType
use Rattle.module_rules.specs.FramePromises.{undamaged}
use Rattle.stepper_rules.specs.declared.Carried.{Carried}
use Rattle.stepper_rules.specs.declared.Order.TheVariants.{LoadTrajectory}
use Rattle.stepper_rules.specs.declared.Stepper.{Stepper}
use Rattle.stepper_rules.specs.Carried.{needed, carried_in, is_speed, in_range}
use Rattle.stepper_rules.specs.Asks.{load_meant, own}
use Rattle.stepper_rules.specs.State.{with_settings, with_load}
use Rattle.stepper_rules.specs.Perform.{load_of, storing, loaded}
use Rattle.stepper_rules.specs.Answers.{stepper}
use Rattle.stepper_rules.specs.FramePromises.{Sent, load_bytes, GoodLoad, BadLoad, five, six, speed, time, stored_by}
use Rattle.stepper_rules.proofs.LoadBytes.{carried_is, load_count}
use Rattle.stepper_rules.proofs.Values.{is_speed_lem, no_speed}

module _ (control : ℕ) (s : Sent) where
  -- what such bytes carry
  abbrev pub carried : Carried
  carried = record {
    control = control;
    place = cond (is_set 0 control) (of_le (s.p0 ∷ s.p1 ∷ s.p2 ∷ s.p3 ∷ [])) 0;
    speed = cond (is_set 1 control) s.speed 0;
    time = cond (is_set 2 control) s.time 0;
    timer = cond (is_set 3 control) (of_le (s.u0 ∷ s.u1 ∷ s.u2 ∷ [])) 0;
  }

  -- the tests of their values
  abbrev no_five : Bool
  no_five = not (is_set 5 control)

  abbrev no_six : Bool
  no_six = not (is_set 6 control)

  abbrev good_speed : Bool
  good_speed = not (is_set 1 control) || is_speed (cond (is_set 1 control) s.speed 0)

  abbrev good_time : Bool
  good_time = not (is_set 2 control) || leb 1 (cond (is_set 2 control) s.time 0)

  pub good_range : GoodLoad control s → in_range carried ≡ true
  unfolding in_range
  good_range g =
      hold_every (no_five ∷ no_six ∷ good_speed ∷ good_time ∷ []) (ap not g.five, (ap not g.six, (pace (is_set 1 control) refl, (ramp (is_set 2 control) refl, tt))))
    where
      pace : (t : Bool) → is_set 1 control ≡ t → (not t || is_speed (cond t s.speed 0)) ≡ true
      pace true e = is_speed_lem s.speed (g.speed e).0 (g.speed e).1
      pace false e = refl

      ramp : (t : Bool) → is_set 2 control ≡ t → (not t || leb 1 (cond t s.time 0)) ≡ true
      ramp true e = le-leb 1 s.time (g.time e)
      ramp false e = refl

  -- one test that fails is enough
  first_fails : (a b c d : Bool) → a ≡ false → (a && b && c && d) ≡ false
  first_fails a b c d e = rw e refl

  second_fails : (a b c d : Bool) → b ≡ false → (a && b && c && d) ≡ false
  second_fails true b c d e = rw e refl
  second_fails false b c d e = refl

  third_fails : (a b c d : Bool) → c ≡ false → (a && b && c && d) ≡ false
  third_fails true true c d e = rw e refl
  third_fails true false c d e = refl
  third_fails false b c d e = refl

  last_fails : (a b c d : Bool) → d ≡ false → (a && b && c && d) ≡ false
  last_fails true true true d e = e
  last_fails true true false d e = refl
  last_fails true false c d e = refl
  last_fails false b c d e = refl

  pub bad_range : BadLoad control s → in_range carried ≡ false
  unfolding in_range
  bad_range (five e) = first_fails no_five no_six good_speed good_time (ap not e)
  bad_range (six e) = second_fails no_five no_six good_speed good_time (ap not e)
  bad_range (speed e h) =
      third_fails no_five no_six good_speed good_time (ap (λ (t : Bool). not t || is_speed (cond t s.speed 0)) e ∙ no_speed s.speed h)
  bad_range (time e h) =
      last_fails no_five no_six good_speed good_time (ap (λ (t : Bool). not t || leb 1 (cond t s.time 0)) e ∙ ap (leb 1) h)

  -- what they ask
  pub load_asks : (to : ℕ) (alone t : Bool) → in_range carried ≡ t
      → AnyType.request stepper (undamaged to 4 (load_bytes control s)) alone ≡ cond t (AnyType.wants (LoadTrajectory carried)) (AnyType.malformed Value)
  unfolding AnyType.request asked own load_meant
  load_asks to alone t e =
      let ds : List ℕ = load_bytes control s in
      ap (λ (b : Bool). cond b (cond (in_range (carried_in ds)) (AnyType.wants (LoadTrajectory (carried_in ds))) (AnyType.malformed Value)) (AnyType.malformed Count)) (eq-eqb (length ds) (needed control) (load_count control s).0)
      ∙ ap (λ (c : Carried). cond (in_range c) (AnyType.wants (LoadTrajectory c)) (AnyType.malformed Value)) (carried_is control s)
      ∙ ap (λ (b : Bool). cond b (AnyType.wants (LoadTrajectory carried)) (AnyType.malformed Value)) e

  -- a carried number is stored, and kept if it is not carried
  kept_twice : (t : Bool) (x y : ℕ) → cond t (cond t x 0) y ≡ cond t x y
  kept_twice true x y = refl
  kept_twice false x y = refl

  pub loaded_is : (m : Stepper)
      → loaded carried m
      ≡ with_settings (stored_by control s m.settings)
      (with_load
      (record { waits = true; backward = is_set 4 control; speed = cond (is_set 1 control) s.speed 0; time = cond (is_set 2 control) s.time 0 })
      m)
  unfolding loaded storing load_of
  loaded_is m =
      ap₂
      (λ (p u : ℕ). with_settings (record { amplifier = m.settings.amplifier; minimum = m.settings.minimum; place = p; timer = u }) (with_load (load_of carried) m))
      (kept_twice (is_set 0 control) _ m.settings.place) (kept_twice (is_set 3 control) _ m.settings.timer)
