-- What a load's bytes store, and what they start. Assumes nothing.
use mathlib.Core.Path.{◌≡◌, refl, sym, ap, subst, ◌∙◌}
use mathlib.Core.List.{List}
use mathlib.Core.Bool.{Bool, true, false, cond, not, ◌||◌}
use Prim.Native.Nat.{ℕ, ◌≤◌, zero-le}
use native.Mathlib.Omega.{arith}
use Rattle.base_integers.specs.Bits.{is_set}
use Rattle.base_layout.specs.Bytes.{of_le}
use Rattle.line_receiver.specs.Frames.{Frame}
use Rattle.module_rules.specs.Rules.{wants, asking}
use Rattle.module_rules.proofs.Settled.{cause}
use Rattle.servo_motion.specs.Profile.{fastest}
use Rattle.servo_rules.specs.declared.Carried.{Carried}
use Rattle.servo_rules.specs.declared.Order.TheVariants.{LoadTrajectory}
use Rattle.servo_rules.specs.declared.Servo.{Servo}
use Rattle.servo_rules.specs.Carried.{in_range}
use Rattle.servo_rules.specs.Asks.{load_meant}
use Rattle.servo_rules.specs.Loads.{load_of, rates_of, loaded, startable, signed_by, start}
use Rattle.servo_rules.specs.Perform.{can}
use Rattle.servo_rules.specs.Answers.{servo, request, with_cause, execute}
use Rattle.servo_rules.specs.BytePromises.{load_bytes, LoadFrame, Rated, LoadStored, LoadStores, LoadBegun, LoadStarts}
use Rattle.servo_rules.proofs.Bounds.{load_range}
use Rattle.servo_rules.proofs.Taken.{load_read}
use Rattle.servo_rules.proofs.Coding.{codes}
use Rattle.servo_rules.proofs.Keeping.{by_test}
use Rattle.servo_rules.proofs.Apart.{apart}
use Rattle.servo_rules.proofs.Loading.{ways}
use Rattle.servo_rules.proofs.Starting.{begins}
use Rattle.servo_rules.proofs.LoadParts.{length-load, carried_parts}

-- what is carried, and kept if it is
kept_twice : (t : Bool) (x y z : ℕ) → cond t (cond t x z) y ≡ cond t x y
kept_twice true x y z = refl
kept_twice false x y z = refl

module _ (c : ℕ) (p v a : List ℕ) (u : ℕ) where
  -- what such a load carries
  abbrev carried : Carried
  carried = record {
    control = c;
    place = cond (is_set 0 c) (of_le p) 0;
    velocity = cond (is_set 1 c) (of_le v) 0;
    acceleration = cond (is_set 2 c) (of_le a) 0;
    pulse = cond (is_set 3 c) u 0;
  }

  module _ (m : Servo) where
    rated : Rated c v a m.settings.rates (loaded carried m).settings.rates
    unfolding loaded rates_of
    rated = record {
      velocity = kept_twice (is_set 1 c) (of_le v) m.settings.rates.velocity 0;
      acceleration = kept_twice (is_set 2 c) (of_le a) m.settings.rates.acceleration 0;
      paced = refl;
      ramped = refl;
    }

    stored : LoadStored c p v a u m (with_cause 0 (loaded carried m))
    unfolding loaded load_of
    stored = record {
      cause = refl;
      waits = refl;
      placed = refl;
      place = λ e. rw e refl;
      pulsed = refl;
      pulse = λ e. rw e refl;
      pwm = (ways c).0;
      speed = (ways c).1;
      move = (ways c).2;
      reverse = refl;
      rates = rated;
    }

    begun : LoadBegun c p v a u m (with_cause 0 (start (loaded carried m)))
    unfolding start loaded load_of signed_by
    begun =
        let b = begins (loaded carried m) in
        record {
          used = refl;
          rates = rated;
          pwm = λ w e. let s = b.pulse ((ways c).0 w) in (s.0, s.1 ∙ ap (λ (t : Bool). signed_by (is_set 6 c) (cond t u 0)) e);
          speed = λ w x. let s = b.speed ((ways c).1 w x) in (s.0, s.1, s.2);
          move = λ w x e.
              let s = b.move ((ways c).2 w x) in
              (s.0, s.1 ∙ ap (λ (t : Bool). cond t (of_le p) 0) e, s.3, s.2);
        }

  module _ (f : Frame) (alone : Bool) (m : Servo) (l : LoadFrame c p v a u f) where
    in-range : in_range carried ≡ true
    in-range = (load_range carried).1 (
      by_test (λ (x : ℕ). x ≤ fastest) (is_set 1 c) (of_le v) 0 l.velocity (λ e. zero-le),
      by_test (λ (x : ℕ). x ≤ fastest) (is_set 2 c) (of_le a) 0 (λ e. (l.acceleration e).1) (λ e. zero-le),
      λ e. subst (λ (t : Bool). 1 ≤ cond t (of_le a) 0) (sym e) (l.acceleration e).0,
    )

    asks : request f alone ≡ wants (LoadTrajectory carried)
    asks =
        let e = carried_parts c p v a u l.fours in
        (codes f alone).load l.code
        ∙ ap (λ (ds : List ℕ). asking ds (load_meant ds)) l.content
        ∙ (load_read (load_bytes c p v a u)).read (length-load c p v a u l.fours) (ap in_range e ∙ in-range)
        ∙ ap (λ (x : Carried). wants (LoadTrajectory x)) e

    -- without bit 7 it waits; with bit 7 it starts, if it is executed
    waits : is_set 7 c ≡ false → execute f alone m ≡ with_cause 0 (loaded carried m)
    waits s =
        (cause servo apart f alone m).executed (LoadTrajectory carried) l.sound asks (ap (λ (t : Bool). not t || startable (loaded carried m)) s)
        ∙ ap (λ (t : Bool). with_cause 0 (cond t (start (loaded carried m)) (loaded carried m))) s

    runs : is_set 7 c ≡ true → (execute f alone m).station.cause ≡ 0 → execute f alone m ≡ with_cause 0 (start (loaded carried m))
    runs s z = by (can (LoadTrajectory carried) m) refl
      where
        by : (t : Bool) → can (LoadTrajectory carried) m ≡ t → execute f alone m ≡ with_cause 0 (start (loaded carried m))
        by true t =
            (cause servo apart f alone m).executed (LoadTrajectory carried) l.sound asks t
            ∙ ap (λ (t : Bool). with_cause 0 (cond t (start (loaded carried m)) (loaded carried m))) s
        by false t =
            let three = ap (λ (n : Servo). n.station.cause) ((cause servo apart f alone m).not_now (LoadTrajectory carried) l.sound asks t) in
            absurd (omega arith)

pub load_stores : LoadStores
load_stores c p v a u f alone m l s = subst (LoadStored c p v a u m) (sym (waits c p v a u f alone m l s)) (stored c p v a u m)

pub load_starts : LoadStarts
load_starts c p v a u f alone m l s z = subst (LoadBegun c p v a u m) (sym (runs c p v a u f alone m l s z)) (begun c p v a u m)
