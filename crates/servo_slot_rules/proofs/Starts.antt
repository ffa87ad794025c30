-- Loads and starts leave a servo such as a slot can hold. Assumes nothing.
use mathlib.Core.Path.{◌≡◌, refl}
use mathlib.Core.List.{List, [], ◌∷◌}
use mathlib.Core.Bool.{Bool, true, false, cond, not, ◌||◌}
use Prim.Native.Nat.{ℕ, ◌^◌, ◌<◌, ◌≤◌}
use native.Mathlib.Omega.{arith}
use borrow.Author.Tests.{eqb-false, not-true}
use lib.Dec.{eqb, ltb}
use lib.IntN.{ℤ, pos, nat_abs}
use Rattle.base_integers.specs.Bits.{is_set}
use Rattle.base_integers.specs.Whole.{less}
use Rattle.base_integers.proofs.Same.{same_eq}
use Rattle.base_layout.specs.Bytes.{Bytes}
use Rattle.base_layout.proofs.Every.{every_hold}
use Rattle.servo_motion.specs.Profile.{fastest}
use Rattle.servo_motion.specs.Setpoint.{whole}
use Rattle.servo_motion.proofs.Runs.{rest}
use Rattle.servo_rules.specs.declared.Carried.{Carried}
use Rattle.servo_rules.specs.declared.Order.TheVariants.{LoadTrajectory}
use Rattle.servo_rules.specs.declared.Rates.{Rates}
use Rattle.servo_rules.specs.declared.Way.{Way}
use Rattle.servo_rules.specs.declared.Way.TheVariants.{Pulse, Speed, Move}
use Rattle.servo_rules.specs.declared.Mode.TheVariants.{Pwm}
use Rattle.servo_rules.specs.declared.Settings.{Settings}
use Rattle.servo_rules.specs.declared.Run.{Run}
use Rattle.servo_rules.specs.declared.Servo.{Servo}
use Rattle.servo_rules.specs.Carried.{carried_in, in_range}
use Rattle.servo_rules.specs.AskPromises.{LoadRanged}
use Rattle.servo_rules.specs.State.{position, ready, idled}
use Rattle.servo_rules.specs.Loads.{load_of, rates_of, loaded, starts_now, beginning, at_rest, movable, complete_by, complete, startable, to_speed, to_place, started_by, start}
use Rattle.servo_rules.specs.Perform.{can, perform}
use Rattle.servo_rules.proofs.Bounds.{load_range, fit}
use Rattle.servo_rules.proofs.Signs.{signed_size}
use Rattle.servo_rules.proofs.Keeping.{either}
use Rattle.servo_rules.proofs.Ranges.{beginning_small}
use Rattle.servo_slot_rules.proofs.Good as Fit
use Rattle.servo_slot_rules.proofs.Modes.{Live}
use Rattle.servo_slot_rules.proofs.Good.{Rated, Sane, Good, rates_fit_lem}
use Rattle.servo_slot_rules.proofs.Replaced.{settings-good, run-good, dropped_fits, idle, idled_sane, ready-live}

-- ---- starts

module _ {power : ℕ} {r : Run} (s : Sane power r) (l : Live power r.drive.error) where
  pub to_speed_sane : (x : ℕ) (aim : ℤ) (a : ℕ) → x < 2 ^ 48 → nat_abs aim ≤ fastest → a ≤ fastest → Sane power (to_speed x aim a r)
  unfolding to_speed
  to_speed_sane x aim a h i k =
      let p = s.profile in
      record {
        profile = record { setpoint = h; speed = p.speed; goal = p.goal; aim = i; acceleration = k; top = p.top };
        memory = s.memory;
        pulse = omega arith;
        output = s.output;
        powerless = s.powerless;
        mode = (refl, l);
      }

  to_place_sane : (x goal a top : ℕ) → x < 2 ^ 48 → goal < 2 ^ 32 → 0 < a → a ≤ fastest → top ≤ fastest → r.profile.speed ≡ pos 0
      → (less goal (whole x) ≡ 2 ^ 31 → ⊥) → Sane power (to_place x goal a top r)
  unfolding to_place
  to_place_sane x goal a top h i f k j e n =
      let p = s.profile in
      record {
        profile = record { setpoint = h; speed = p.speed; goal = i; aim = p.aim; acceleration = k; top = j };
        memory = s.memory;
        pulse = omega arith;
        output = s.output;
        powerless = s.powerless;
        mode = (refl, l, rest _ f e n);
      }

module _ {m : Servo} (g : Good m) where
  rated : Rated m.settings.rates
  rated = Fit.rates-good m.settings.rates g.settings.1.0

  started_sane : Live m.latched.power m.run.drive.error → (w : Way) → complete_by w m ≡ true
      → Sane m.latched.power (started_by w (position m) m.settings m.run)
  unfolding idled movable
  started_sane l Pulse c =
      let x : Settings = m.settings in
      let h = g.settings.1.1.1.1.1.1.1.0 in
      idled_sane m.latched.power m.run g.sane.profile Pwm _ (omega (arith, signed_size x.load.reverse x.load.pulse)) (idle, l)
  started_sane l Speed c =
      let x : Settings = m.settings in
      let h = rated.velocity in
      to_speed_sane g.sane l (beginning m) _ _ (beginning_small m g.sane.profile) (omega (arith, signed_size x.load.reverse x.rates.velocity))
      rated.acceleration
  started_sane l Move c =
      let x : Settings = m.settings in
      let away : Bool = not (eqb (less x.load.place (whole (beginning m))) (2 ^ 31)) in
      let h = every_hold (x.rates.paced ∷ x.rates.ramped ∷ x.load.placed ∷ ltb 0 x.rates.velocity ∷ at_rest m.run ∷ away ∷ []) c in
      to_place_sane g.sane l (beginning m) x.load.place _ _ (beginning_small m g.sane.profile) g.settings.1.1.1.1.1.0
      (rated.force h.1.0) rated.acceleration rated.velocity (same_eq _ _ h.1.1.1.1.0) (eqb-false _ _ (not-true _ h.1.1.1.1.1.0))

  pub start-good : startable m ≡ true → Good (start m)
  unfolding startable complete start
  start-good e =
      let h = every_hold (m.settings.load.waits ∷ complete m ∷ ready m ∷ []) e in
      settings-good (run-good g _ (started_sane (ready-live m h.1.1.0) m.settings.load.way h.1.0))
      _ (dropped_fits m.settings g.settings)

-- ---- loads

-- what is carried, or what was loaded before
rates-good : (c : Carried) (r : Rates) → LoadRanged c → Rated r → Rated (rates_of c r)
unfolding rates_of
rates-good c r h k = record {
  velocity = either Slow (is_set 1 c.control) c.velocity r.velocity h.0 k.velocity;
  acceleration = either Slow (is_set 2 c.control) c.acceleration r.acceleration h.1 k.acceleration;
  force = forced (is_set 2 c.control) h.2;
}
  where
    Slow : ℕ → Type 0
    Slow n = n ≤ fastest

    forced : (t : Bool) → (t ≡ true → 1 ≤ c.acceleration) → (t || r.ramped) ≡ true → 1 ≤ cond t c.acceleration r.acceleration
    forced true i e = i refl
    forced false i e = k.force e

module _ {m : Servo} (g : Good m) (ds : List ℕ) (b : Bytes ds) where
  loaded-good : in_range (carried_in ds) ≡ true → Good (loaded (carried_in ds) m)
  unfolding loaded load_of
  loaded-good e =
      let c : Carried = carried_in ds in
      let f = fit ds b in
      let r = rates_fit_lem _ (rates-good c m.settings.rates ((load_range c).0 e) (rated g)) in
      settings-good g _ (g.settings.0, (r, (tt, (tt, (tt, (f.place, (tt, (f.pulse, tt))))))))

  pub trajectory_good : in_range (carried_in ds) ≡ true → can (LoadTrajectory (carried_in ds)) m ≡ true → Good (perform (LoadTrajectory (carried_in ds)) m)
  trajectory_good e = at (starts_now (carried_in ds))
    where
      at : (s : Bool) → (not s || startable (loaded (carried_in ds) m)) ≡ true → Good (cond s (start (loaded (carried_in ds) m)) (loaded (carried_in ds) m))
      at true h = start-good (loaded-good e) h
      at false h = loaded-good e
