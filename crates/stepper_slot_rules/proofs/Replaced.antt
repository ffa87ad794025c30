-- What frames and ticks make of a step-motor module is such as its slot can hold. Assumes nothing.
use mathlib.Core.Path.{◌≡◌, refl}
use mathlib.Core.Logic.{inl}
use mathlib.Core.List.{List, [], ◌∷◌}
use mathlib.Core.Bool.{Bool, true, false, cond, not, ◌||◌}
use Prim.Native.Nat.{ℕ, ◌+◌, ◌%◌, ◌^◌, ◌<◌, ◌≤◌}
use native.Mathlib.Omega.{arith}
use borrow.Author.Tests.{leb-true, ltb-true}
use lib.Dec.{leb, ltb}
use lib.ListN.{get_or}
use Rattle.base_integers.specs.Bits.{is_set}
use Rattle.base_integers.specs.Whole.{less}
use Rattle.base_layout.specs.Bytes.{of_le, read_at, Bytes}
use Rattle.base_layout.proofs.Laws.{of_le_lt, bytes_read}
use Rattle.base_layout.proofs.Every.{every_hold}
use Rattle.module_rules.specs.declared.Station.{Station}
use Rattle.module_rules.specs.Slot.{station}
use Rattle.module_rules.proofs.StationKept.{power_up_fits}
use Rattle.stepper_rules.specs.declared.Carried.{Carried}
use Rattle.stepper_rules.specs.declared.Halt.{Halt}
use Rattle.stepper_rules.specs.declared.Halt.TheVariants.{Keep, Abrupt, Smooth}
use Rattle.stepper_rules.specs.declared.Motion.{Motion}
use Rattle.stepper_rules.specs.declared.Order.TheVariants.{LoadTrajectory}
use Rattle.stepper_rules.specs.declared.Sample.{Sample}
use Rattle.stepper_rules.specs.declared.Stepper.{Stepper}
use Rattle.stepper_rules.specs.Carried.{fastest, carried_in, is_speed, in_range}
use Rattle.stepper_rules.specs.State.{no_load, rest, is_moving, started, with_station}
use Rattle.stepper_rules.specs.Ramp.{onward, moved, ticked}
use Rattle.stepper_rules.specs.Perform.{load_of, storing, loaded, starts_now, complete, agree, startable, start, parameters_set, left_by, stopped, can, perform}
use Rattle.stepper_rules.specs.Answers.{shows}
use Rattle.stepper_slot_rules.specs.Slot.{load}
use Rattle.stepper_slot_rules.proofs.Steady.{Steady, by_test, onward-steady, begun-steady, halted-steady, minimum-steady}
use Rattle.stepper_slot_rules.proofs.Good.{Good}

no_load_fits : load.codec.fits no_load
no_load_fits = (tt, (tt, ((omega arith, omega arith), omega arith)))

pub started-good : Good started
started-good = record {
  station = power_up_fits;
  shown = refl;
  settings = (tt, ((omega arith, omega arith), (omega arith, omega arith)));
  load = no_load_fits;
  motion = inl refl;
  position = omega arith;
}

-- ---- what a load carries

-- carried or 0
or_none : (n : ℕ) (t : Bool) (x : ℕ) → 0 < n → x < n → cond t x 0 < n
or_none n t x z h = by_test (λ (k : ℕ). k < n) t x 0 (λ e. h) (λ e. z)

-- a speed that is carried is one that can be asked for
carried-speed : (t : Bool) (v : ℕ) → (not t || is_speed (cond t v 0)) ≡ true → cond t v 0 ≤ 250
carried-speed true v e = leb-true v 250 (every_hold (leb 1 v ∷ leb v fastest ∷ []) e).1.0
carried-speed false v e = omega arith

module _ (ds : List ℕ) (b : Bytes ds) where
  four : (at : ℕ) → of_le (read_at 4 at ds) < 2 ^ 32
  four at = of_le_lt (read_at 4 at ds) (bytes_read 4 at ds b)

  three : (at : ℕ) → of_le (read_at 3 at ds) < 2 ^ 32
  three at = let h = of_le_lt (read_at 3 at ds) (bytes_read 3 at ds b) in omega arith

  place_small : (carried_in ds).place < 2 ^ 32
  unfolding carried_in
  place_small = or_none (2 ^ 32) (is_set 0 (get_or ds 0 0)) _ (omega arith) (four _)

  timer_small : (carried_in ds).timer < 2 ^ 32
  unfolding carried_in
  timer_small = or_none (2 ^ 32) (is_set 3 (get_or ds 0 0)) _ (omega arith) (three _)

  time_small : (carried_in ds).time < 256
  unfolding carried_in
  time_small = or_none 256 (is_set 2 (get_or ds 0 0)) _ (omega arith) (b _)

  speed_small : in_range (carried_in ds) ≡ true → (carried_in ds).speed ≤ 250
  unfolding in_range carried_in
  speed_small e =
      let c : Carried = carried_in ds in
      let speeds : Bool = not (is_set 1 c.control) || is_speed c.speed in
      let times : Bool = not (is_set 2 c.control) || leb 1 c.time in
      let h = every_hold (not (is_set 5 c.control) ∷ not (is_set 6 c.control) ∷ speeds ∷ times ∷ []) e in
      carried-speed (is_set 1 c.control) _ h.1.1.0

module _ {m : Stepper} (g : Good m) where
  pub station-good : (s : Station) → station.codec.fits s → shows s.items ≡ true → Good (with_station s m)
  station-good s h k = record {
    station = h;
    shown = k;
    settings = g.settings;
    load = g.load;
    motion = g.motion;
    position = g.position;
  }

  -- ---- commands

  pub start-good : startable m ≡ true → Good (start m)
  unfolding startable start
  start-good e =
      let on : Bool = not (is_moving m.motion) || agree m.load.backward m.motion.backward in
      let h = every_hold (ltb 0 m.settings.minimum ∷ m.load.waits ∷ complete m.load ∷ on ∷ []) e in
      let k = every_hold (ltb 0 m.load.speed ∷ ltb 0 m.load.time ∷ []) h.1.1.0 in
      record {
        station = g.station;
        shown = g.shown;
        settings = g.settings;
        load = no_load_fits;
        motion =
            begun-steady _ m.motion m.load g.motion (ltb-true 0 _ h.0) g.settings.1.0.1 g.load.1.1.0.1 (ltb-true 0 _ k.1.0)
            g.load.1.1.1;
        position = g.position;
      }

  pub parameters_good : (v : ℕ) → is_speed v ≡ true → Good (parameters_set v m)
  unfolding parameters_set
  parameters_good v e =
      let x = g.settings in
      let h = leb-true v 250 (every_hold (leb 1 v ∷ leb v fastest ∷ []) e).1.0 in
      record {
        station = g.station;
        shown = g.shown;
        settings = (
          tt,
          (by_test (λ (n : ℕ). (n < 256) × (n ≤ 250)) (is_moving m.motion) _ v (λ t. x.1.0) (λ t. (omega arith, h)), x.1.1),
        );
        load = g.load;
        motion = minimum-steady _ m.motion v g.motion;
        position = g.position;
      }

  left_fits : (h : Halt) → load.codec.fits (left_by h m.load)
  left_fits Keep = g.load
  left_fits Abrupt = no_load_fits
  left_fits Smooth = no_load_fits

  pub stopped-good : (a : Bool) (h : Halt) → Good (stopped a h m)
  unfolding stopped
  stopped-good a h = record {
    station = g.station;
    shown = g.shown;
    settings = g.settings;
    load = left_fits h;
    motion = halted-steady _ m.motion h g.motion;
    position = g.position;
  }

  loaded-good : (ds : List ℕ) → Bytes ds → in_range (carried_in ds) ≡ true → Good (loaded (carried_in ds) m)
  unfolding loaded load_of storing
  loaded-good ds b e =
      let c : Carried = carried_in ds in
      let x = g.settings.1 in
      let Word : ℕ → Type 0 = λ n. n < 2 ^ 32 in
      let v = speed_small ds b e in
      record {
        station = g.station;
        shown = g.shown;
        settings = (
          tt,
          (
            x.0,
            (
              by_test Word (is_set 0 c.control) _ _ (λ t. place_small ds b) (λ t. x.1.0),
              by_test Word (is_set 3 c.control) _ _ (λ t. timer_small ds b) (λ t. x.1.1),
            ),
          ),
        );
        load = (tt, (tt, ((omega arith, v), time_small ds b)));
        motion = g.motion;
        position = g.position;
      }

  -- ---- a tick

  moved_small : (p : Motion) → moved p m.position < 2 ^ 32
  unfolding moved
  moved_small p =
      by_test (λ (n : ℕ). n < 2 ^ 32) p.backward (less m.position p.speed) ((m.position + p.speed) % 2 ^ 32) (λ t. omega arith)
      (λ t. omega arith)

  pub tick_good : (x : Sample) → Good (ticked x m)
  unfolding ticked
  tick_good x = record {
    station = g.station;
    shown = g.shown;
    settings = g.settings;
    load = g.load;
    motion =
        by_test (Steady m.settings.minimum) x.stop rest (onward m.motion) (λ t. inl refl) (λ t. onward-steady _ m.motion g.motion);
    position = moved_small _;
  }

-- a load that starts now is loaded and then started
pub trajectory_good : {m : Stepper} → Good m → (ds : List ℕ) → Bytes ds → in_range (carried_in ds) ≡ true
    → can (LoadTrajectory (carried_in ds)) m ≡ true → Good (perform (LoadTrajectory (carried_in ds)) m)
trajectory_good {m} g ds b e = at (starts_now (carried_in ds))
  where
    at : (s : Bool) → (not s || startable (loaded (carried_in ds) m)) ≡ true → Good (cond s (start (loaded (carried_in ds) m)) (loaded (carried_in ds) m))
    at true h = start-good (loaded-good g ds b e) h
    at false h = loaded-good g ds b e
