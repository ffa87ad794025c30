-- The tests of a slot are its list, and what a valid slot gives to the calls on it. Assumes nothing.
use mathlib.Core.Path.{◌≡◌, refl, sym, ap, ◌∙◌}
use mathlib.Core.List.{List, [], ◌∷◌}
use mathlib.Core.Bool.{Bool, true, false, ◌&&◌, and-true, and-false}
use Prim.Native.Nat.{ℕ, ◌<◌}
use native.Mathlib.Omega.{arith}
use lib.Dec.{eqb, leb}
use lib.IntN.{nat_abs}
use lib.ListN.{get_or, drop}
use Rattle.base_layout.specs.Bytes.{Bytes}
use Rattle.module_rules.specs.Slots.{leader_at, low_at}
use Rattle.servo_rules.specs.Answers.{type_number}
use Rattle.base_layout.specs.Every.{every, every_from}
use Rattle.base_layout.proofs.Codec.{head_sound}
use Rattle.base_layout.proofs.Every.{every_hold}
use Rattle.servo_motion.specs.Profile.{Ranged, in_range}
use Rattle.servo_motion.proofs.Tests.{in_ranges}
use Rattle.servo_rules.specs.declared.Rates.{Rates}
use Rattle.servo_rules.specs.declared.Run.{Run}
use Rattle.servo_rules.specs.declared.Sample.{Sample}
use Rattle.servo_rules.specs.Tick.{met, Steady}
use Rattle.servo_slot_rules.specs.List.{rates_fit, homing_fits, sound_at, sound}
use Rattle.servo_slot_rules.specs.Slot.{slot, rates, profile, run, rates_at, profile_at, power_at, byte_at, paced_at, ramped_at, waits_at, way_at, decode_of, ok_of}
use Rattle.servo_slot_rules.specs.Parts.{front_tests, load_tests, front_grouped, load_grouped, run_tests}
use Rattle.servo_slot_rules.specs.Promises.{Fits}
use Rattle.servo_slot_rules.proofs.Good.{good}
use Rattle.servo_slot_rules.proofs.Ticks.{met_sane}
use Rattle.servo_slot_rules.proofs.Within.{steady, defined}

-- a test may as well be made last
last_of_two : (a b c : Bool) → ((a && b) && c) ≡ ((a && c) && b)
last_of_two false b c = refl
last_of_two true true true = refl
last_of_two true true false = refl
last_of_two true false true = refl
last_of_two true false false = refl

made_last : (ok t : Bool) (ts : List Bool) → every_from ok (t ∷ ts) ≡ (every_from ok ts && t)
made_last ok t [] = refl
made_last ok t (u ∷ ts) = ap (λ (b : Bool). every_from b ts) (last_of_two ok t u) ∙ made_last (ok && u) t ts

front_grouped_lem : (s : List ℕ) → every (front_tests s) ≡ every (front_grouped s)
front_grouped_lem s =
    made_last (eqb (get_or s 0 0) type_number) (leb (get_or s leader_at 0) 1) (drop 2 (front_tests s))
    ∙ ap (λ (b : Bool). b && leb (get_or s leader_at 0) 1) (made_last (eqb (get_or s 0 0) type_number) (leb (get_or s low_at 0) 1) (drop 3 (front_tests s)))

load_grouped_lem : (ok : Bool) (r : Rates) (s : List ℕ) → every_from ok (load_tests r s) ≡ every_from ok (load_grouped r s)
load_grouped_lem ok r s =
    let flags : Bool = (ok && leb (get_or s paced_at 0) 1) && leb (get_or s ramped_at 0) 1 in
    made_last flags (rates_fit r) (drop 3 (load_tests r s))
    ∙ ap (λ (b : Bool). b && rates_fit r) (made_last (flags && leb (get_or s waits_at 0) 1) (leb (get_or s way_at 0) 2) (drop 5 (load_tests r s)))

module _ (s : List ℕ) {r : Rates} {u : Run} {front load runs : Bool} (er : r ≡ rates.codec.dec rates_at s)
    (eu : u ≡ run.codec.dec profile_at s) (ef : front ≡ every (front_grouped s)) (el : load ≡ every_from front (load_grouped r s))
    (es : runs ≡ every_from load (run_tests u s)) where
  abbrev last : Bool
  last = sound_at (get_or s power_at 0) u

  tests : ok_of s ≡ ((runs && homing_fits (get_or s byte_at 0)) && last)
  unfolding ok_of sound
  tests =
      let v = rates.codec.dec rates_at s in
      let w = run.codec.dec profile_at s in
      rw (es, el, ef, eu, er)
      (ap (λ (b : Bool). (every_from b (run_tests w s) && homing_fits (get_or s byte_at 0)) && sound_at (get_or s power_at 0) w)
      (load_grouped_lem (every (front_tests s)) v s ∙ ap (λ (b : Bool). every_from b (load_grouped v s)) (front_grouped_lem s)))

  pub ok_is : homing_fits (get_or s byte_at 0) ≡ true → ok_of s ≡ (runs && last)
  ok_is h = tests ∙ ap (λ (b : Bool). (runs && b) && last) h ∙ ap (λ (b : Bool). b && last) (and-true runs)

  unfit : homing_fits (get_or s byte_at 0) ≡ false → ok_of s ≡ false
  unfit h = tests ∙ ap (λ (b : Bool). (runs && b) && last) h ∙ ap (λ (b : Bool). b && last) (and-false runs)

  -- the last test is only made where the profile is in range
  pub ranged_in : Bytes s → runs ≡ true → Ranged u.profile
  ranged_in bytes e =
      let h = (every_hold (load ∷ run_tests u s) (sym es ∙ e)).1.0 in
      let t = profile.lawful.sound profile_at s bytes (ap (λ (u : Run). in_range u.profile) (sym eu) ∙ h, tt) in
      rw eu ((in_ranges (profile.codec.dec profile_at s) t.0.0 t.0.1.1.0).0 t.1)

-- a slot whose homing byte does not fit is none, whatever the other tests say
pub unfit_in : (s : List ℕ) → homing_fits (get_or s byte_at 0) ≡ false → ok_of s ≡ false
unfit_in s = unfit s refl refl refl refl refl

module _ (s : List ℕ) (bytes : Bytes s) (ok : ok_of s ≡ true) where
  fits_in : Fits (decode_of s)
  unfolding decode_of ok_of
  fits_in = head_sound slot.lawful s bytes ok

  pub steady_in : Steady (decode_of s).run
  steady_in = defined (decode_of s) fits_in

  -- and so is what it runs on after power and homing
  pub met_in : (x : Sample) → Steady (met x (decode_of s)).run
  met_in x = steady (met_sane (good (decode_of s) fits_in) x).1

  pub output_in : nat_abs (decode_of s).run.drive.output < 256
  output_in = omega (arith, (good (decode_of s) fits_in).sane.output)
