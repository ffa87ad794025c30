-- The servos that a slot can hold, in words: what is stored, and what runs. Assumes nothing.
use mathlib.Core.Path.{◌≡◌, refl, sym, ap, ◌∙◌}
use mathlib.Core.List.{[], ◌∷◌}
use mathlib.Core.Bool.{Bool, true, false, not, ◌||◌}
use Prim.Native.Nat.{ℕ, ◌^◌, ◌<◌, ◌≤◌}
use native.Mathlib.Omega.{arith}
use borrow.Author.Tests.{eqb-false, ne_eqb, leb-true, le-leb}
use lib.Dec.{eqb, leb}
use lib.IntN.{ℤ, pos, nat_abs}
use Rattle.base_integers.specs.Whole.{signed, word}
use Rattle.base_integers.proofs.Words.{signed_word}
use Rattle.base_integers.proofs.Same.{same_eq, eq_same}
use Rattle.base_layout.proofs.Every.{every_hold, hold_every}
use Rattle.module_rules.specs.Slot.{station}
use Rattle.servo_motion.specs.declared.Profile.{Profile}
use Rattle.servo_motion.specs.Profile.{fastest, Ranged}
use Rattle.servo_motion.proofs.Tests.{in_ranges}
use Rattle.servo_filter.specs.declared.Memory.{Memory}
use Rattle.servo_filter.specs.Filter.{Kept}
use Rattle.servo_rules.specs.declared.Rates.{Rates}
use Rattle.servo_rules.specs.declared.Drive.{Drive}
use Rattle.servo_rules.specs.declared.Run.{Run}
use Rattle.servo_rules.specs.declared.Servo.{Servo}
use Rattle.servo_slot_rules.specs.List.{rates_fit, memory_fits, drive_fits, silent, mode_fits, sound_at, sound}
use Rattle.servo_slot_rules.specs.Slot.{sample, counts, rates, settings, profile, memory, drive, run, homing}
use Rattle.servo_slot_rules.specs.Promises.{Fits}
use Rattle.servo_slot_rules.proofs.Modes.{InMode, mode-good, mode_fits_lem}

pub record Rated (r : Rates) : Type 0 where
  pub velocity : r.velocity ≤ fastest
  pub acceleration : r.acceleration ≤ fastest
  pub force : r.ramped ≡ true → 1 ≤ r.acceleration

-- what runs, at a power
pub record Sane (power : ℕ) (r : Run) : Type 0 where
  pub profile : Ranged r.profile
  pub memory : Kept r.memory
  pub pulse : nat_abs r.drive.pulse ≤ 255
  pub output : nat_abs r.drive.output ≤ 255
  pub powerless : (power ≡ 1 → ⊥) → r.drive.output ≡ pos 0
  pub mode : InMode r.drive.mode power r

pub record Good (m : Servo) : Type 0 where
  pub station : station.codec.fits m.station
  pub latched : sample.codec.fits m.latched
  pub counts : counts.codec.fits m.counts
  pub settings : settings.codec.fits m.settings
  pub sane : Sane m.latched.power m.run
  pub homing : homing.codec.fits m.homing

-- ---- each part's test

small_fits : (z : ℤ) (n : ℕ) → n < 2 ^ 31 → nat_abs z ≤ n → signed (word z) ≡ z
small_fits z n k h = signed_word z (omega arith)

pub rates-good : (r : Rates) → rates.codec.fits r → Rated r
unfolding rates_fit
rates-good r t =
    let h = every_hold (leb r.velocity fastest ∷ leb r.acceleration fastest ∷ (not r.ramped || leb 1 r.acceleration) ∷ []) t.1 in
    record {
      velocity = leb-true _ _ h.0;
      acceleration = leb-true _ _ h.1.0;
      force = λ e. leb-true 1 _ (ap (λ (s : Bool). not s || leb 1 r.acceleration) (sym e) ∙ h.1.1.0);
    }

pub rates_fit_lem : (r : Rates) → Rated r → rates.codec.fits r
unfolding rates_fit
rates_fit_lem r g =
    let v = g.velocity in
    let a = g.acceleration in (
      (omega arith, (omega arith, (tt, tt))),
      hold_every (leb r.velocity fastest ∷ leb r.acceleration fastest ∷ (not r.ramped || leb 1 r.acceleration) ∷ [])
          (le-leb _ _ v, (le-leb _ _ a, (forced r.ramped g.force, tt))),
    )
  where
    forced : (s : Bool) → (s ≡ true → 1 ≤ r.acceleration) → (not s || leb 1 r.acceleration) ≡ true
    forced true h = le-leb _ _ (h refl)
    forced false h = refl

profile-good : (p : Profile) → profile.codec.fits p → Ranged p
profile-good p t = (in_ranges p t.0.0 t.0.1.1.0).0 t.1

profile_fits : (p : Profile) → Ranged p → profile.codec.fits p
profile_fits p r =
    let a = r.acceleration in
    let t = r.top in (
      (r.setpoint, (small_fits _ fastest (omega arith) r.speed, (r.goal, (small_fits _ fastest (omega arith) r.aim, (omega arith, omega arith))))),
      (in_ranges p r.setpoint r.goal).1 r,
    )

memory-good : (y : Memory) → memory.codec.fits y → Kept y
unfolding memory_fits
memory-good y t =
    let h = every_hold (leb (nat_abs y.integral) 32767 ∷ leb (nat_abs y.previous) 16383 ∷ []) t.1 in
    record { integral = leb-true _ _ h.0; previous = leb-true _ _ h.1.0 }

pub memory_fits_lem : (y : Memory) → Kept y → memory.codec.fits y
unfolding memory_fits
memory_fits_lem y k = (
  (small_fits _ 32767 (omega arith) k.integral, small_fits _ 16383 (omega arith) k.previous),
  hold_every (leb (nat_abs y.integral) 32767 ∷ leb (nat_abs y.previous) 16383 ∷ []) (le-leb _ _ k.integral, (le-leb _ _ k.previous, tt)),
)

drive-good : (d : Drive) → drive.codec.fits d → (nat_abs d.pulse ≤ 255) × (nat_abs d.output ≤ 255)
unfolding drive_fits
drive-good d t =
    let h = every_hold (leb (nat_abs d.pulse) 255 ∷ leb (nat_abs d.output) 255 ∷ []) t.1 in
    (leb-true _ _ h.0, leb-true _ _ h.1.0)

pub drive_fits_lem : (d : Drive) → nat_abs d.pulse ≤ 255 → nat_abs d.output ≤ 255 → drive.codec.fits d
unfolding drive_fits
drive_fits_lem d p o = (
  (tt, (small_fits _ 255 (omega arith) p, (small_fits _ 255 (omega arith) o, (tt, (tt, tt))))),
  hold_every (leb (nat_abs d.pulse) 255 ∷ leb (nat_abs d.output) 255 ∷ []) (le-leb _ _ p, (le-leb _ _ o, tt)),
)

-- ---- the list

module _ (power : ℕ) (r : Run) where
  powerless_good : (eqb power 1 || silent r.drive) ≡ true → (power ≡ 1 → ⊥) → r.drive.output ≡ pos 0
  powerless_good h n = same_eq _ _ (rw (ne_eqb _ _ n) at h)

  powerless_fits : ((power ≡ 1 → ⊥) → r.drive.output ≡ pos 0) → (eqb power 1 || silent r.drive) ≡ true
  powerless_fits h = at (eqb power 1) refl
    where
      at : (s : Bool) → eqb power 1 ≡ s → (s || silent r.drive) ≡ true
      at true e = refl
      at false e = eq_same _ _ (h (eqb-false _ _ e))

  run-good : run.codec.fits r → sound_at power r ≡ true → Sane power r
  unfolding sound_at
  run-good t e =
      let h = every_hold ((eqb power 1 || silent r.drive) ∷ mode_fits r.drive.mode power r ∷ []) e in
      let d = drive-good r.drive t.1.1 in
      record {
        profile = profile-good r.profile t.0;
        memory = memory-good r.memory t.1.0;
        pulse = d.0;
        output = d.1;
        powerless = powerless_good h.0;
        mode = mode-good power r r.drive.mode h.1.0;
      }

  run_fits : Sane power r → run.codec.fits r
  run_fits s =
      (profile_fits r.profile s.profile, (memory_fits_lem r.memory s.memory, drive_fits_lem r.drive s.pulse s.output))

  pub sound_fits : ((power ≡ 1 → ⊥) → r.drive.output ≡ pos 0) → InMode r.drive.mode power r → sound_at power r ≡ true
  unfolding sound_at
  sound_fits h t =
      hold_every ((eqb power 1 || silent r.drive) ∷ mode_fits r.drive.mode power r ∷ []) (powerless_fits h, (mode_fits_lem power r r.drive.mode t, tt))

-- ---- the whole

module _ (m : Servo) where
  pub good : Fits m → Good m
  unfolding sound
  good t =
      let x = t.0.1 in
      record {
        station = x.0;
        latched = x.1.0;
        counts = x.1.1.0;
        settings = x.1.1.1.0;
        sane = run-good m.latched.power m.run x.1.1.1.1.0 t.1;
        homing = x.1.1.1.1.1;
      }

  pub fits : Good m → Fits m
  unfolding sound
  fits g =
      let power : ℕ = m.latched.power in (
        (tt, (g.station, (g.latched, (g.counts, (g.settings, (run_fits power m.run g.sane, g.homing)))))),
        sound_fits power m.run g.sane.powerless g.sane.mode,
      )
