-- A slot that satisfies the written list passes the tests. Assumes nothing.
use mathlib.Core.Path.{◌≡◌, refl, sym, ap, ◌∙◌}
use mathlib.Core.List.{List, [], ◌∷◌, ◌++◌}
use mathlib.Core.Logic.{◌⊎◌, inl, inr}
use mathlib.Core.Bool.{Bool, true, false, or-true}
use Prim.Native.Nat.{ℕ, ◌+◌, ◌*◌, ◌≤◌}
use native.Mathlib.Omega.{arith}
use borrow.Author.Tests.{eq-eqb, eqb-false, le-leb}
use lib.Dec.{eqb, leb}
use lib.IntN.{nat_abs}
use Rattle.base_layout.proofs.Every.{Hold as AllHold, hold_both, hold_every}
use Rattle.servo_motion.specs.declared.Profile.{Profile}
use Rattle.servo_motion.specs.Profile.{fastest, in_range}
use Rattle.servo_rules.specs.declared.Mode.{Mode}
use Rattle.servo_rules.specs.declared.Mode.TheVariants.{Off, Pwm, Hold, Velocity, Trapezoid}
use Rattle.servo_rules.specs.declared.Servo.{Servo}
use Rattle.servo_rules.specs.State.{servo_off}
use Rattle.servo_rules.specs.Homing.{good_byte}
use Rattle.servo_slot_rules.specs.List.{homing_fits, sound}
use Rattle.servo_slot_rules.specs.Slot.{mode_byte, slot, decode_of, ok_of}
use Rattle.servo_slot_rules.specs.Parts.{front_tests, load_tests, run_tests}
use Rattle.servo_slot_rules.specs.Promises.{Lines}
use Rattle.servo_slot_rules.proofs.Modes.{Live, InMode}
use Rattle.servo_slot_rules.proofs.Good.{rates_fit_lem, memory_fits_lem, drive_fits_lem, sound_fits}

-- the facts of a list of tests, one after another
infixr 40 ◌and◌
◌and◌ : {A B : Type 0} → A → B → A × B
a and b = (a, b)

-- the upper byte of a number
upper : (a b n : ℕ) → a + 256 * (b + 256 * 0) ≤ 256 * n + 255 → leb b n ≡ true
upper a b n h = le-leb b n (omega arith)

-- the byte of Set Homing
byte_holds : (b : ℕ) → (b ≡ 0) ⊎ (good_byte b ≡ true) → homing_fits b ≡ true
unfolding homing_fits
byte_holds b (inl e) = rw (eq-eqb _ _ e) refl
byte_holds b (inr e) = rw e (or-true (eqb b 0))

module _ {s : List ℕ} {m : Servo} (l : Lines s m) where
  -- ---- what the mode asks

  mode-apart : {j k : Mode} → m.run.drive.mode ≡ j → eqb (mode_byte j) (mode_byte k) ≡ false → m.run.drive.mode ≡ k → ⊥
  mode-apart e n q = eqb-false _ _ n (ap mode_byte (sym e ∙ q))

  is_live : {j : Mode} → m.run.drive.mode ≡ j → eqb (mode_byte j) 0 ≡ false → Live m.latched.power m.run.drive.error
  is_live e n = record { clear = l.clear (mode-apart e n); alive = l.alive (mode-apart e n) }

  in_mode : (k : Mode) → m.run.drive.mode ≡ k → InMode k m.latched.power m.run
  in_mode Off e =
      let y = l.off_empty e in
      let x = l.off e in
      (record { rest = x.0; integral = y.0; previous = y.1; uncut = l.uncut (ap servo_off e) }, x.1, l.unpulsed (mode-apart e refl))
  in_mode Pwm e =
      let y = l.pwm_empty e in
      (record { rest = l.pwm e; integral = y.0; previous = y.1; uncut = l.uncut (ap servo_off e) }, is_live e refl)
  in_mode Hold e = (l.hold e, l.unpulsed (mode-apart e refl), is_live e refl)
  in_mode Velocity e = (l.unpulsed (mode-apart e refl), is_live e refl)
  in_mode Trapezoid e = (l.unpulsed (mode-apart e refl), is_live e refl, l.trapezoid e)

  sound_holds : sound m ≡ true
  unfolding sound
  sound_holds =
      sound_fits m.latched.power m.run l.powerless (in_mode m.run.drive.mode refl)

  -- ---- the tests of rates, load and what runs

  load_holds : AllHold (load_tests m.settings.rates s)
  load_holds =
      le-leb _ _ l.paced
      and le-leb _ _ l.ramped
      and (rates_fit_lem m.settings.rates (record { velocity = l.velocity; acceleration = l.acceleration; force = l.loaded_force })).1
      and le-leb _ _ l.waits
      and le-leb _ _ l.way
      and le-leb _ _ l.placed
      and le-leb _ _ l.pulsed
      and le-leb _ _ l.reverse
      and tt

  range_holds : in_range m.run.profile ≡ true
  unfolding in_range
  range_holds =
      let p : Profile = m.run.profile in
      hold_every (leb (nat_abs p.speed) fastest ∷ leb (nat_abs p.aim) fastest ∷ leb p.acceleration fastest ∷ leb p.top fastest ∷ [])
      (le-leb _ _ l.speed and le-leb _ _ l.aim and le-leb _ _ l.running_acceleration and le-leb _ _ l.top and tt)

  run_holds : AllHold (run_tests m.run s)
  run_holds =
      range_holds
      and (memory_fits_lem m.run.memory (record { integral = l.integral; previous = l.previous })).1
      and le-leb _ _ l.mode
      and le-leb _ _ l.error
      and le-leb _ _ l.amplifier
      and le-leb _ _ l.cut
      and (drive_fits_lem m.run.drive l.pulse l.output).1
      and tt

-- ---- the bytes up to EL

module _ (s : List ℕ) (l : Lines s (decode_of s)) where
  front_holds : AllHold (front_tests s)
  unfolding decode_of
  front_holds =
      let g = l.gains in
      eq-eqb _ _ l.type_byte
      and le-leb _ _ l.leader
      and le-leb _ _ l.low
      and le-leb _ _ l.cause
      and le-leb _ _ l.latched_power
      and le-leb _ _ l.latched_inputs
      and upper _ _ 127 g.kp
      and upper _ _ 127 g.kd
      and upper _ _ 127 g.ki
      and upper _ _ 127 g.il
      and upper _ _ 63 g.el
      and tt

  pub passed : ok_of s ≡ true
  unfolding ok_of decode_of
  passed =
      let m : Servo = decode_of s in
      let last : List Bool = homing_fits m.homing.byte ∷ sound m ∷ [] in
      let run : List Bool = run_tests m.run s ++ last in
      let load : List Bool = load_tests m.settings.rates s ++ run in
      hold_every (slot.codec.tests 0 s)
      (hold_both (front_tests s) load front_holds
      (hold_both (load_tests m.settings.rates s) run (load_holds l) (hold_both (run_tests m.run s) last (run_holds l) (byte_holds m.homing.byte l.homing and sound_holds l and tt))))
