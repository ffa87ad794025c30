-- What the step-motor module owes as a module type. Assumes nothing.
use mathlib.Core.Path.{◌≡◌, refl, sym, ap, ◌∙◌}
use mathlib.Core.List.{List}
use mathlib.Core.Bool.{Bool, true, false}
use Prim.Native.Nat.{ℕ, zero, suc, ◌+◌, ◌<◌, ◌≤◌}
use native.Mathlib.Omega.{arith}
use borrow.Author.Tests.{eqb-true}
use borrow.Author.Rules.{rules}
use lib.ListN.{length, get_or}
use lib.Dec.{eqb}
use Rattle.base_layout.specs.Bytes.{pasted, Bytes}
use Rattle.base_layout.specs.Codec.{bit}
use Rattle.base_layout.proofs.Laws.{bytes_le}
use Rattle.base_layout.proofs.Every.{every_hold}
use Rattle.base_layout.proofs.Pasted.{pasted-start}
use Rattle.module_rules.specs.Slots.{Lawful}
use Rattle.module_rules.specs.Owes.{Safe, Owes}
use Rattle.module_rules.proofs.Slotting.{slotted_lawful}
use Rattle.stepper_rules.specs.declared.Stepper.{Stepper}
use Rattle.stepper_rules.specs.State.{is_moving}
use Rattle.stepper_rules.specs.Asks.{load_meant, parameters_meant, stop_meant}
use Rattle.stepper_rules.specs.Answers.{type_number, status, outputs_of, stepper}
use Rattle.stepper_rules.proofs.Apart.{apart, unseen}
use Rattle.stepper_rules.proofs.Asks.{Each, own_means}
use Rattle.stepper_slot_rules.specs.Slot.{sample, slot, encode_of, decode_of, ok_of, slots}
use Rattle.stepper_slot_rules.specs.Promises.{Fits, NumbersFit}
use Rattle.stepper_slot_rules.proofs.Over.{station_over}
use Rattle.stepper_slot_rules.proofs.Steady.{by_test}
use Rattle.stepper_slot_rules.proofs.Good.{good, fits}
use Rattle.stepper_slot_rules.proofs.Replaced.{started-good, station-good, start-good, parameters_good, stopped-good, trajectory_good, tick_good}

-- ---- slots

lawful : Lawful slots
unfolding encode_of decode_of ok_of
lawful = slotted_lawful slot (omega arith)

sized : (m n : Stepper) → length (encode_of m) ≡ length (encode_of n)
unfolding encode_of
sized m n = slot.lawful.length_enc m ∙ sym (slot.lawful.length_enc n)

begins : (m : Stepper) (s : List ℕ) → get_or (pasted 0 (encode_of m) s) 0 0 ≡ type_number
unfolding encode_of
begins m s = ap (λ (l : List ℕ). get_or l 0 0) (pasted-start (encode_of m) s)

typed : (s : List ℕ) → ok_of s ≡ true → get_or s 0 0 ≡ type_number
unfolding ok_of
typed s v = eqb-true _ _ (every_hold (slot.codec.tests 0 s) v).0

-- ---- what the own codes ask keeps a module such as a slot can hold

each : (code : ℕ) (ds : List ℕ) → Bytes ds → Each (Safe stepper slots sample.codec.fits) code ds
unfolding load_meant parameters_meant stop_meant
each code ds b = record {
  unknown = tt;
  load = λ c e m t k. fits _ (trajectory_good (good m t) ds b e k);
  start = λ c e m t k. fits _ (start-good (good m t) k);
  parameters = λ c e m t k. fits _ (parameters_good (good m t) (get_or ds 1 0) e);
  stop = λ c e m t k. fits _ (stopped-good (good m t) _ _);
}

-- ---- what is told and driven

bit_most : (b : Bool) → bit b ≤ 1
bit_most true = omega arith
bit_most false = omega arith

status_fits : (m : Stepper) → status m < 256
status_fits m =
    let b = bit_most (is_moving m.motion) in
    by_test (λ (n : ℕ). bit (is_moving m.motion) + n < 256) (eqb m.station.cause 0) 0 2 (λ e. omega arith) (λ e. omega arith)

pub numbers_fit : NumbersFit
numbers_fit m t =
    let x = (good m t).position in
    (omega arith, (omega arith, (omega arith, (omega arith, (omega arith, (omega arith, (omega arith, (omega arith, tt))))))))

outputs_bytes_lem : (m : Stepper) → Fits m → Bytes (outputs_of m)
outputs_bytes_lem m t zero = t.0.1.1.1.1.0.0.0
outputs_bytes_lem m t (suc zero) = omega (arith, bit_most m.motion.backward)
outputs_bytes_lem m t (suc (suc zero)) = omega (arith, bit_most m.settings.amplifier)
outputs_bytes_lem m t (suc (suc (suc i))) = bytes_le 5 0 i

pub owes : Owes stepper slots sample.codec.fits
unfolding decode_of
owes = record {
  apart = apart;
  unseen = unseen;
  lawful = lawful;
  sized = sized;
  begins = begins;
  typed = typed;
  stationed = λ s. refl;
  alone = λ x s l b v. station_over s (omega (arith, l)) b v x;
  power = fits _ started-good;
  held = λ m t. (good m t).station;
  shown = λ m t. (good m t).shown;
  with_station = λ s m h g t. fits _ (station-good (good m t) s h g);
  renewed = λ m t. fits _ started-good;
  own = λ code ds b. own_means (Safe stepper slots sample.codec.fits) code ds (each code ds b);
  tick = λ x m h t. fits _ (tick_good (good m t) x);
  eight = refl;
  four = search rules;
  small = omega arith;
  status = status_fits;
  numbers = numbers_fit;
  outputs = λ m t. (refl, outputs_bytes_lem m t);
}
