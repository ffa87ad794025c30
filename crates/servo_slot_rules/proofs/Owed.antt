-- What the servo owes as a module type. Assumes nothing.
use mathlib.Core.Path.{◌≡◌, refl, sym, ap, ◌∙◌}
use mathlib.Core.List.{List, [], ◌∷◌}
use mathlib.Core.Bool.{true, ◌&&◌}
use Prim.Native.Nat.{ℕ, zero, suc}
use native.Mathlib.Omega.{arith}
use borrow.Author.Tests.{eqb-true}
use borrow.Author.Rules.{rules}
use lib.ListN.{length, get_or}
use lib.Dec.{eqb}
use lib.IntN.{pos}
use lib.Signed.{lt_z}
use Rattle.base_layout.specs.Bytes.{pasted, Bytes}
use Rattle.base_layout.proofs.Laws.{bytes_le}
use Rattle.base_layout.proofs.Every.{every_hold}
use Rattle.base_layout.proofs.Pasted.{pasted-start}
use Rattle.module_rules.specs.Slots.{Lawful}
use Rattle.module_rules.specs.Owes.{Safe, Owes}
use Rattle.module_rules.proofs.Slotting.{slotted_lawful}
use Rattle.servo_rules.specs.declared.Servo.{Servo}
use Rattle.servo_rules.specs.Asks.{load_meant, gains_in, gains_fit, gain_meant, stop_meant}
use Rattle.servo_rules.specs.Answers.{type_number, enabled, outputs_from, outputs_of, servo}
use Rattle.servo_rules.proofs.Apart.{apart, unseen}
use Rattle.servo_rules.proofs.Asks.{Each, own_means}
use Rattle.servo_rules.proofs.Bounds.{fit}
use Rattle.servo_rules.proofs.Ranges.{bit_most}
use Rattle.servo_rules.proofs.Reply.{status_bits, numbers_fit}
use Rattle.servo_slot_rules.specs.Slot.{sample, slot, encode_of, decode_of, ok_of, slots}
use Rattle.servo_slot_rules.specs.Promises.{Fits}
use Rattle.servo_slot_rules.proofs.Over.{station_over}
use Rattle.servo_slot_rules.proofs.Good.{good, fits}
use Rattle.servo_slot_rules.proofs.Replaced.{station-good, fresh-good}
use Rattle.servo_slot_rules.proofs.Starts.{start-good, trajectory_good}
use Rattle.servo_slot_rules.proofs.Orders.{gain-good, reset_good, stop-good, homing-set-good, clear-good}
use Rattle.servo_slot_rules.proofs.Ticks.{tick_good}

-- ---- slots

lawful : Lawful slots
unfolding encode_of decode_of ok_of
lawful = slotted_lawful slot (omega arith)

sized : (m n : Servo) → length (encode_of m) ≡ length (encode_of n)
unfolding encode_of
sized m n = slot.lawful.length_enc m ∙ sym (slot.lawful.length_enc n)

begins : (m : Servo) (s : List ℕ) → get_or (pasted 0 (encode_of m) s) 0 0 ≡ type_number
unfolding encode_of
begins m s = ap (λ (l : List ℕ). get_or l 0 0) (pasted-start (encode_of m) s)

typed : (s : List ℕ) → ok_of s ≡ true → get_or s 0 0 ≡ type_number
unfolding ok_of
typed s v = eqb-true _ _ (every_hold (slot.codec.tests 0 s) v).0

-- ---- what the own codes ask keeps a servo such as a slot can hold

-- the gains of a Set Gain whose values are good
gains_in_range : (ds : List ℕ) → (gains_fit (gains_in ds) && eqb (get_or ds 12 0) 1 && eqb (get_or ds 13 0) 0) ≡ true → gains_fit (gains_in ds) ≡ true
gains_in_range ds e = (every_hold (gains_fit (gains_in ds) ∷ eqb (get_or ds 12 0) 1 ∷ eqb (get_or ds 13 0) 0 ∷ []) e).0

each : (code : ℕ) (ds : List ℕ) → Bytes ds → Each (Safe servo slots sample.codec.fits) code ds
unfolding load_meant gain_meant stop_meant
each code ds b = record {
  unknown = tt;
  reset_position = λ c g m t k. fits _ (reset_good (good m t) k);
  load = λ c e m t k. fits _ (trajectory_good (good m t) ds b e k);
  start = λ c g m t k. fits _ (start-good (good m t) k);
  gain = λ c e m t k. fits _ (gain-good (good m t) ds b (gains_in_range ds e));
  stop = λ c g m t k. fits _ (stop-good (good m t) _ _ _ (fit ds b).halt k);
  homing = λ c e m t k. fits _ (homing-set-good (good m t) (get_or ds 0 0) (b 0) e);
  clear_bits = λ c g m t k. fits _ (clear-good (good m t));
}

-- ---- what is driven

outputs_bytes_lem : (m : Servo) → Fits m → Bytes (outputs_of m)
unfolding outputs_from
outputs_bytes_lem m t zero = omega (arith, (good m t).sane.output)
outputs_bytes_lem m t (suc zero) = omega (arith, bit_most 1 (lt_z m.run.drive.output (pos 0)))
outputs_bytes_lem m t (suc (suc zero)) = omega (arith, bit_most 1 (enabled m.latched.power m.run.drive))
outputs_bytes_lem m t (suc (suc (suc i))) = bytes_le 5 0 i

pub owes : Owes servo slots sample.codec.fits
unfolding decode_of outputs_from
owes = record {
  apart = apart;
  unseen = unseen;
  lawful = lawful;
  sized = sized;
  begins = begins;
  typed = typed;
  stationed = λ s. refl;
  alone = λ x s l b v. station_over s (omega (arith, l)) b v x;
  power = fits _ (fresh-good _ ((omega arith, omega arith), (omega arith, (omega arith, (omega arith, omega arith)))));
  held = λ m t. (good m t).station;
  shown = λ m t. refl;
  with_station = λ s m h g t. fits _ (station-good (good m t) s h);
  renewed = λ m t. fits _ (fresh-good m.latched (good m t).latched);
  own = λ code ds b. own_means (Safe servo slots sample.codec.fits) code ds (each code ds b);
  tick = λ x m h t. fits _ (tick_good (good m t) x h);
  eight = refl;
  four = search rules;
  small = omega arith;
  status = λ m. omega (arith, (status_bits m).small);
  numbers = λ m t. let g = good m t in numbers_fit m g.latched.1.0 g.homing.0;
  outputs = λ m t. (refl, outputs_bytes_lem m t);
}
