-- What the I/O module owes as a module type. Assumes nothing.
use mathlib.Core.Path.{◌≡◌, refl, sym, ap, ◌∙◌}
use mathlib.Core.List.{List}
use mathlib.Core.Bool.{true}
use Prim.Native.Nat.{ℕ}
use native.Mathlib.Omega.{arith}
use borrow.Author.Tests.{eqb-true}
use borrow.Author.Rules.{rules}
use lib.ListN.{length, get_or}
use Rattle.base_layout.specs.Bytes.{pasted}
use Rattle.base_layout.proofs.Every.{every_hold}
use Rattle.base_layout.proofs.Pasted.{pasted-start}
use Rattle.module_rules.specs.Slot.{station}
use Rattle.module_rules.specs.Slots.{Lawful, station_at}
use Rattle.module_rules.specs.Owes.{Owes}
use Rattle.module_rules.proofs.Slotting.{slotted_lawful}
use Rattle.inout_rules.specs.declared.Io.{Io}
use Rattle.inout_rules.specs.Answers.{type_number, inout}
use Rattle.inout_rules.proofs.Apart.{apart, unseen}
use Rattle.inout_slot_rules.specs.Slot.{sample, slot, encode_of, decode_of, ok_of, slots}
use Rattle.inout_slot_rules.proofs.Over.{station_over}
use Rattle.inout_slot_rules.proofs.Replaced.{station_fits, latched_fits, fresh_fits, none_fits, own_safe, status_fits, numbers_fit, outputs_fit}

lawful : Lawful slots
unfolding encode_of decode_of ok_of
lawful = slotted_lawful slot (omega arith)

sized : (m n : Io) → length (encode_of m) ≡ length (encode_of n)
unfolding encode_of
sized m n = slot.lawful.length_enc m ∙ sym (slot.lawful.length_enc n)

begins : (m : Io) (s : List ℕ) → get_or (pasted 0 (encode_of m) s) 0 0 ≡ type_number
unfolding encode_of
begins m s = ap (λ (l : List ℕ). get_or l 0 0) (pasted-start (encode_of m) s)

typed : (s : List ℕ) → ok_of s ≡ true → get_or s 0 0 ≡ type_number
unfolding ok_of
typed s v = eqb-true _ _ (every_hold (slot.codec.tests 0 s) v).0

stationed : (s : List ℕ) → (decode_of s).station ≡ station.codec.dec station_at s
unfolding decode_of
stationed s = refl

pub owes : Owes inout slots sample.codec.fits
owes = record {
  apart = apart;
  unseen = unseen;
  lawful = lawful;
  sized = sized;
  begins = begins;
  typed = typed;
  stationed = stationed;
  alone = λ x s l b v. station_over s (omega (arith, l)) b v x;
  power = fresh_fits _ none_fits;
  held = λ m t. t.1.0;
  shown = λ m t. refl;
  with_station = λ s m h g t. station_fits m t s h;
  renewed = λ m t. fresh_fits m.latched t.1.1.0;
  own = own_safe;
  tick = λ x m h t. latched_fits m t x h;
  eight = refl;
  four = search rules;
  small = omega arith;
  status = λ m. status_fits m.station.cause;
  numbers = numbers_fit;
  outputs = λ m t. (refl, outputs_fit m t);
}
