-- The slots of every module type are lawful, and what can be told of a slot without decoding it. Assumes nothing.
use mathlib.Core.Path.{◌≡◌, refl, ap, ◌∙◌}
use mathlib.Core.List.{List}
use mathlib.Core.Bool.{true}
use Prim.Native.Nat.{ℕ, ◌≤◌}
use lib.ListN.{length, get_or}
use Rattle.base_layout.specs.Bytes.{pasted}
use Rattle.line_receiver.specs.Frames.{Frame}
use Rattle.module_rules.specs.declared.Station.{Station}
use Rattle.module_rules.specs.Slot.{address, station}
use Rattle.module_rules.specs.Slots.{Lawful, station_at}
use Rattle.module_rules.specs.Kind.{replied}
use Rattle.module_rules.specs.Owes.{reply_size}
use Rattle.module_rules.proofs.Kept.{reply_most}
use Rattle.chain_rules.proofs.Along.{replied_short}
use Rattle.types_rules.specs.Table.{ModuleType, servo, inout, stepper, Of, rules_of, slots_of}
use Rattle.types_rules.specs.Types.{Module, kind, type_in, type_of_slot, slots, type_of, cause_of, GoodOf}
use Rattle.types_rules.proofs.Owed.{owes}

-- a type's number leads back to it
pub type_back : (t : ModuleType) → type_in (rules_of t).number ≡ t
type_back servo = refl
type_back inout = refl
type_back stepper = refl

-- so does a slot that it was put into
put_type : (t : ModuleType) (x : Of t) (s : List ℕ) → type_of_slot (pasted 0 ((slots_of t).enc x) s) ≡ t
put_type t x s = ap type_in ((owes t).begins x s) ∙ type_back t

pub lawful : Lawful slots
lawful = record {
  short = λ m. (owes m.0).lawful.short m.1;
  bytes = λ m f. (owes m.0).lawful.bytes m.1 f;
  there = λ s e h v. (owes (type_of_slot s)).lawful.there s e h v;
  sound = λ s e h v. (owes (type_of_slot s)).lawful.sound s e h v;
  back = λ m s e f.
      let p : List ℕ = pasted 0 (slots.enc m) s in
      ap (λ (t : ModuleType). let n : Module = (t, (slots_of t).dec p) in n) (put_type m.0 m.1 s)
      ∙ ap (λ (x : Of m.0). let n : Module = (m.0, x) in n) ((owes m.0).lawful.back m.1 s e f);
  valid = λ m s e f.
      let p : List ℕ = pasted 0 (slots.enc m) s in
      ap (λ (t : ModuleType). (slots_of t).ok p) (put_type m.0 m.1 s) ∙ (owes m.0).lawful.valid m.1 s e f;
}

-- who the module in a slot is can be told without decoding it
pub address_is : (s : List ℕ) → kind.address (slots.dec s) ≡ address.codec.dec station_at s
address_is s = ap (λ (x : Station). x.address) ((owes (type_of_slot s)).stationed s)

-- so can its last cause
pub cause_is : (s : List ℕ) → cause_of (slots.dec s) ≡ (station.codec.dec station_at s).cause
cause_is s = ap (λ (x : Station). x.cause) ((owes (type_of_slot s)).stationed s)

-- its type too, in a valid slot
pub type_is : (s : List ℕ) → slots.ok s ≡ true → get_or s 0 0 ≡ type_of (slots.dec s)
type_is s v = (owes (type_of_slot s)).typed s v

pub said_short : (f : Frame) (m : Module) → length (replied kind f m) ≤ reply_size
said_short f m = replied_short kind f reply_size (λ m. reply_most (rules_of m.0) (slots_of m.0) (GoodOf m.0) (owes m.0) f m.1) m
