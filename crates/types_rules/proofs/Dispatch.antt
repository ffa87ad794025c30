-- What a call of a slot's own type gives is what the table says of the slot. Assumes nothing.
use mathlib.Core.Path.{◌≡◌, refl, sym, ap, ap₂, subst⁻¹, ◌∙◌}
use mathlib.Core.List.{List}
use mathlib.Core.Bool.{Bool, true, false, cond}
use mathlib.Core.Option.{Option}
use Prim.Native.Nat.{ℕ}
use borrow.Author.Tests.{ne_eqb}
use lib.ListN.{length, get_or}
use Rattle.base_layout.specs.Bytes.{pasted, Bytes}
use Rattle.line_receiver.specs.Frames.{Frame}
use Rattle.module_rules.specs.Kind.{executed, replied}
use Rattle.module_rules.specs.Rules.{kind_of}
use Rattle.module_rules.specs.Slots.{slot_size}
use Rattle.types_rules.specs.Table.{ModuleType, servo, inout, stepper, Of, SampleOf, rules_of, slots_of, own_of}
use Rattle.types_rules.specs.Types.{AnySample, kind, given, type_in, type_of_slot, slots}
use Rattle.types_rules.proofs.Owed.{owes}
use Rattle.types_rules.proofs.Given.{own_of_lem, another}
use Rattle.types_rules.proofs.Laws.{type_back}

-- the type with a number, and the last type, which has every number that no other has
pub type_at : (n : ℕ) (t : ModuleType) → n ≡ (rules_of t).number → type_in n ≡ t
type_at n t e = ap type_in e ∙ type_back t

pub type_last : (n : ℕ) → (n ≡ (rules_of servo).number → ⊥) → (n ≡ (rules_of inout).number → ⊥) → type_in n ≡ stepper
type_last n h i = ap₂ (λ (a b : Bool). cond a servo (cond b inout stepper)) (ne_eqb n 0 h) (ne_eqb n 2 i)

-- a slot whose first byte is no type's number is not valid
pub no_type : (s : List ℕ) → ((t : ModuleType) → get_or s 0 0 ≡ (rules_of t).number → ⊥) → false ≡ slots.ok s
no_type s h = at (slots.ok s) refl
  where
    at : (b : Bool) → slots.ok s ≡ b → false ≡ b
    at true e = absurd (h (type_of_slot s) ((owes (type_of_slot s)).typed s e))
    at false e = refl

module _ (s : List ℕ) (t : ModuleType) (e : type_of_slot s ≡ t) where
  pub touched : (f : Frame) (room : List ℕ) (from : ℕ) {r : ℕ} {s' room' : List ℕ}
      → (r ≡ length (replied (kind_of (rules_of t)) f ((slots_of t).dec s)))
      × ((s' ≡ pasted 0 ((slots_of t).enc (executed (kind_of (rules_of t)) f ((slots_of t).dec s))) s)
      × (room' ≡ pasted from (replied (kind_of (rules_of t)) f ((slots_of t).dec s)) room))
      → (r ≡ length (replied kind f (slots.dec s)))
      × ((s' ≡ pasted 0 (slots.enc (executed kind f (slots.dec s))) s) × (room' ≡ pasted from (replied kind f (slots.dec s)) room))
  touched f room from {r} {s'} {room'} p =
      subst⁻¹
      (λ (u : ModuleType).
      (r ≡ length (replied (kind_of (rules_of u)) f ((slots_of u).dec s)))
      × ((s' ≡ pasted 0 ((slots_of u).enc (executed (kind_of (rules_of u)) f ((slots_of u).dec s))) s)
      × (room' ≡ pasted from (replied (kind_of (rules_of u)) f ((slots_of u).dec s)) room)))
      e p

  given_there : (x : AnySample) {s' : List ℕ} → s' ≡ pasted 0 ((slots_of t).enc (given t (own_of t x) ((slots_of t).dec s))) s
      → s' ≡ pasted 0 (slots.enc (kind.tick x (slots.dec s))) s
  given_there x {s'} p = subst⁻¹ (λ (u : ModuleType). s' ≡ pasted 0 ((slots_of u).enc (given u (own_of u x) ((slots_of u).dec s))) s) e p

  pub ticked : (x : SampleOf t) {s' : List ℕ} → s' ≡ pasted 0 ((slots_of t).enc ((rules_of t).tick x ((slots_of t).dec s))) s
      → s' ≡ pasted 0 (slots.enc (kind.tick (t, x) (slots.dec s))) s
  ticked x p =
      given_there (t, x) (p ∙ ap (λ (o : Option (SampleOf t)). pasted 0 ((slots_of t).enc (given t o ((slots_of t).dec s))) s) (sym (own_of_lem t x)))

-- a tick with a sample of another type leaves a valid slot as it is
pub unticked : (s : List ℕ) (x : AnySample) → (get_or s 0 0 ≡ (rules_of x.0).number → ⊥) → length s ≡ slot_size → Bytes s → slots.ok s ≡ true
    → s ≡ pasted 0 (slots.enc (kind.tick x (slots.dec s))) s
unticked s x n l b o =
    let t : ModuleType = type_of_slot s in
    sym ((owes t).lawful.there s l b o)
    ∙ ap (λ (m : Of t). pasted 0 ((slots_of t).enc m) s) (sym (another t x ((slots_of t).dec s) (λ z. n ((owes t).typed s o ∙ sym z))))
