-- A module of a chain: a type of the table with that type's record. What the chain and the record need of it is said once, over the table.
use Rattle.std.specs.Prelude.{ℕ, List, [], ◌∷◌, Bool, cond, ◌||◌, get_or, eqb}
use Rattle.std.proofs.Math.Option.{Option, some, none}
use Rattle.module_rules.specs.Kind.{Kind}
use Rattle.base_layout.specs.Every.{every}
use Rattle.module_rules.specs.Slots.{Slots, measured_at}
use Rattle.module_rules.specs.Rules.{execute, reply}
use Rattle.types_rules.specs.Table.{ModuleType, first_type, other_types, Of, SampleOf, rules_of, slots_of, sample_of, own_of}

abbrev pub Module : Type 0
Module = (t : ModuleType) × Of t

abbrev pub AnySample : Type 0
AnySample = (t : ModuleType) × SampleOf t

-- a tick with a module's own sample; with none, since the sample was of another type, it changes nothing (no call does so: it is refused with 13)
abbrev pub given : (t : ModuleType) → Option (SampleOf t) → Of t → Of t
given t none m = m
given t (some x) m = (rules_of t).tick x m

abbrev pub kind : Kind Module AnySample
kind = record {
  address = λ m. ((rules_of m.0).station m.1).address;
  execute = λ f alone m. (m.0, execute (rules_of m.0) f alone m.1);
  reply = λ f m. reply (rules_of m.0) f m.1;
  tick = λ x m. (m.0, given m.0 (own_of m.0 x) m.1);
}

-- 01 Numbers given back, 12: the type numbers that there are
abbrev pub numbered : ModuleType → List ModuleType → ℕ → Bool
numbered t [] n = eqb n (rules_of t).number
numbered t (u ∷ us) n = eqb n (rules_of t).number || numbered u us n

abbrev pub known : ℕ → Bool
known n = numbered first_type other_types n

-- the type with a number: the first of some types that has it, and the last of them where none has
abbrev pub type_from : ModuleType → List ModuleType → ℕ → ModuleType
type_from t [] n = t
type_from t (u ∷ us) n = cond (eqb n (rules_of t).number) t (type_from u us n)

abbrev pub type_in : ℕ → ModuleType
type_in n = type_from first_type other_types n

-- the first byte of a slot, and of a sample in a tick's list, is the type's number
abbrev pub type_of_slot : List ℕ → ModuleType
type_of_slot s = type_in (get_or s 0 0)

abbrev pub slots : Slots Module
slots = record {
  enc = λ m. (slots_of m.0).enc m.1;
  dec = λ s. (type_of_slot s, (slots_of (type_of_slot s)).dec s);
  ok = λ s. (slots_of (type_of_slot s)).ok s;
  fits = λ m. (slots_of m.0).fits m.1;
}

-- the number of a module's type, and the module that a number's type is at power-up
abbrev pub type_of : Module → ℕ
type_of m = (rules_of m.0).number

abbrev pub powered : ℕ → Module
powered n = (type_in n, (rules_of (type_in n)).started)

-- how many bytes each item of a number's type has
abbrev pub sizes_of : ℕ → List ℕ
sizes_of n = (rules_of (type_in n)).sizes

-- which item bytes there are of a number's type (02 P3)
abbrev pub shows_of : ℕ → ℕ → Bool
shows_of n items = (rules_of (type_in n)).shows items

-- what the board drives for a module, in eight bytes
abbrev pub outputs : Module → List ℕ
outputs m = (rules_of m.0).outputs m.1

-- the last cause of a module of any type (02 P1)
abbrev pub cause_of : Module → ℕ
cause_of m = ((rules_of m.0).station m.1).cause

-- 02 P11: ten bytes of a tick's list, read as a sample of type t; and the sample in them, of the type whose number stands first
abbrev pub sample_for : (t : ModuleType) → List ℕ → SampleOf t
sample_for t s = (sample_of t).codec.dec measured_at s

abbrev pub sample_in : List ℕ → AnySample
sample_in s = (type_of_slot s, sample_for (type_of_slot s) s)

-- 01 Numbers given back, 14: whether all its fields are in range
abbrev pub in_range : List ℕ → Bool
in_range s = every ((sample_of (type_of_slot s)).codec.tests measured_at s)

-- the samples that are: every field in its range
abbrev pub GoodOf : (t : ModuleType) → SampleOf t → Type 0
GoodOf t = (sample_of t).codec.fits

abbrev pub Good : AnySample → Type 0
Good x = GoodOf x.0 x.1
