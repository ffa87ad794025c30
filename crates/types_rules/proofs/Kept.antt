-- A module of any type that can be written stays one, from power-up on. Assumes nothing.
use mathlib.Core.Path.{◌≡◌, refl, subst}
use Prim.Native.Nat.{ℕ}
use Rattle.module_rules.specs.Slots.{Preserves}
use Rattle.module_rules.proofs.Kept as AnyType
use Rattle.types_rules.specs.Table.{ModuleType, Of, rules_of, slots_of, own_of}
use Rattle.types_rules.specs.Types.{AnySample, kind, type_in, slots, powered, given, GoodOf, Good}
use Rattle.types_rules.proofs.Owed.{owes}
use Rattle.types_rules.proofs.Given.{by_own}

pub preserves : Preserves kind slots Good
preserves = record {
  execute = λ f alone m b h.
      (AnyType.preserves (rules_of m.0) (slots_of m.0) (GoodOf m.0) (owes m.0)).execute f alone m.1 b h;
  tick = λ x m g h. by_own m.0 (slots_of m.0).fits x m.1 h (λ y e. (owes m.0).tick y m.1 (subst Good e g) h);
}

pub powered_fits : (n : ℕ) → slots.fits (powered n)
powered_fits n = (owes (type_in n)).power

-- a tick with a sample of whatever type leaves who a module is
pub given-address : (t : ModuleType) (x : AnySample) (m : Of t) → (rules_of t).station (given t (own_of t x) m) ≡ (rules_of t).station m
given-address t x m =
    by_own t (λ (n : Of t). (rules_of t).station n ≡ (rules_of t).station m) x m refl (λ y e. (owes t).apart.tick y m)
