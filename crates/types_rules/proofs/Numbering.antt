-- Nothing but the number of a cause differs, of every type of the table. Assumes nothing.
use mathlib.Core.Path.{◌≡◌, refl, ap}
use mathlib.Core.Option.{Option, some, none}
use Rattle.module_rules.specs.Numbering as AnyType
use Rattle.module_rules.proofs.Numbering as Every
use Rattle.types_rules.specs.Table.{ModuleType, Of, SampleOf, rules_of, own_of}
use Rattle.types_rules.specs.Types.{given}
use Rattle.types_rules.specs.Numbering.{as_older, Renumbered}
use Rattle.types_rules.proofs.Owed.{owes}

same : (t : ModuleType) → AnyType.Renumbered (rules_of t)
same t = Every.renumbered (rules_of t) (owes t).apart (owes t).unseen

-- a tick with a sample of the module's own type, or with none
given-same : (t : ModuleType) (o : Option (SampleOf t)) (m : Of t) → given t o (AnyType.as_older (rules_of t) m) ≡ AnyType.as_older (rules_of t) (given t o m)
given-same t none m = refl
given-same t (some x) m = (same t).along.tick x m

pub renumbered : Renumbered
renumbered = record {
  along = record {
    line = record {
      address = λ m. (same m.0).along.line.address m.1;
      execute = λ f alone m. ap (λ (n : Of m.0). (m.0, n)) ((same m.0).along.line.execute f alone m.1);
      reply = λ f m. (same m.0).along.line.reply f m.1;
    };
    tick = λ x m. ap (λ (n : Of m.0). (m.0, n)) (given-same m.0 (own_of m.0 x) m.1);
  };
  outputs = λ m. (same m.0).outputs m.1;
}
