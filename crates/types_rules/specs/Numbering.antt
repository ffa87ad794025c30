-- A chain's modules with document 01's numbering of causes, which has one number for all that can't be read (document 02, P1).
use Rattle.std.specs.Prelude.{◌≡◌}
use Rattle.module_rules.specs.Kind.{Kind, Along}
use Rattle.module_rules.specs.Numbering as AnyType
use Rattle.types_rules.specs.Table.{rules_of}
use Rattle.types_rules.specs.Types.{Module, AnySample, kind, outputs}

abbrev pub as_older : Module → Module
as_older m = (m.0, AnyType.as_older (rules_of m.0) m.1)

abbrev pub older_kind : Kind Module AnySample
older_kind = record {
  address = kind.address;
  execute = λ f alone m. (m.0, AnyType.older_execute (rules_of m.0) f alone m.1);
  reply = kind.reply;
  tick = kind.tick;
}

-- Nothing but the number differs, of every type of the table.
pub record Renumbered : Type 0 where
  pub along : Along kind older_kind as_older
  pub outputs : (m : Module) → outputs (as_older m) ≡ outputs m
