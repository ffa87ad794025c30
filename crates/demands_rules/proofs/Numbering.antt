-- Nothing but the number of a cause differs from document 01. Assumes nothing.
use mathlib.Core.Path.{◌≡◌, refl, sym, ap, ap₂, ◌∙◌}
use mathlib.Core.List.{List, [], ◌∷◌, map}
use Prim.Native.Nat.{ℕ}
use Rattle.line_receiver.specs.Receive.{idle}
use Rattle.chain_rules.specs.Chain.{Outcome}
use Rattle.types_rules.specs.Table.{ModuleType, servo, inout, stepper, rules_of}
use Rattle.types_rules.specs.Types.{Module, type_in, kind, powered}
use Rattle.types_rules.specs.Numbering.{as_older, older_kind}
use Rattle.types_rules.proofs.Numbering.{renumbered}
use Rattle.net_rules.specs.Calls.{set_up}
use Rattle.demands_history_rules.specs.Events.{run}
use Rattle.demands_history_rules.proofs.Along.{runs_along}
use Rattle.demands_rules.specs.Numbering.{OnlyTheNumber}

-- at power-up no module has a cause
started_older : (t : ModuleType) → as_older (t, (rules_of t).started) ≡ (t, (rules_of t).started)
started_older servo = refl
started_older inout = refl
started_older stepper = refl

powered_older : (ts : List ℕ) → map as_older (map powered ts) ≡ map powered ts
powered_older [] = refl
powered_older (t ∷ ts) = ap₂ ◌∷◌ (started_older (type_in t)) (powered_older ts)

pub only_the_number : OnlyTheNumber
only_the_number = record {
  numbers = refl;
  history = runs_along kind older_kind as_older renumbered.along;
  powered = λ types h.
      ap (λ (ms : List Module). (run older_kind h (record { receiver = idle; modules = ms })).replies) (sym (powered_older types))
      ∙ ap (λ (o : Outcome Module). o.replies) (runs_along kind older_kind as_older renumbered.along h (set_up types));
  outputs = renumbered.outputs;
}
