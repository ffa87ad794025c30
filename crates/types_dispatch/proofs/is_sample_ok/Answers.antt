-- `types_dispatch::is_sample_ok` meets its contract. Each type is one arm. Assumes nothing.
use mathlib.Core.Path.{sym, ap, ◌∙◌}
use Rattle.base_layout.specs.Every.{every}
use Rattle.module_rules.specs.Slots.{measured_at}
use lib.ListN.{get_or}
use Rattle.types_rules.specs.Table.{ModuleType, sample_of, servo, inout}
use Rattle.types_rules.proofs.Dispatch.{type_at, type_last}
use Rattle.types_dispatch.proofs.is_sample_ok.Goals as goal

pub returns-in-0 : goal.returns-in-0
returns-in-0 c =
    let s = c.args.s.now in
    c.is_sample_ok.ensures ∙ ap (λ (t : ModuleType). every ((sample_of t).codec.tests measured_at s)) (sym (type_at (get_or c.args.s.now 0 0) servo c.in-0.is))

pub returns-in-2 : goal.returns-in-2
returns-in-2 c =
    let s = c.args.s.now in
    c.is_sample_ok-in-2.ensures ∙ ap (λ (t : ModuleType). every ((sample_of t).codec.tests measured_at s)) (sym (type_at (get_or c.args.s.now 0 0) inout c.in-2.is))

pub returns-in_default : goal.returns-in_default
returns-in_default c =
    let s = c.args.s.now in
    c.is_sample_ok-in_default.ensures ∙ ap (λ (t : ModuleType). every ((sample_of t).codec.tests measured_at s)) (sym (type_last (get_or c.args.s.now 0 0) c.in_default.in_default-own.rest.0.1 c.in_default.in_default-own.rest.1))
