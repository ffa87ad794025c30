-- `types_dispatch::power_up` meets its contract. Each type is one arm. Assumes nothing.
use mathlib.Core.Path.{sym, ap, ◌∙◌}
use Rattle.base_layout.specs.Bytes.{pasted}
use Rattle.types_rules.specs.Table.{ModuleType, servo, inout, stepper, Of, rules_of, slots_of}
use Rattle.types_rules.proofs.Dispatch.{type_at, type_last}
use Rattle.types_dispatch.proofs.power_up.Goals as goal

pub returns-in-0 : goal.returns-in-0
returns-in-0 c =
    let s = c.args.s.now in
    c.put.ensures
    ∙ ap (λ (m : Of servo). pasted 0 ((slots_of servo).enc m) s) c.power_up.ensures
    ∙ ap (λ (t : ModuleType). pasted 0 ((slots_of t).enc (rules_of t).started) s) (sym (type_at c.args.t servo c.in-0.is))

pub returns-in-2 : goal.returns-in-2
returns-in-2 c =
    let s = c.args.s.now in
    c.put-in-2.ensures
    ∙ ap (λ (m : Of inout). pasted 0 ((slots_of inout).enc m) s) c.power_up-in-2.ensures
    ∙ ap (λ (t : ModuleType). pasted 0 ((slots_of t).enc (rules_of t).started) s) (sym (type_at c.args.t inout c.in-2.is))

pub returns-in_default : goal.returns-in_default
returns-in_default c =
    let s = c.args.s.now in
    c.put-in_default.ensures
    ∙ ap (λ (m : Of stepper). pasted 0 ((slots_of stepper).enc m) s) c.power_up-in_default.ensures
    ∙ ap (λ (t : ModuleType). pasted 0 ((slots_of t).enc (rules_of t).started) s) (sym (type_last c.args.t c.in_default.in_default-own.rest.0.1 c.in_default.in_default-own.rest.1))
