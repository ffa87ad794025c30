-- `types_dispatch::outputs` meets its contract. Each type is one arm. Assumes nothing.
use mathlib.Core.Path.{◌≡◌, sym, ap, subst, ◌∙◌}
use mathlib.Core.Bool.{true}
use native.Mathlib.Omega.{arith}
use lib.ListN.{get_or}
use Rattle.types_rules.specs.Table.{ModuleType, rules_of, slots_of, servo, inout}
use Rattle.types_rules.proofs.Dispatch.{type_at, type_last}
use Rattle.types_dispatch.proofs.outputs.Goals as goal

pub outputs-requires : goal.outputs-requires
outputs-requires c =
    let s = c.args.s.now in
    (omega (arith, c.requires.0), subst (λ (t : ModuleType). (slots_of t).ok s ≡ true) (type_at (get_or c.args.s.now 0 0) servo c.in-0.is) c.requires.1)

pub returns-in-0 : goal.returns-in-0
returns-in-0 c =
    let s = c.args.s.now in
    c.outputs.ensures ∙ ap (λ (t : ModuleType). (rules_of t).outputs ((slots_of t).dec s)) (sym (type_at (get_or c.args.s.now 0 0) servo c.in-0.is))

pub returns-in-2 : goal.returns-in-2
returns-in-2 c =
    let s = c.args.s.now in
    c.outputs-in-2.ensures ∙ ap (λ (t : ModuleType). (rules_of t).outputs ((slots_of t).dec s)) (sym (type_at (get_or c.args.s.now 0 0) inout c.in-2.is))

pub returns-in_default : goal.returns-in_default
returns-in_default c =
    let s = c.args.s.now in
    c.outputs-in_default.ensures ∙ ap (λ (t : ModuleType). (rules_of t).outputs ((slots_of t).dec s)) (sym (type_last (get_or c.args.s.now 0 0) c.in_default.in_default-own.rest.0.1 c.in_default.in_default-own.rest.1))
