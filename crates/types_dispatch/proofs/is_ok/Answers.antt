-- `types_dispatch::is_ok` meets its contract. Each type is one arm. Assumes nothing.
use mathlib.Core.Path.{◌≡◌, sym, ap, ◌∙◌}
use native.Mathlib.Omega.{arith}
use lib.ListN.{get_or}
use Rattle.types_rules.specs.Table.{ModuleType, slots_of, rules_of, servo, inout, stepper}
use Rattle.types_rules.proofs.Dispatch.{type_at, no_type}
use Rattle.types_dispatch.proofs.is_ok.Goals as goal

pub returns-in-0 : goal.returns-in-0
returns-in-0 c =
    let s = c.args.s.now in
    c.is_ok.ensures ∙ ap (λ (t : ModuleType). (slots_of t).ok s) (sym (type_at (get_or c.args.s.now 0 0) servo c.in-0.is))

pub returns-in-2 : goal.returns-in-2
returns-in-2 c =
    let s = c.args.s.now in
    c.is_ok-in-2.ensures ∙ ap (λ (t : ModuleType). (slots_of t).ok s) (sym (type_at (get_or c.args.s.now 0 0) inout c.in-2.is))

pub returns-in-3 : goal.returns-in-3
returns-in-3 c =
    let s = c.args.s.now in
    c.is_ok-in-3.ensures ∙ ap (λ (t : ModuleType). (slots_of t).ok s) (sym (type_at (get_or c.args.s.now 0 0) stepper c.in-3.is))

pub returns-in_default : goal.returns-in_default
returns-in_default c = no_type c.args.s.now none
  where
    none : (t : ModuleType) → get_or c.args.s.now 0 0 ≡ (rules_of t).number → ⊥
    none servo e = omega (arith, e)
    none inout e = omega (arith, e)
    none stepper e = omega (arith, e)
