-- `types_dispatch::sample_in` meets its contract. Each type is one arm. Assumes nothing.
use mathlib.Core.Path.{sym, ap, ◌∙◌}
use Rattle.module_rules.specs.Slots.{measured_at}
use lib.ListN.{get_or}
use Rattle.types_rules.specs.Table.{ModuleType, servo, inout, stepper, SampleOf, sample_of}
use Rattle.types_rules.specs.Types.{AnySample}
use Rattle.types_rules.proofs.Dispatch.{type_at, type_last}
use Rattle.types_dispatch.proofs.sample_in.Goals as goal

pub returns-in-0 : goal.returns-in-0
returns-in-0 c =
    let s = c.args.s.now in
    ap (λ (x : SampleOf servo). let y : AnySample = (servo, x) in y) c.sample_in-x.ensures
    ∙ ap (λ (t : ModuleType). let y : AnySample = (t, (sample_of t).codec.dec measured_at s) in y) (sym (type_at (get_or c.args.s.now 0 0) servo c.in-0.is))

pub returns-in-2 : goal.returns-in-2
returns-in-2 c =
    let s = c.args.s.now in
    ap (λ (x : SampleOf inout). let y : AnySample = (inout, x) in y) c.sample_in-x-in-2.ensures
    ∙ ap (λ (t : ModuleType). let y : AnySample = (t, (sample_of t).codec.dec measured_at s) in y) (sym (type_at (get_or c.args.s.now 0 0) inout c.in-2.is))

pub returns-in_default : goal.returns-in_default
returns-in_default c =
    let s = c.args.s.now in
    ap (λ (x : SampleOf stepper). let y : AnySample = (stepper, x) in y) c.sample_in-x-in_default.ensures
    ∙ ap (λ (t : ModuleType). let y : AnySample = (t, (sample_of t).codec.dec measured_at s) in y) (sym (type_last (get_or c.args.s.now 0 0) c.in_default.in_default-own.rest.0.1 c.in_default.in_default-own.rest.1))
