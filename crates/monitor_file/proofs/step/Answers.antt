-- `monitor_file::step` meets its contract: a line for each part. Assumes nothing.
use mathlib.Core.Path.{sym, ap, ◌∙◌}
use Rattle.monitor_file.specs.declared.Part.{Part}
use Rattle.monitor_file.specs.Looking.{step}
use Rattle.monitor_file.proofs.step.Goals as goal

pub returns-in-Kind : goal.returns-in-Kind
unfolding step
returns-in-Kind c = c.begun.ensures ∙ sym (ap (λ (p : Part). step p c.args.byte) c.in-Kind.is)

pub returns-in-Mark : goal.returns-in-Mark
unfolding step
returns-in-Mark c = c.marked.ensures ∙ sym (ap (λ (p : Part). step p c.args.byte) c.in-Mark.is)

pub returns-in-Value : goal.returns-in-Value
unfolding step
returns-in-Value c = sym (ap (λ (p : Part). step p c.args.byte) c.in-Value.is)

pub returns-in-Rest : goal.returns-in-Rest
unfolding step
returns-in-Rest c = c.passed.ensures ∙ sym (ap (λ (p : Part). step p c.args.byte) c.in-Rest.is)
