-- `doljurven::put_outputs` meets its contract. Assumes nothing.
use Rattle.std.proofs.Common.{◌∙◌, refl}
use Rattle.host_rules.proofs.Refusals.{not_done}
use Rattle.types_rules.specs.Types.{slots}
use Rattle.net_rules.specs.Record.{net_in}
use Rattle.net_rules.specs.Calls.{outputs_at}
use Rattle.api_rules.specs.Calls.{outputs_bytes}
use Rattle.api_rules.specs.Table.{place_table}
use Rattle.api_rules.proofs.Refused.{refused, done}
use Rattle.doljurven.proofs.put_outputs.Goals as goal

pub returns-in_err-place_refusal-clause-outputs_after : goal.returns-in_err-place_refusal-clause-outputs_after
unfolding outputs_bytes
returns-in_err-place_refusal-clause-outputs_after c =
    let a = c.args in
    refused (place_table a.net.now a.place) a.outputs.now (outputs_at (net_in slots a.net.now) a.place) c.in_err-place_refusal.ensures (not_done _)

pub returns-clause-outputs_after : goal.returns-clause-outputs_after
unfolding outputs_bytes
returns-clause-outputs_after c =
    let a = c.args in
    c.outputs.ensures
    ∙ done (place_table a.net.now a.place) a.outputs.now (outputs_at (net_in slots a.net.now) a.place) c.in_ok-place_refusal.ensures refl
