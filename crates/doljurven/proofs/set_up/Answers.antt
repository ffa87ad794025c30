-- `doljurven::set_up` meets its contract. Assumes nothing.
use Rattle.std.proofs.Common.{◌∙◌, refl}
use Rattle.host_rules.proofs.Refusals.{not_done}
use Rattle.net_rules.specs.Calls.{fresh}
use Rattle.api_rules.specs.Calls.{setup_record}
use Rattle.api_rules.specs.Table.{setup_table}
use Rattle.api_rules.proofs.Refused.{refused, done}
use Rattle.doljurven.proofs.set_up.Goals as goal

pub returns-in_err-setup_refusal-clause-net_after : goal.returns-in_err-setup_refusal-clause-net_after
unfolding setup_record
returns-in_err-setup_refusal-clause-net_after c =
    let a = c.args in
    refused (setup_table a.net.now a.types.now) a.net.now (fresh a.types.now) c.in_err-setup_refusal.ensures (not_done _)

pub returns-clause-net_after : goal.returns-clause-net_after
unfolding setup_record
returns-clause-net_after c =
    let a = c.args in
    c.set_up.ensures ∙ done (setup_table a.net.now a.types.now) a.net.now (fresh a.types.now) c.in_ok-setup_refusal.ensures refl
