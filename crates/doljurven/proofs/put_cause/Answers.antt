-- `doljurven::put_cause` meets its contract. Assumes nothing.
use Rattle.std.proofs.Common.{◌∙◌, refl}
use Rattle.host_rules.proofs.Refusals.{not_done}
use Rattle.types_rules.specs.Types.{slots}
use Rattle.net_rules.specs.Record.{net_in}
use Rattle.net_rules.specs.Calls.{cause_at}
use Rattle.api_rules.specs.Calls.{cause_byte}
use Rattle.api_rules.specs.Table.{place_table}
use Rattle.api_rules.proofs.Refused.{refused, done}
use Rattle.doljurven.proofs.put_cause.Goals as goal

pub returns-in_err-place_refusal-clause-cause_after : goal.returns-in_err-place_refusal-clause-cause_after
unfolding cause_byte
returns-in_err-place_refusal-clause-cause_after c =
    let a = c.args in
    refused (place_table a.net.now a.place) a.cause.now (cause_at (net_in slots a.net.now) a.place) c.in_err-place_refusal.ensures (not_done _)

pub returns-clause-cause_after : goal.returns-clause-cause_after
unfolding cause_byte
returns-clause-cause_after c =
    let a = c.args in
    c.cause.ensures
    ∙ done (place_table a.net.now a.place) a.cause.now (cause_at (net_in slots a.net.now) a.place) c.in_ok-place_refusal.ensures refl
