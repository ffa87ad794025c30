-- `doljurven::tick` meets its contract. Assumes nothing.
use Rattle.std.proofs.Common.{refl}
use Rattle.host_rules.proofs.Refusals.{not_done}
use Rattle.api_rules.proofs.Refused.{tick_refused, tick_done}
use Rattle.doljurven.proofs.tick.Goals as goal

pub returns-in_err-tick_refusal-clause-net_after : goal.returns-in_err-tick_refusal-clause-net_after
returns-in_err-tick_refusal-clause-net_after c =
    let a = c.args in
    (tick_refused a.net.now a.samples.now c.in_err-tick_refusal.ensures (not_done _)).1

pub returns-clause-net_after : goal.returns-clause-net_after
returns-clause-net_after c =
    let a = c.args in
    (tick_done a.net.now a.samples.now c.in_ok-tick_refusal.ensures refl c.tick.ensures).1
