-- `net_record::is_typed` meets its contract. Assumes nothing.
use mathlib.Core.Path.{ap, ◌∙◌}
use Prim.Native.Nat.{ℕ}
use native.Mathlib.Omega.{arith}
use lib.ListN.{drop}
use Rattle.types_rules.specs.Types.{slots}
use Rattle.net_rules.specs.Record.{modules_in, net_in, slots_at}
use Rattle.net_rules.specs.Calls.{all_typed}
use Rattle.net_rules.proofs.Valid.{valid_is}
use Rattle.net_rules.proofs.Exact.{length-modules}
use Rattle.net_record.proofs.is_typed.Goals as goal

pub is_each_typed-requires : goal.is_each_typed-requires
is_each_typed-requires c =
    let a = c in
    let net = a.args.net.now in
    let w = valid_is slots net a.requires.0 in
    let n = c.chain_len-n.ensures ∙ length-modules slots net in
    (omega (arith, w, n), rw n w.slots, omega (arith, a.requires.1, c.chain_len-n.ensures))

pub returns : goal.returns
unfolding net_in
returns c =
    let a = c.args in
    c.is_each_typed.ensures
    ∙ ap (λ (n : ℕ). all_typed (modules_in slots n (drop slots_at a.net.now)) a.samples.now) (c.chain_len-n.ensures ∙ length-modules slots a.net.now)
