-- `net_receiver::chain_len` meets its contract. Assumes nothing.
use Rattle.net_rules.proofs.Exact.{length-modules}
use Rattle.net_rules.proofs.Valid.{valid_is}
use Rattle.types_rules.specs.Types.{slots}
use native.Mathlib.Omega.{arith}
use mathlib.Core.Path.{sym}
use Rattle.net_receiver.proofs.chain_len.Goals as goal

pub bounds-net-19 : goal.bounds-net-19
bounds-net-19 c = let w = valid_is slots c.args.net.now c.requires in omega (arith, w.size)

pub returns : goal.returns
returns c = sym (length-modules slots c.args.net.now)
