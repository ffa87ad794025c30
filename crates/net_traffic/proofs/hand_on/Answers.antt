-- `net_traffic::hand_on` meets its contract. Assumes nothing.
use mathlib.Core.Path.{◌∙◌}
use native.Mathlib.Omega.{arith}
use lib.ListN.{get_or}
use Rattle.line_receiver.specs.Frames.{frame_in}
use Rattle.types_rules.specs.Types.{slots}
use Rattle.net_rules.proofs.Calls.{handed_on}
use Rattle.net_rules.proofs.Exact.{length-modules}
use Rattle.net_rules.proofs.Valid.{valid_is}
use Rattle.net_rules.specs.Record.{count_at}
use Rattle.net_traffic.proofs.hand_on.Goals as goal

pub walk-written-requires : goal.walk-written-requires
walk-written-requires c =
    let s = c.args.net.now in
    let k = valid_is slots s c.requires.0 in
    let n = c.chain_len-n.ensures ∙ length-modules slots s in
    (omega (arith, k, n), omega (arith, k, n, c.requires.1), omega (arith, k, n), rw n k.slots)

pub returns : goal.returns
returns c =
    let a = c.args in
    let e = rw (c.chain_len-n.ensures ∙ length-modules slots a.net.now, c.framed-f.ensures) at c.walk-written.ensures in
    record { value = handed_on (frame_in a.r a.damaged) (get_or a.net.now count_at 0) a.net.now e.value; net_after = e.net_after; room_after = e.room_after }
