-- `net_traffic::byte` meets its contract. Assumes nothing.
use native.Mathlib.Omega.{arith}
use borrow.Author.Rules.{rules}
use Rattle.types_rules.specs.Types.{slots}
use Rattle.net_rules.specs.Calls.{byte_of}
use Rattle.net_rules.proofs.Valid.{valid_is}
use Rattle.net_rules.proofs.Taking.{byte_is}
use Rattle.net_traffic.proofs.byte.Goals as goal

pub receiver_in-r-requires : goal.receiver_in-r-requires
receiver_in-r-requires c = omega (arith, valid_is slots c.args.net.now c.requires.0)

pub put_receiver-requires : goal.put_receiver-requires
put_receiver-requires c = omega (arith, valid_is slots c.args.net.now c.requires.0)

pub returns : goal.returns
returns c =
    let a = c.args in
    let e = c.answered-called.ensures in
    let r = byte_is a.net.now (search rules) c.requires.0 a.room.now (byte_of a.value a.mark) (omega arith) c.receiver_in-r.ensures c.take-got.ensures (e.value, (e.net_after, e.room_after)) c.put_receiver.ensures in
    record { value = r.0; net_after = r.1.0; room_after = r.1.1 }
