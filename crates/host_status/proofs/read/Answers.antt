-- `host_status::read` meets its contract. The invariant: the numbers read and those that the bytes left hold give the whole. Assumes nothing.
use Rattle.std.proofs.Common.{◌≡◌, sym, ◌∙◌, [], take, drop, arith, append-nil}
use lib.ListN.{drop_of_length-le}
use lib.Seq.{take_all}
use Rattle.host_rules.specs.Reading.{numbers_in, reading_of}
use Rattle.host_status.proofs.read.Goals as goal

pub returns : goal.returns
unfolding reading_of
returns c =
    let l = c.loop-i in
    let a = c.args in
    let z : drop l.i a.sizes ≡ [] = drop_of_length-le a.sizes {i = l.i} (omega arith) in
    let f : take l.i l.number-items ≡ l.number-items = take_all l.i l.number-items (omega arith) in
    let n : l.number-items ≡ numbers_in a.items a.sizes (drop 1 a.reply.now) = sym (append-nil l.number-items) ∙ rw (f, z) at l.invariant.2 in
    rw n
