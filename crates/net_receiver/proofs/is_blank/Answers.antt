-- `net_receiver::is_blank` meets its contract. The invariant: the bytes looked at and those left are blank exactly if all are. Assumes nothing.
use Rattle.std.proofs.Common.{◌≡◌, ℕ, List, [], Bool, ◌&&◌, ◌≤◌, length, take, sym, ap, ◌∙◌, arith}
use mathlib.Core.Bool.{and-true as and-nothing}
use lib.ListN.{drop, drop_of_length-le}
use lib.Seq.{length-take-le}
use Rattle.base_layout.specs.Bytes.{read_at}
use Rattle.base_layout.proofs.Laws.{read_at_part}
use Rattle.net_rules.specs.Record.{blank, receiver_size}
use Rattle.net_receiver.proofs.is_blank.Goals as goal

over : (s : List ℕ) (i : ℕ) (so_far : Bool) → receiver_size ≤ length s → receiver_size ≤ i
    → (so_far && blank (drop i (take receiver_size s))) ≡ blank (take receiver_size s) → so_far ≡ blank (read_at receiver_size 0 s)
over s i so_far h k e =
    let z : drop i (take receiver_size s) ≡ [] = drop_of_length-le (take receiver_size s) {i = i} (omega (arith, length-take-le receiver_size s h)) in
    sym (and-nothing so_far) ∙ rw z at e ∙ ap blank (sym (read_at_part receiver_size 0 s h))

pub returns : goal.returns
returns c = let l = c.loop-byte in over c.args.s.now l.byte-index l.is_blank (omega arith) (omega (arith, length-take-le receiver_size c.args.s.now (omega arith))) l.invariant
