-- `replay_print::put_replies` meets its contract. The invariant: the lines of the places left, put where the loop is, give the whole. Assumes nothing.
use mathlib.Core.Path.{◌≡◌}
use Prim.Native.Nat.{◌+◌, ◌*◌, ◌-◌, ◌≤◌}
use lib.ListN.{length}
use Rattle.base_layout.specs.Bytes.{pasted}
use Rattle.replay_print.specs.Text.{printed, line_size}
use Rattle.net_rules.specs.Record.{chain_most}
use Rattle.module_rules.specs.Owes.{reply_size}
use Rattle.replay_print.proofs.put_replies.Given as goal

abbrev pub invariant-loop-place : goal.invariant-loop-place
invariant-loop-place l =
    (l.at ≤ reply_size * l.place)
    × (length l.out ≡ length l.initial.out)
    × (l.wrote ≤ line_size * l.place)
    × (pasted l.wrote (printed (chain_most - l.place) l.place l.at l.fn.lengths l.room) l.out ≡ pasted 0 (printed chain_most 0 0 l.fn.lengths l.room) l.initial.out)
    × (l.wrote + length (printed (chain_most - l.place) l.place l.at l.fn.lengths l.room) ≡ length (printed chain_most 0 0 l.fn.lengths l.room))
