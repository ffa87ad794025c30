-- `replay_print::put_replies` meets its contract. The invariant: the lines of the places left, put where the loop is, give the whole. Assumes nothing.
use mathlib.Core.Path.{◌≡◌, sym, ◌∙◌}
use Prim.Native.Nat.{◌+◌, ◌-◌}
use native.Mathlib.Nat.{add-zero}
use native.Mathlib.Omega.{arith}
use lib.ListN.{get_or}
use Rattle.base_layout.proofs.Pasted.{pasted_none}
use Rattle.net_rules.specs.Record.{chain_most}
use Rattle.replay_print.proofs.Replies.{print_turn, printed_none}
use Rattle.replay_print.proofs.put_replies.Goals as goal

pub loop-place-preserved : goal.loop-place-preserved
loop-place-preserved c =
    let l = c.loop-place in
    let a = c.args in
    let n = get_or a.lengths l.place 0 in
    let e = c.put_reply-wrote.ensures in
    let small = c.requires.by_index l.place in
    let t = print_turn a.lengths a.room.now c.requires.by_index (chain_most - l.place) l.place l.at l.wrote (l.at + n - l.at) l.out (omega arith) (omega arith) (omega (arith, l.invariant, c.requires.room_size_in_bounds)) (omega arith) e.value e.out_after in
    let k : chain_most - l.place - 1 ≡ chain_most - (l.place + 1) = omega arith in
    (omega arith, t.long ∙ l.invariant.1, omega (arith, t.fits), rw k at t.said ∙ l.invariant.3, rw k at t.total ∙ l.invariant.4)

pub returns : goal.returns
returns c =
    let l = c.loop-place in
    let z : chain_most - l.place ≡ 0 = omega arith in
    let e = printed_none c.args.lengths c.args.room.now c.requires.by_index l.place l.at in
    record { value = sym (add-zero l.wrote) ∙ rw (z, e) at l.invariant.4; out_after = sym (pasted_none l.wrote l.out) ∙ rw (z, e) at l.invariant.3 }
