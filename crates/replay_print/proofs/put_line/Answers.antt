-- `replay_print::put_line` meets its contract. Assumes nothing.
use Prim.Native.Nat.{◌+◌, ◌*◌, ◌≤◌}
use native.Mathlib.Omega.{arith}
use lib.ListN.{length}
use Rattle.base_text.specs.Digits.{decimal}
use Rattle.replay_print.specs.Text.{hexes, line}
use Rattle.replay_print.proofs.Text.{place_short, line-length, length-hexes, all_put}
use Rattle.replay_print.proofs.put_line.Goals as goal
use Rattle.replay_print.proofs.put_line.Goals.{Start}

short : (c : Start) → length (decimal c.args.place) ≤ 2
short c = place_short c.args.place c.requires.0

pub put_decimal-n-requires : goal.put_decimal-n-requires
put_decimal-n-requires c = omega (arith, short (goal.at.put_decimal-n-requires c).Start, c.requires)

pub put_pairs-requires : goal.put_pairs-requires
put_pairs-requires c = let n = short (goal.at.put_pairs-requires c).Start in omega (arith, c.put_decimal-n.ensures.value, c.put_decimal-n.auto, c.requires)

pub bounds-out-at : goal.bounds-out-at
bounds-out-at c = let n = short (goal.at.bounds-out-at c).Start in omega (arith, c.put_decimal-n.ensures.value, c.put_decimal-n.auto, c.put_pairs.auto, c.requires)

pub returns : goal.returns
unfolding line
returns c =
    let s = (goal.at.returns c).Start in
    let a = s.args in
    let d = c.put_decimal-n.ensures in
    let h = c.put_pairs.ensures in
    let r = c.put_decimal-n.result in
    let n = short s in
    let k = length-hexes a.bytes.now in record { value = omega (arith, line-length a.place a.bytes.now, d.value); out_after = all_put a.at 10 (a.at + (r + 3 * length a.bytes.now)) (a.at + r) (decimal a.place) (hexes a.bytes.now) a.out.now (omega (arith, s.requires)) d.out_after (omega (arith, d.value)) h (omega (arith, d.value)) }
