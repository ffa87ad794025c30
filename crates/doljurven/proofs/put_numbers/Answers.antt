-- `doljurven::put_numbers` meets its contract. The invariant: the numbers left, put where the loop is, give the whole. Assumes nothing.
use Rattle.std.proofs.Common.{◌≡◌, ◌+◌, ◌*◌, ◌-◌, sym, ◌∙◌, arith}
use Rattle.base_layout.proofs.Pasted.{pasted_none}
use Rattle.api_rules.proofs.Numbers.{numbers_turn}
use Rattle.doljurven.proofs.put_numbers.Goals as goal

pub loop-i-preserved : goal.loop-i-preserved
loop-i-preserved c =
    let l = c.loop-i in
    let n : 8 - (l.i + 1) ≡ 8 - l.i - 1 = omega arith in
    let at : 1 + 4 * (l.i + 1) ≡ 1 + 4 * l.i + 4 = omega arith in
    rw (n, at, c.put_number.ensures) (numbers_turn (8 - l.i) l.i (1 + 4 * l.i) c.args.ns l.s (omega arith) (omega arith) ∙ l.invariant)

pub returns : goal.returns
returns c =
    let l = c.loop-i in
    let z : 8 - l.i ≡ 0 = omega arith in
    sym (pasted_none (1 + 4 * l.i) l.s) ∙ rw z at l.invariant
