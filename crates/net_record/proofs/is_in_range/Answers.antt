-- `net_record::is_in_range` meets its contract. The invariant: what the samples left say is what they all say. Assumes nothing.
use mathlib.Core.Path.{◌≡◌, sym, ◌∙◌}
use mathlib.Core.Bool.{◌&&◌}
use Prim.Native.Nat.{ℕ, ◌+◌, ◌*◌, ◌-◌}
use native.Mathlib.Omega.{arith}
use lib.ListN.{drop}
use Rattle.module_rules.specs.Slots.{sample_size}
use Rattle.net_rules.specs.Calls.{all_in_range}
use Rattle.net_rules.proofs.Listed.{range_turn, range_done}
use Rattle.net_record.proofs.is_in_range.Goals as goal
use Rattle.net_record.proofs.is_in_range.Goals.{After-is_sample_ok}

turned : (c : After-is_sample_ok)
    → (c.is_sample_ok.result && all_in_range (c.args.n - (c.loop-place.place + 1)) (drop (sample_size * (c.loop-place.place + 1)) c.args.samples.now))
    ≡ all_in_range c.args.n c.args.samples.now
turned c =
    let l = c.loop-place in
    let left : ℕ = c.args.n - l.place in
    let from : ℕ = sample_size * l.place in
    let one_less : c.args.n - (l.place + 1) ≡ left - 1 = omega arith in
    let next_sample : sample_size * (l.place + 1) ≡ from + sample_size = omega arith in
    rw (one_less, next_sample) (range_turn left from c.args.samples.now (omega arith) c.is_sample_ok.ensures ∙ l.invariant)

pub returns-then-not-is_sample_ok : goal.returns-then-not-is_sample_ok
returns-then-not-is_sample_ok c = rw c.if-not-is_sample_ok.true at (turned (goal.at.returns-then-not-is_sample_ok c).After-is_sample_ok)

pub loop-place-preserved : goal.loop-place-preserved
loop-place-preserved c = rw c.if-not-is_sample_ok.false at (turned (goal.at.loop-place-preserved c).After-is_sample_ok)

pub returns : goal.returns
returns c =
    let l = c.loop-place in
    let none_left : c.args.n - l.place ≡ 0 = omega arith in
    sym (range_done (drop (sample_size * l.place) c.args.samples.now)) ∙ rw none_left at l.invariant
