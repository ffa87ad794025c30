-- `replay_play::turn` meets its contract. Assumes nothing.
use mathlib.Core.Path.{◌≡◌}
use mathlib.Core.Bool.{cond}
use Prim.Native.Nat.{ℕ, ◌+◌, ◌-◌}
use native.Mathlib.Omega.{arith}
use lib.ListN.{get_or, take, drop}
use Rattle.base_layout.specs.Bytes.{Bytes}
use Rattle.replay_file.specs.Records.{bad, body_length, record_step}
use Rattle.replay_file.specs.Turns.{stage_in, over, wants, judged, head_size, turned_by, types_by, samples_by, net_by, text_by}
use Rattle.replay_file.proofs.Turning.{body_short, turn_none, turn_cut, turn_whole, idle_types, idle_samples, idle-net, idle_text, cut_types, cut_samples, cut-net, finish}
use Rattle.replay_play.proofs.turn.Goals as goal
use Rattle.replay_play.proofs.turn.Goals.{After-shared_slice_known-1}

pub returns-then-input-eq0 : goal.returns-then-input-eq0
returns-then-input-eq0 c =
    let s = c in
    let a = s.args in
    let b : Bytes a.input.now = λ i. omega (arith, c.type_inv.input i) in
    let r = finish a.at a.types.now a.samples.now a.net.now a.out.now s.requires.held s.requires.offset_bound.0 a.input.now b a.last (cond a.last over wants)
    (turn_none (stage_in a.at a.types.now a.samples.now a.net.now) a.input.now a.last (omega arith)) c.waits.ensures (idle_types a.last a.types.now) (idle_samples a.last a.samples.now) (idle-net a.last a.net.now)
    (idle_text a.last a.at.offset a.out.now) in
    record { value = r.0; types_after = r.1.0; samples_after = r.1.1.0; net_after = r.1.1.1.0; out_after = r.1.1.1.1.0; held_2 = r.1.1.1.1.1.0; within = r.1.1.1.1.1.1 }

pub overflow_add-size : goal.overflow_add-size
overflow_add-size c = omega (arith, c.body_len-size.ensures, body_short (get_or c.args.input.now 0 0))

pub returns-then-input-size : goal.returns-then-input-size
returns-then-input-size c =
    let s = c in
    let a = s.args in
    let b : Bytes a.input.now = λ i. omega (arith, (goal.at.returns-then-input-size c).After-shared_slice_known-1.type_inv.input i) in
    let e = c.cut.ensures in
    let r = finish a.at a.types.now a.samples.now a.net.now a.out.now s.requires.held s.requires.offset_bound.0 a.input.now b a.last (cond a.last (judged 0 bad) wants)
    (turn_cut (stage_in a.at a.types.now a.samples.now a.net.now) a.input.now a.last c.if-input-eq0.false (omega (arith, c.body_len-size.ensures, c.if-input-size.true))) e.value (cut_types a.last a.types.now) (cut_samples a.last a.samples.now)
    (cut-net a.last a.net.now) e.out_after in
    record { value = r.0; types_after = r.1.0; samples_after = r.1.1.0; net_after = r.1.1.1.0; out_after = r.1.1.1.1.0; held_2 = r.1.1.1.1.1.0; within = r.1.1.1.1.1.1 }

pub returns : goal.returns
unfolding turned_by types_by samples_by net_by text_by
returns c =
    let s = c in
    let a = s.args in
    let b : Bytes a.input.now = λ i. omega (arith, (goal.at.returns c).After-shared_slice_known-1.type_inv.input i) in
    let k : ℕ = get_or a.input.now 0 0 in
    let r : ℕ = c.body_len-size.result in
    let q : 1 + r - 1 ≡ body_length k = omega (arith, c.body_len-size.ensures) in
    let e = rw q at c.take_record.ensures in
    let r = finish a.at a.types.now a.samples.now a.net.now a.out.now s.requires.held s.requires.offset_bound.0 a.input.now b a.last
    (judged (head_size a.input.now) (record_step (stage_in a.at a.types.now a.samples.now a.net.now) k (take (body_length k) (drop 1 a.input.now))))
    (turn_whole (stage_in a.at a.types.now a.samples.now a.net.now) a.input.now a.last (omega (arith, c.body_len-size.ensures, c.if-input-size.false))) e.value e.types_after e.samples_after e.net_after e.out_after in
    record { value = r.0; types_after = r.1.0; samples_after = r.1.1.0; net_after = r.1.1.1.0; out_after = r.1.1.1.1.0; held_2 = r.1.1.1.1.1.0; within = r.1.1.1.1.1.1 }
