-- `replay_feed::take_other` meets its contract. Assumes nothing.
use mathlib.Core.Path.{◌≡◌, refl, sym, ap, ◌∙◌}
use mathlib.Core.List.{List}
use Prim.Native.Nat.{ℕ, ◌+◌, ◌*◌, ◌≤◌}
use native.Mathlib.Omega.{arith}
use borrow.Author.Tests.{ne_eqb}
use lib.ListN.{length, get_or, take}
use Rattle.base_layout.specs.Bytes.{pasted, Bytes}
use Rattle.base_layout.proofs.Pasted.{pasted_none}
use Rattle.chain_rules.specs.Chain.{Net}
use Rattle.types_rules.specs.Types.{Module, slots}
use Rattle.net_rules.specs.Record.{net_in}
use Rattle.replay_file.specs.Records.{body_length, sample_record, net_record}
use Rattle.replay_file.specs.Turns.{turned, samples_after, net_after, text_after}
use Rattle.replay_file.proofs.Measured.{list_same, byte_alike, byte_samples}
use Rattle.replay_file.proofs.Fine.{sample-net}
use Rattle.replay_feed.proofs.take_other.Goals as goal
use Rattle.replay_feed.proofs.take_other.Goals.{After-slice_known-2-1, Start}

-- the list lies within its slice
within : (s : Start) → 10 * s.args.at.count ≤ length s.args.samples.now
within s = omega (arith, s.requires.net_value.2, s.requires.net_value.3)

pub take_byte-requires : goal.take_byte-requires
unfolding body_length
take_byte-requires c =
    let s = c in
    let m : s.args.kind ≡ 1 = sym (rw c.in-LineByte.is at c.in-Ok.ensures) in
    record { net_value = (s.requires.net_value.0, rw m at s.requires.body_len.0); offset_bound = (s.requires.body_len.1, s.requires.body_len.2) }

pub take_sample-requires : goal.take_sample-requires
unfolding body_length
take_sample-requires c =
    let s = c in
    let m : s.args.kind ≡ 2 = sym (rw c.in-ServoSample.is at c.in-Ok.ensures) in
    let l = rw m at s.requires.body_len.0 in
    record { net_value = s.requires.net_value; in_bounds = (omega (arith, l), omega (arith, l), s.requires.body_len.1, s.requires.body_len.2) }

pub take_sample-requires-in-IoSample : goal.take_sample-requires-in-IoSample
unfolding body_length
take_sample-requires-in-IoSample c =
    let s = c in
    let m : s.args.kind ≡ 3 = sym (rw c.in-IoSample.is at c.in-Ok.ensures) in
    let l = rw m at s.requires.body_len.0 in
    record { net_value = s.requires.net_value; in_bounds = (omega (arith, l), omega (arith, l), s.requires.body_len.1, s.requires.body_len.2) }

pub take_sample-requires-in-StepperSample : goal.take_sample-requires-in-StepperSample
unfolding body_length
take_sample-requires-in-StepperSample c =
    let s = c in
    let m : s.args.kind ≡ 5 = sym (rw c.in-StepperSample.is at c.in-Ok.ensures) in
    let l = rw m at s.requires.body_len.0 in
    record { net_value = s.requires.net_value; in_bounds = (omega (arith, l), omega (arith, l), s.requires.body_len.1, s.requires.body_len.2) }

pub returns-in-LineByte : goal.returns-in-LineByte
unfolding net_record body_length
returns-in-LineByte c =
    let s = (goal.at.returns-in-LineByte c).Start in
    let a = s.args in
    let e = c.take_byte.ensures in
    let n : Net Module = net_in slots a.net.now in
    let mark : ℕ = get_or a.body.now 0 0 in
    let value : ℕ = get_or a.body.now 1 0 in
    let k = byte_alike n mark value (take (10 * a.at.count) a.samples.now) 3 a.at a.net.now in
    let m : a.kind ≡ 1 = sym (rw c.in-LineByte.is at c.in-Ok.ensures) in
    rw m (record { value = e.value ∙ k.turned; samples_after = sym (byte_samples n mark value (10 * a.at.count) a.samples.now (within s)); net_after = e.net_after ∙ k.left; out_after = e.out_after ∙ ap (λ (x : List ℕ). pasted 0 x a.out.now) k.text })

pub returns-in-ServoSample : goal.returns-in-ServoSample
unfolding net_record body_length
returns-in-ServoSample c =
    let s = c in
    let a = s.args in
    let e = c.take_sample.ensures in
    let m : a.kind ≡ 2 = sym (rw c.in-ServoSample.is at c.in-Ok.ensures) in
    let l : length a.body.now ≡ 8 = rw m at s.requires.body_len.0 in
    let bytes : Bytes a.net.now = λ i. omega (arith, (goal.at.returns-in-ServoSample c).After-slice_known-2-1.type_inv.net i) in
    let r = sample_record 0 (net_in slots a.net.now) (take (10 * a.at.count) a.samples.now) a.body.now in
    rw m (record { value = e.value ∙ ap (λ (k : ℕ). turned (1 + k) r a.at) l; samples_after = e.samples_after; net_after = sym (sample-net _ a.net.now _ a.body.now s.requires.net_value.0 bytes); out_after = e.out_after })

pub returns-in-IoSample : goal.returns-in-IoSample
unfolding net_record body_length
returns-in-IoSample c =
    let s = c in
    let a = s.args in
    let e = c.take_sample-in-IoSample.ensures in
    let m : a.kind ≡ 3 = sym (rw c.in-IoSample.is at c.in-Ok.ensures) in
    let l : length a.body.now ≡ 10 = rw m at s.requires.body_len.0 in
    let bytes : Bytes a.net.now = λ i. omega (arith, (goal.at.returns-in-IoSample c).After-slice_known-2-1.type_inv.net i) in
    let r = sample_record 2 (net_in slots a.net.now) (take (10 * a.at.count) a.samples.now) a.body.now in
    rw m (record { value = e.value ∙ ap (λ (k : ℕ). turned (1 + k) r a.at) l; samples_after = e.samples_after; net_after = sym (sample-net _ a.net.now _ a.body.now s.requires.net_value.0 bytes); out_after = e.out_after })

pub returns-in-Tick : goal.returns-in-Tick
unfolding net_record body_length samples_after net_after text_after
returns-in-Tick c =
    let s = (goal.at.returns-in-Tick c).Start in
    let a = s.args in
    let e = c.take_tick.ensures in
    let m : a.kind ≡ 4 = sym (rw c.in-Tick.is at c.in-Ok.ensures) in
    rw m (record { value = e.value; samples_after = sym (list_same (10 * a.at.count) a.samples.now (within s)); net_after = e.net_after; out_after = sym (pasted_none 0 a.out.now) })

pub returns-in-StepperSample : goal.returns-in-StepperSample
unfolding net_record body_length
returns-in-StepperSample c =
    let s = c in
    let a = s.args in
    let e = c.take_sample-in-StepperSample.ensures in
    let m : a.kind ≡ 5 = sym (rw c.in-StepperSample.is at c.in-Ok.ensures) in
    let l : length a.body.now ≡ 2 = rw m at s.requires.body_len.0 in
    let bytes : Bytes a.net.now = λ i. omega (arith, (goal.at.returns-in-StepperSample c).After-slice_known-2-1.type_inv.net i) in
    let r = sample_record 3 (net_in slots a.net.now) (take (10 * a.at.count) a.samples.now) a.body.now in
    rw m (record { value = e.value ∙ ap (λ (k : ℕ). turned (1 + k) r a.at) l; samples_after = e.samples_after; net_after = sym (sample-net _ a.net.now _ a.body.now s.requires.net_value.0 bytes); out_after = e.out_after })

pub returns-in-Module : goal.returns-in-Module
unfolding net_record turned samples_after net_after text_after
returns-in-Module c =
    let e = c.bad-in-Module.ensures in
    let m : c.args.kind ≡ 0 = sym (rw c.in-Module.is at c.in-Ok.ensures) in
    rw m (record { value = e.value; samples_after = refl; net_after = refl; out_after = e.out_after })

pub returns-in_default : goal.returns-in_default
unfolding net_record turned samples_after net_after text_after
returns-in_default c =
    let e = c.bad.ensures in
    let k = c.args.kind in
    let h = c.in_default.ensures in
    rw (ne_eqb k 1 (λ e. omega arith), ne_eqb k 2 (λ e. omega arith), ne_eqb k 3 (λ e. omega arith), ne_eqb k 4 (λ e. omega arith), ne_eqb k 5 (λ e. omega arith)) (record { value = e.value; samples_after = refl; net_after = refl; out_after = e.out_after })
