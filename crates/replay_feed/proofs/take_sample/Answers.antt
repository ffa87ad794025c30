-- `replay_feed::take_sample` meets its contract. Assumes nothing.
use mathlib.Core.Path.{◌≡◌, refl, sym, ap, ap₂, ◌∙◌}
use mathlib.Core.List.{List}
use mathlib.Core.Bool.{Bool, ◌&&◌}
use Prim.Native.Nat.{ℕ, ◌*◌, ◌<◌}
use native.Mathlib.Omega.{arith}
use lib.ListN.{get_or}
use Rattle.base_layout.specs.Bytes.{pasted}
use Rattle.base_layout.proofs.Pasted.{pasted_none}
use Rattle.types_rules.specs.Types.{slots, in_range}
use Rattle.net_rules.specs.Record.{net_in}
use Rattle.net_rules.specs.Calls.{of_type}
use Rattle.net_rules.proofs.Tests.{and-true}
use Rattle.replay_file.specs.Records.{measured, sample_record}
use Rattle.replay_file.specs.Turns.{turned, samples_after, text_after}
use Rattle.replay_file.proofs.Fine.{place_below}
use Rattle.replay_file.proofs.Measured.{ten_long, list_put}
use Rattle.replay_feed.proofs.take_sample.Goals as goal
use Rattle.replay_feed.proofs.take_sample.Goals.{After-is_sample_ok, Then-is_of_type-is_sample_ok}

-- what the code tests is what the record asks
test : (c : After-is_sample_ok)
    → let a = c.args in
    (c.is_of_type.result && c.is_sample_ok.result)
    ≡ (of_type a.t (net_in slots a.net.now) (get_or a.body.now 0 0) && in_range (measured a.t a.body.now))
test c =
    ap₂ (λ (u v : Bool). u && v) c.is_of_type.ensures
    (c.is_sample_ok.ensures ∙ ap in_range c.measured-ten.ensures)

-- a sample that is taken is for a place of the chain
below : (c : Then-is_of_type-is_sample_ok) → let a = c.args in get_or a.body.now 0 0 < a.at.count
below c =
    let s = c in
    let place : ℕ = get_or s.args.body.now 0 0 in
    let q = (and-true (of_type s.args.t (net_in slots s.args.net.now) place) (in_range (measured s.args.t s.args.body.now))
    (sym ((ap₂ (λ (u v : Bool). u && v) c.is_of_type.ensures (c.is_sample_ok.ensures ∙ ap in_range c.measured-ten.ensures))) ∙ c.if-is_of_type-is_sample_ok.true)).0 in
    omega (arith, place_below s.args.net.now place s.args.t q, s.requires.net_value.1)

pub put_all-requires : goal.put_all-requires
put_all-requires c =
    let s = c in
    omega (arith, below (goal.at.put_all-requires c).Then-is_of_type-is_sample_ok, s.requires.net_value.2, s.requires.net_value.3)

pub returns-then-is_of_type-is_sample_ok : goal.returns-then-is_of_type-is_sample_ok
unfolding sample_record turned samples_after text_after
returns-then-is_of_type-is_sample_ok c =
    let s = c in
    let a = s.args in
    let t = (goal.at.returns-then-is_of_type-is_sample_ok c).Then-is_of_type-is_sample_ok in
    let q = sym (test (goal.at.returns-then-is_of_type-is_sample_ok c).After-is_sample_ok) ∙ t.if-is_of_type-is_sample_ok.true in
    let e = c.measured-ten.ensures in
    let l = ten_long a.t a.body.now s.requires.in_bounds.1 s.requires.in_bounds.0 in
    rw q (record {
      value = c.went.ensures;
      samples_after = c.put_all.ensures
          ∙ ap (λ (x : List ℕ). pasted (10 * get_or a.body.now 0 0) x a.samples.now) e
          ∙ sym (list_put (10 * a.at.count) (10 * get_or a.body.now 0 0) (measured a.t a.body.now) a.samples.now
          (omega (arith, below t, l)) (omega (arith, s.requires.net_value.2, s.requires.net_value.3)));
      out_after = sym (pasted_none 0 a.out.now);
    })

pub returns : goal.returns
unfolding sample_record turned samples_after text_after
returns c =
    let t = c in
    let q = sym (test (goal.at.returns c).After-is_sample_ok) ∙ t.if-is_of_type-is_sample_ok.false in
    let e = c.bad.ensures in
    rw q (record { value = e.value; samples_after = refl; out_after = e.out_after })
