-- `replay_play::take_record` meets its contract. Assumes nothing.
use mathlib.Core.Path.{refl, sym, ◌∙◌}
use Prim.Native.Nat.{◌*◌, ◌<◌}
use native.Mathlib.Omega.{arith}
use borrow.Author.Tests.{eqb-true}
use lib.ListN.{take}
use Rattle.types_rules.specs.Types.{slots}
use Rattle.net_rules.specs.Record.{net_in}
use Rattle.replay_file.specs.Records.{body_length, record_step}
use Rattle.replay_file.specs.Turns.{turned, types_after, samples_after, net_after, text_after}
use Rattle.replay_file.proofs.Fine.{stage_none, stage_some, types_kept}
use Rattle.replay_play.proofs.take_record.Goals as goal

pub bounds-body-0 : goal.bounds-body-0
unfolding body_length
bounds-body-0 c = let l = rw (eqb-true c.args.kind 0 (sym c.is_module.ensures ∙ c.if-is_module.true)) at c.requires.body_len.0 in omega arith

pub returns-then-is_module : goal.returns-then-is_module
unfolding record_step body_length
returns-then-is_module c = rw (eqb-true c.args.kind 0 (sym c.is_module.ensures ∙ c.if-is_module.true)) (record { value = c.take_module.ensures.value; types_after = c.take_module.ensures.types_after; samples_after = c.take_module.ensures.samples_after; net_after = c.take_module.ensures.net_after; out_after = c.take_module.ensures.out_after })

pub returns-then-at-eq0 : goal.returns-then-at-eq0
unfolding record_step turned types_after samples_after net_after text_after
returns-then-at-eq0 c =
    let s = c in
    let a = s.args in
    let e = c.bad.ensures in
    rw (sym c.is_module.ensures ∙ c.if-is_module.false, stage_none a.at a.types.now a.samples.now a.net.now s.requires.held c.if-at-eq0.true) (record { value = e.value; types_after = refl; samples_after = refl; net_after = refl; out_after = e.out_after })

pub returns : goal.returns
unfolding record_step
returns c =
    let s = c in
    let a = s.args in
    let e = c.take_other.ensures in
    let f = c.if-at-eq0.false in
    let p : 0 < a.at.count = omega arith in
    rw (sym c.is_module.ensures ∙ c.if-is_module.false, stage_some a.at a.types.now a.samples.now a.net.now s.requires.held p)
    (record { value = e.value; types_after = sym (types_kept a.kind (net_in slots a.net.now) (take (10 * a.at.count) a.samples.now) a.body.now a.types.now); samples_after = e.samples_after; net_after = e.net_after; out_after = e.out_after })
