-- `module_calls::settle` meets its contract, by what the type owes. Each kind of request is one arm. Assumes nothing.
use mathlib.Core.Path.{refl, sym, ap, ◌∙◌}
use native.Mathlib.Omega.{arith}
use Rattle.std.specs.Prelude.{Ok}
use Rattle.module_rules.specs.declared.Request as Code
use Rattle.module_rules.specs.Touch.{frame_of}
use Rattle.module_rules.specs.Rules.{Request}
use Rattle.module_rules.specs.Asks.{asks_of}
use Rattle.module_rules.proofs.Touching.{damaged-put, malformed-put, set-put, asked-put}
use Rattle.module_calls.proofs.settle.Goals as goal

pub returns-then-f : goal.returns-then-f
returns-then-f g c =
    let t = g.T.Calls in
    damaged-put t.rules t.slots t.good g.met.T.Calls.owes c.args.s.now c.requires.0 (λ i. omega (arith, c.slice_known-1.given i)) c.requires.1
    (frame_of c.args.f) c.args.alone
    c.if-f.true c.station_in-station.ensures c.with_cause.ensures c.put_station.ensures

pub returns-in-Err : goal.returns-in-Err
returns-in-Err g c =
    let t = g.T.Calls in
    malformed-put t.rules t.slots t.good g.met.T.Calls.owes c.args.s.now c.requires.0 (λ i. omega (arith, c.slice_known-1.given i)) c.requires.1
    (frame_of c.args.f) c.args.alone
    c.if-f.false _ (sym c.request_of.ensures ∙ ap asks_of c.in-Err.is) c.station_in-station.ensures
    c.fault_cause-cause.ensures c.with_cause-in-Err.ensures c.put_station-in-Err.ensures

pub returns-in-Ok-Set : goal.returns-in-Ok-Set
returns-in-Ok-Set g c =
    let t = g.T.Calls in
    let read : Code.Request _ → Request _ = λ r. asks_of (Ok r) in
    set-put t.rules t.slots t.good g.met.T.Calls.owes c.args.s.now c.requires.0 (λ i. omega (arith, c.slice_known-1.given i)) c.requires.1
    (frame_of c.args.f) c.args.alone
    c.if-f.false _ (sym c.request_of.ensures ∙ ap asks_of c.in-Ok-Set.is ∙ ap read c.in-Ok-Set.field-0-is) c.station_in-station.ensures
    c.with_setting-x.ensures c.with_cause-in-Ok-Set.ensures c.put_station-in-Ok-Set.ensures

pub returns-in-Ok-Reset : goal.returns-in-Ok-Reset
returns-in-Ok-Reset g c =
    let t = g.T.Calls in
    let read : Code.Request _ → Request _ = λ r. asks_of (Ok r) in
    asked-put t.rules t.slots t.good g.met.T.Calls.owes c.args.s.now c.requires.0 (λ i. omega (arith, c.slice_known-1.given i)) c.requires.1
    (frame_of c.args.f) c.args.alone
    c.if-f.false (sym c.request_of.ensures ∙ ap asks_of c.in-Ok-Reset.is ∙ ap read c.in-Ok-Reset.field-0-is) c.renewed-renewed.ensures c.put.ensures

pub returns-in-Ok-Wants : goal.returns-in-Ok-Wants
returns-in-Ok-Wants g c =
    let t = g.T.Calls in
    let read : Code.Request _ → Request _ = λ r. asks_of (Ok r) in
    asked-put t.rules t.slots t.good g.met.T.Calls.owes c.args.s.now c.requires.0 (λ i. omega (arith, c.slice_known-1.given i)) c.requires.1
    (frame_of c.args.f) c.args.alone
    c.if-f.false (sym c.request_of.ensures ∙ ap asks_of c.in-Ok-Wants.is ∙ ap read c.in-Ok-Wants.field-0-is) refl c.perform.ensures
