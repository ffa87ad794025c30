-- `module_calls::perform` meets its contract, by what the type owes. Assumes nothing.
use mathlib.Core.Path.{sym, ap, subst, ◌∙◌}
use native.Mathlib.Omega.{arith}
use Rattle.base_layout.specs.Bytes.{pasted}
use Rattle.module_rules.proofs.Touching.{obeyed, not_now}
use Rattle.module_calls.proofs.perform.Goals as goal

pub can-requires : goal.can-requires
can-requires g c =
    subst g.T.Calls.slots.fits (sym c.decode-before.ensures) (g.met.T.Calls.owes.lawful.sound c.args.s.now c.requires.0 (λ i. omega (arith, c.slice_known-1.given i)) c.requires.1)

pub perform-requires : goal.perform-requires
perform-requires g c =
    subst g.T.Calls.slots.fits (sym c.decode-before.ensures) (g.met.T.Calls.owes.lawful.sound c.args.s.now c.requires.0 (λ i. omega (arith, c.slice_known-1.given i)) c.requires.1)

pub returns-then-can : goal.returns-then-can
returns-then-can g c =
    let t = g.T.Calls in
    let s = c.args.s.now in
    let order = c.args.c in
    obeyed t.rules t.slots t.good g.met.T.Calls.owes s c.requires.0 (λ i. omega (arith, c.slice_known-1.given i)) c.requires.1 order
    (ap (t.rules.can order) (sym c.decode-before.ensures) ∙ sym c.can.ensures ∙ c.if-can.true)
    (ap (t.rules.perform order) c.decode-before.ensures) (c.put.ensures ∙ ap (λ m. pasted 0 (t.slots.enc m) s) c.perform.ensures)

pub returns-else-can : goal.returns-else-can
returns-else-can g c =
    let t = g.T.Calls in
    let order = c.args.c in
    not_now t.rules t.slots t.good g.met.T.Calls.owes c.args.s.now c.requires.0 (λ i. omega (arith, c.slice_known-1.given i)) c.requires.1 order
    (ap (t.rules.can order) (sym c.decode-before.ensures) ∙ sym c.can.ensures ∙ c.if-can.false)
    c.station_in-station.ensures c.with_cause.ensures c.put_station.ensures
