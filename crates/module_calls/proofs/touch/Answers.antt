-- `module_calls::touch` meets its contract, by what the type owes. Assumes nothing.
use native.Mathlib.Omega.{arith}
use Rattle.module_rules.specs.Touch.{frame_of}
use Rattle.module_rules.proofs.Touching.{still-ok, spoken, silent}
use Rattle.module_calls.proofs.touch.Goals as goal

pub put_reply-requires : goal.put_reply-requires
put_reply-requires g c =
    let t = g.T.Calls in
    let a = c in
    let k = c in
    let e = c in (
      omega (arith, a.requires.0),
      still-ok t.rules t.slots t.good g.met.T.Calls.owes a.args.s.now a.requires.0 (λ i. omega (arith, c.slice_known-1.given i)) a.requires.1
          (frame_of a.args.f) e.is_individually.result c.args.f.bytes e.settle.ensures,
      omega (arith, a.requires.2),
    )

pub returns-then-is_speaking : goal.returns-then-is_speaking
returns-then-is_speaking g c =
    let t = g.T.Calls in
    let r = spoken t.rules t.slots t.good g.met.T.Calls.owes c.args.s.now c.requires.0 (λ i. omega (arith, c.slice_known-1.given i)) c.requires.1
    (frame_of c.args.f) c.args.room.now c.args.from
    c.address_in-address.ensures c.is_individually.ensures c.settle.ensures
    c.is_speaking.ensures c.args.f.bytes c.if-is_speaking.true (c.put_reply.ensures.value, c.put_reply.ensures.room_after) in
    record { value = r.0; s_after = r.1.0; room_after = r.1.1 }

pub returns : goal.returns
returns g c =
    let t = g.T.Calls in
    let r = silent t.rules t.slots t.good g.met.T.Calls.owes c.args.s.now c.requires.0 (λ i. omega (arith, c.slice_known-1.given i)) c.requires.1
    (frame_of c.args.f) c.args.room.now c.args.from
    c.address_in-address.ensures c.is_individually.ensures c.settle.ensures
    c.is_speaking.ensures c.if-is_speaking.false in
    record { value = r.0; s_after = r.1.0; room_after = r.1.1 }
