-- `monitor_file::put_looked` meets its contract. The invariant: what the bytes left come to gives the whole. Assumes nothing.
use mathlib.Core.Path.{◌≡◌, sym, ap, subst, ◌∙◌}
use native.Mathlib.Omega.{arith}
use lib.ListN.{length, get_or}
use Rattle.line_receiver.specs.Frames.{Byte}
use Rattle.text_rules.proofs.Folding.{still_cannot, still_end}
use Rattle.monitor_file.specs.declared.Part.TheVariants.{Kind}
use Rattle.monitor_file.specs.Looking.{told, brought, look_from, gone}
use Rattle.monitor_file.proofs.Looking.{FitAfter, step_fit, look_start, look_more, byte-room, look-gives, look_stop}
use Rattle.monitor_file.proofs.put_looked.Goals as goal
use Rattle.monitor_file.proofs.put_looked.Goals.{in-More, in-Ended}

pub loop-i-init : goal.loop-i-init
loop-i-init c =
    let s = c in
    let a = s.args in
    (s.requires.0, s.requires.1, look_start a.from a.first a.file.now a.room.now s.requires.2)

pub put_byte-wrote-requires : goal.put_byte-wrote-requires
put_byte-wrote-requires c =
    let l = c.loop-i in
    let a = c.args in
    let t = a.file.now in
    let e = sym c.step.ensures ∙ c.in-Ended.is in
    let b : Byte = record { value = c.in-Ended.value; mark = c.in-Ended.mark } in
    byte-room (look_from a.from t) a.first t a.room.now l.part l.column l.wrote l.i l.room l.invariant.2 b Kind (omega arith) (ap told e)

pub loop-i-preserved : goal.loop-i-preserved
loop-i-preserved c =
    let l = c.loop-i in
    let a = c.args in
    let t = a.file.now in
    let whole = look_from a.from t in
    elim c.match-step.branch [
      | in-More w ↦
          let e = sym c.step.ensures ∙ w.in-More.is in
          rw (w.part-is, w.column-is, w.wrote-is, w.room-is) (
            (subst (FitAfter (gone l.part)) e (step_fit l.part (get_or t l.i 0) l.invariant.0)).0,
            l.invariant.1,
            look_more whole a.first t a.room.now l.part l.column l.wrote l.i l.room l.invariant.2 w.in-More.next (omega arith) (ap told e),
          )
      | in-Ended w ↦
          let e = sym c.step.ensures ∙ w.in-Ended.is in
          let b : Byte = record { value = w.in-Ended.value; mark = w.in-Ended.mark } in
          let p = w.put_byte-wrote in
          rw (w.part-is, w.column-is, w.wrote-is, w.room-is) (
            tt,
            omega arith,
            look-gives whole a.first t a.room.now l.part l.column l.wrote l.i l.room l.invariant.2 b Kind (omega arith) (ap told e)
                p.result p.new.room p.ensures.value (omega (arith, p.auto)) p.ensures.room_after,
          )
    ]

pub returns-in-Cannot : goal.returns-in-Cannot
returns-in-Cannot c =
    let l = c.loop-i in
    let a = c.args in
    let t = a.file.now in
    let e = sym c.step.ensures ∙ c.in-Cannot.is in
    let r = look_stop (look_from a.from t) a.first t a.room.now l.part l.column l.wrote l.i l.room l.invariant.2 l.invariant.1
    (still_cannot brought l.part t l.i (omega arith) (ap told e)) in
    record { value = r.0; room_after = r.1 }

pub returns : goal.returns
returns c =
    let l = c.loop-i in
    let a = c.args in
    let t = a.file.now in
    let e : l.i ≡ length t = omega arith in
    let r = look_stop (look_from a.from t) a.first t a.room.now l.part l.column l.wrote l.i l.room l.invariant.2 l.invariant.1
    (still_end brought l.part t l.i (omega arith)) in
    record { value = rw (← e) r.0; room_after = r.1 }
