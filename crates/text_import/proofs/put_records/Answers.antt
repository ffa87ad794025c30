-- `text_import::put_records` meets its contract. The invariant: what the characters left come to gives the whole, and so do their records, put where
-- the loop stands, as many as there is room for. Assumes nothing.
use mathlib.Core.Path.{◌≡◌, sym, ap, subst, ◌∙◌}
use Prim.Native.Nat.{ℕ, ◌/◌}
use native.Mathlib.Omega.{arith}
use lib.ListN.{length, get_or}
use Rattle.line_receiver.specs.Frames.{Byte}
use Rattle.text_rules.specs.declared.Brings.{Brings}
use Rattle.text_rules.specs.Import.{step, read_from, stage_of, brought_by}
use Rattle.text_rules.proofs.Folding.{turn_more, turn_gives, still_cannot, still_end, stop-still}
use Rattle.text_rules.proofs.Reading.{FitAfter, step_fit, came_to}
use Rattle.text_rules.proofs.Putting.{put_more, put_gives, put_stop}
use Rattle.text_import.proofs.Table.{table_value}
use Rattle.text_import.proofs.put_records.Goals as goal
use Rattle.text_import.proofs.put_records.Goals.{in-Nothing, in-Ends}

pub step-brings-requires : goal.step-brings-requires
step-brings-requires c =
    let l = c.loop-i in
    (l.invariant.0, table_value (get_or c.args.text.now l.i 0) (omega (arith, c.type_inv.text l.i)))

pub loop-i-preserved : goal.loop-i-preserved
loop-i-preserved c =
    let l = c.loop-i in
    let a = c.args in
    let t = a.text.now in
    let n = c.step-brings.result.next in
    let from = stage_of l.reader in
    let whole = read_from (stage_of a.from) t in
    let most : ℕ = length a.room.now / 3 in
    elim c.match-brings.branch [
      | in-Nothing w ↦
          let e = sym c.step-brings.ensures ∙ ap (λ (b : Brings). brought_by b n) w.in-Nothing.is in
          rw (w.reader-is, w.bytes-is, w.room-is) (
            subst FitAfter e (step_fit from (get_or t l.i 0)),
            omega arith,
            l.invariant.2,
            turn_more step whole from (stage_of n) t l.i l.bytes (omega arith) e l.invariant.3,
            put_more step most from t l.i l.bytes l.room l.invariant.4 (stage_of n) (omega arith) e,
          )
      | in-Ends w ↦
          let e = sym c.step-brings.ensures ∙ ap (λ (b : Brings). brought_by b n) w.in-Ends.is in
          let b : Byte = record { value = n.value; mark = w.in-Ends.mark } in
          let p = w.put_within in
          rw (w.reader-is, w.bytes-is, w.room-is) (
            subst FitAfter e (step_fit from (get_or t l.i 0)),
            omega arith,
            omega (arith, p.auto, l.invariant.2),
            turn_gives step whole from (stage_of n) b t l.i l.bytes (omega arith) e l.invariant.3,
            put_gives step most from t l.i l.bytes l.room l.invariant.4 (stage_of n) b (omega arith) e (omega (arith, l.invariant.2)) p.new.room p.ensures,
          )
    ]

pub returns-in-Fault : goal.returns-in-Fault
returns-in-Fault c =
    let l = c.loop-i in
    let a = c.args in
    let t = a.text.now in
    let s = stage_of l.reader in
    let n = c.step-brings.result.next in
    let e = sym c.step-brings.ensures ∙ ap (λ (b : Brings). brought_by b n) c.in-Fault.is in
    let z = still_cannot step s t l.i (omega arith) e in record { came_to = came_to l.reader (stage_of a.from) t l.i l.bytes (stop-still step (read_from (stage_of a.from) t) s t l.i l.bytes z l.invariant.3); room_after = put_stop step (length a.room.now / 3) s t l.i l.bytes l.room l.invariant.4 z }

pub returns : goal.returns
returns c =
    let l = c.loop-i in
    let a = c.args in
    let t = a.text.now in
    let s = stage_of l.reader in
    let whole = read_from (stage_of a.from) t in
    let e : l.i ≡ length t = omega arith in
    let z = still_end step s t l.i (omega arith) in record {
      came_to = rw (← e) (came_to l.reader (stage_of a.from) t l.i l.bytes (stop-still step whole s t l.i l.bytes z l.invariant.3));
      room_after = put_stop step (length a.room.now / 3) s t l.i l.bytes l.room l.invariant.4 z;
    }
