-- `doljurven::import_text` meets its contract. Assumes nothing.
use mathlib.Core.Path.{◌≡◌, sym, ap, subst, ◌∙◌}
use mathlib.Core.Bool.{false}
use mathlib.Core.List.{List}
use Prim.Native.Nat.{ℕ, ◌*◌, ◌/◌, ◌≤◌}
use native.Mathlib.Omega.{arith}
use lib.ListN.{length, take}
use Rattle.base_layout.specs.Bytes.{pasted}
use Rattle.text_rules.specs.Records.{records}
use Rattle.text_rules.specs.Import.{Stage, read_from, read_text, is_text, CameTo}
use Rattle.text_rules.proofs.Normal.{whole_is, records_fit}
use Rattle.text_rules.proofs.Putting.{put_all}
use Rattle.api_rules.proofs.Text.{import_none, import_short, import_done}
use Rattle.doljurven.proofs.import_text.Goals as goal

pub returns-then-not-is_whole : goal.returns-then-not-is_whole
returns-then-not-is_whole c =
    let a = c.args in
    let t = a.text.now in
    let r = subst (λ (s : Stage). CameTo c.put_records-read.result (read_from s t)) c.begin.ensures c.put_records-read.ensures.came_to in
    let e : is_text t ≡ false = sym (whole_is t r c.is_whole.ensures) ∙ c.if-not-is_whole.true in
    let l = import_none t a.room.now e in
    record { value = l.0; room_after = l.1; written = l.2; offset_after = r.count ∙ l.3 }

pub overflow_mul-size : goal.overflow_mul-size
overflow_mul-size c =
    let t = c.args.text.now in
    let r = subst (λ (s : Stage). CameTo c.put_records-read.result (read_from s t)) c.begin.ensures c.put_records-read.ensures.came_to in
    let e = sym (whole_is t r c.is_whole.ensures) ∙ c.if-not-is_whole.false in
    omega (arith, records_fit t e, r.bytes)

pub returns-then-room-size : goal.returns-then-room-size
returns-then-room-size c =
    let a = c.args in
    let t = a.text.now in
    let r = subst (λ (s : Stage). CameTo c.put_records-read.result (read_from s t)) c.begin.ensures c.put_records-read.ensures.came_to in
    let e = sym (whole_is t r c.is_whole.ensures) ∙ c.if-not-is_whole.false in
    let l = import_short t a.room.now e (omega (arith, c.if-room-size.true, r.bytes)) in
    record { value = l.0; room_after = l.1; written = l.2; offset_after = l.3 }

pub returns : goal.returns
returns c =
    let a = c.args in
    let t = a.text.now in
    let r = subst (λ (s : Stage). CameTo c.put_records-read.result (read_from s t)) c.begin.ensures c.put_records-read.ensures.came_to in
    let e = sym (whole_is t r c.is_whole.ensures) ∙ c.if-not-is_whole.false in
    let n = r.bytes in
    let fits : 3 * length (read_text t).bytes ≤ length a.room.now = omega (arith, c.if-room-size.false, n) in
    let p = c.put_records.ensures.room_after ∙ ap (λ (s : Stage). pasted 0 (records (take (length a.room.now / 3) (read_from s t).bytes)) a.room.now) c.begin-2.ensures
    ∙ ap (λ (x : List ℕ). pasted 0 x a.room.now) (put_all (read_text t).bytes a.room.now fits) in
    let l = import_done t a.room.now e fits p in
    record { value = l.0; room_after = l.1; written = omega (arith, l.2, n); offset_after = l.3 }
