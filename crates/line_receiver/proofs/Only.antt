-- Only: an undamaged frame has come from the bytes that the writer writes for it. Assumes nothing.
use Rattle.std.proofs.Common.{◌≡◌, ℕ, ◌+◌, ◌*◌, ◌/◌, ◌%◌, ◌≤◌, Bool, true, false, not, ◌||◌, eqb, ltb, List, [], ◌∷◌, ◌++◌, length, sym, refl, ap, ◌∙◌, ap₂, true≢false, append_assoc, append-nil, arith, length-append, ltb-false, ltb-true, eqb-true}
use mathlib.Core.Bool.{and-eq-true_iff}
use borrow.Author.Tests.{not-true, not-false}
use Rattle.line_receiver.specs.declared.Receiver.{Receiver}
use Rattle.line_receiver.specs.Receive.{sum8, idle, waits, opens, taken}
use Rattle.line_receiver.specs.Frames.{Byte, Frame, header, waiting, ended, reads, clean, values, written, Quiet, AreBytes}
use Rattle.line_receiver.specs.Promises.{Only}
use Rattle.line_receiver.proofs.Holding.{holding, holding_stores, holding-ends, holding-frame, reads_on, reads_end, begins}

both_false : (a b : Bool) → (a || b) ≡ false → (a ≡ false) × (b ≡ false)
both_false false b e = (refl, e)
both_false true b e = absurd (true≢false e)

-- a receiver that waits has ended no frame
no_end : {r r' : Receiver} {f : Frame} {bs : List Byte} → waiting r ≡ ended f r' bs → ⊥
no_end e = let z : ◌≡◌ {A = ℕ} 0 1 = cc in omega arith

clean-byte : (b : Byte) (x : ℕ) → b.value ≡ x → b.mark ≡ false → b ≡ record { value = x; mark = false }
clean-byte b x e u = rw (← e, ← u)

-- what is known of the bytes bs that end an undamaged frame f, where the data bytes ds are already in
record Sent (bs : List Byte) (ds : List ℕ) (a c : ℕ) (m : Bool) (f : Frame) : Type 0 where
  xs : List ℕ
  unmarked : m ≡ false
  bytes_are : bs ≡ clean (xs ++ sum8 a c (ds ++ xs) ∷ [])
  frame_is : f ≡ record { address = a; code = c % 16; content = ds ++ xs; damaged = false }
  count_is : length (ds ++ xs) ≡ c / 16

-- the last byte has the checksum and no mark
sent-last : (b : Byte) (bs : List Byte) (ds : List ℕ) (a c : ℕ) (m : Bool) (f : Frame) (r : Receiver) → length ds ≡ c / 16
    → reads (b ∷ bs) (holding ds a c m) ≡ ended f r [] → f.damaged ≡ false → Sent (b ∷ bs) ds a c m f
sent-last b bs ds a c m f r h e u =
    let d : Bool = (m || b.mark) || not (eqb b.value (sum8 a c ds)) in
    let g : ended (record { address = a; code = c % 16; content = ds; damaged = d }) idle bs ≡ ended f r [] =
    sym (reads_end b bs (holding ds a c m) idle d (holding-ends ds a c m b h)
    ∙ ap (λ (f : Frame). ended f idle bs) (holding-frame ds a c m d h)) ∙ e in
    let gf : f ≡ record { address = a; code = c % 16; content = ds; damaged = d } = cc in
    let gb : bs ≡ [] = cc in
    let du : d ≡ false = sym (ap (λ (f : Frame). f.damaged) gf) ∙ u in
    let both = both_false (m || b.mark) (not (eqb b.value (sum8 a c ds))) du in
    let marks = both_false m b.mark both.0 in
    let right : b.value ≡ sum8 a c ds = eqb-true b.value (sum8 a c ds) (not-false (eqb b.value (sum8 a c ds)) both.1) in
    record {
      xs = [];
      unmarked = marks.0;
      bytes_are = rw (append-nil ds, gb, clean-byte b (sum8 a c ds) right marks.1);
      frame_is = rw (append-nil ds, gf, du);
      count_is = rw (append-nil ds) h;
    }

-- one byte more in front
sent_more : (b : Byte) (bs : List Byte) (ds : List ℕ) (a c : ℕ) (m : Bool) (f : Frame)
    → Sent bs (ds ++ b.value ∷ []) a c (m || b.mark) f → Sent (b ∷ bs) ds a c m f
sent_more b bs ds a c m f s =
    let x : ℕ = b.value in
    let j : (ds ++ x ∷ []) ++ s.xs ≡ ds ++ x ∷ s.xs = append_assoc ds (x ∷ []) s.xs in
    record {
      xs = x ∷ s.xs;
      unmarked = (both_false m b.mark s.unmarked).0;
      bytes_are = rw (s.bytes_are, j, clean-byte b x refl (both_false m b.mark s.unmarked).1);
      frame_is = rw j at s.frame_is;
      count_is = rw j at s.count_is;
    }

sent : (bs : List Byte) (ds : List ℕ) (a c : ℕ) (m : Bool) (f : Frame) (r : Receiver) → length ds ≤ c / 16 → c / 16 ≤ 15
    → reads bs (holding ds a c m) ≡ ended f r [] → f.damaged ≡ false → Sent bs ds a c m f
unfolding reads
sent [] ds a c m f r h k e u = absurd (no_end e)
sent (b ∷ bs) ds a c m f r h k e u = go (λ ds m l e. sent bs ds a c m f r l k e u) (ltb (length ds) (c / 16)) refl
  where
    go : ((ds : List ℕ) (m : Bool) → length ds ≤ c / 16 → reads bs (holding ds a c m) ≡ ended f r [] → Sent bs ds a c m f)
        → (t : Bool) → ltb (length ds) (c / 16) ≡ t → Sent (b ∷ bs) ds a c m f
    go ih true t =
        let l = ltb-true (length ds) (c / 16) t in
        sent_more b bs ds a c m f
        (ih (ds ++ b.value ∷ []) (m || b.mark) (simp length-append (omega arith))
        (sym (reads_on b bs (holding ds a c m) (holding (ds ++ b.value ∷ []) a c (m || b.mark)) (holding_stores ds a c m b l k)) ∙ e))
    go ih false t = let l = ltb-false (length ds) (c / 16) t in sent-last b bs ds a c m f r (omega arith) e u

-- an idle receiver and a byte that opens no frame
stays : (b : Byte) → opens b.value b.mark ≡ false → taken idle b.value b.mark ≡ waits idle
unfolding taken
stays b e = rw e

is_header : (b : Byte) → opens b.value b.mark ≡ true → b ≡ header
is_header b e =
    let both = (and-eq-true_iff (eqb b.value 0xAA) (not b.mark)).0 e in
    clean-byte b 0xAA (eqb-true b.value 0xAA both.0) (not-true b.mark both.1)

-- after the header
opened-only : (bs : List Byte) (f : Frame) (r : Receiver) → AreBytes (values bs)
    → reads (header ∷ bs) idle ≡ ended f r [] → f.damaged ≡ false
    → header ∷ bs ≡ clean (written f.address f.code f.content)
unfolding reads taken
opened-only [] f r h e u = absurd (no_end e)
opened-only (a ∷ []) f r h e u = absurd (no_end e)
opened-only (a ∷ c ∷ bs) f r h e u =
    let x : ℕ = a.value in
    let y : ℕ = c.value in
    let s : Sent bs [] x y (a.mark || c.mark) f =
    sent bs [] x y (a.mark || c.mark) f r (omega arith) (omega (arith, h.1.0)) (sym (begins a c bs) ∙ e) u in
    let w : y % 16 + 16 * length s.xs ≡ y = omega (arith, s.count_is) in
    let ca : a ≡ record { value = x; mark = false } = clean-byte a x refl (both_false a.mark c.mark s.unmarked).0 in
    let cb : c ≡ record { value = y; mark = false } = clean-byte c y refl (both_false a.mark c.mark s.unmarked).1 in
    rw (s.frame_is, w, ← s.bytes_are) (ap₂ (λ (a c : Byte). header ∷ a ∷ c ∷ bs) ca cb)

pub only : Only
unfolding reads
only [] f r h e u = absurd (no_end e)
only (b ∷ bs) f r h e u = go (only bs f r h.1) (opens b.value b.mark) refl
  where
    go : (reads bs idle ≡ ended f r [] → f.damaged ≡ false
        → (noise : List Byte) × Quiet noise × (bs ≡ noise ++ clean (written f.address f.code f.content)))
        → (t : Bool) → opens b.value b.mark ≡ t
        → (noise : List Byte) × Quiet noise × (b ∷ bs ≡ noise ++ clean (written f.address f.code f.content))
    go ih false t =
        let s = ih (sym (reads_on b bs idle idle (stays b t)) ∙ e) u in
        (b ∷ s.0, (t, s.1), ap (λ (l : List Byte). b ∷ l) s.2)
    go ih true t =
        let i = is_header b t in
        ([], tt, ap (λ (b : Byte). b ∷ bs) i ∙ opened-only bs f r h.1 (rw i at e) u)
