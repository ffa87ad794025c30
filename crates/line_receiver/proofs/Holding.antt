-- A receiver with address, command and some data bytes in, and what a byte makes of it: the laws that the promises share. Assumes nothing.
use Rattle.std.proofs.Common.{◌≡◌, ℕ, suc, ◌+◌, ◌-◌, ◌/◌, ◌%◌, ◌<◌, ◌≤◌, Bool, not, ◌||◌, eqb, List, [], ◌∷◌, ◌++◌, length, set, replicate, sym, refl, ap, ◌∙◌, append_assoc, add-one, arith, length-append, take_at, le-ltb, lt-ltb, Some, None}
use lib.Seq.{set-append_seam}
use Rattle.line_receiver.specs.declared.Receiver.{Receiver}
use Rattle.line_receiver.specs.declared.Received.{Received}
use Rattle.line_receiver.specs.Receive.{sum8, idle, waits, taken}
use Rattle.line_receiver.specs.Frames.{Byte, header, Reading, ended, reads, frame_in}

-- the receiver that has the address, the command and the data bytes ds
abbrev pub holding : List ℕ → ℕ → ℕ → Bool → Receiver
holding ds a c m = record {
  bytes = ds ++ replicate (15 - length ds) 0;
  address = a;
  command = c;
  fill = suc (suc (suc (length ds)));
  marked = m;
}

one_more : (ds : List ℕ) (b : ℕ) → length (ds ++ b ∷ []) ≡ suc (length ds)
one_more ds b = simp length-append (add-one (length ds))

-- the next free place takes a byte
slot : (ds : List ℕ) (b : ℕ) → length ds < 15
    → set (ds ++ replicate (15 - length ds) 0) (length ds) b ≡ (ds ++ b ∷ []) ++ replicate (15 - length (ds ++ b ∷ [])) 0
slot ds b h =
    let e : 15 - length ds ≡ suc (15 - suc (length ds)) = omega arith in
    let zeros : List ℕ = replicate (15 - suc (length ds)) 0 in
    rw (e, one_more ds b) (set-append_seam ds 0 zeros b ∙ sym (append_assoc ds (b ∷ []) zeros))

-- it stores a data byte
pub holding_stores : (ds : List ℕ) (a c : ℕ) (m : Bool) (b : Byte) → length ds < c / 16 → c / 16 ≤ 15
    → taken (holding ds a c m) b.value b.mark ≡ waits (holding (ds ++ b.value ∷ []) a c (m || b.mark))
unfolding taken
holding_stores ds a c m b h k =
    let x : ℕ = b.value in
    let f : suc (suc (suc (length ds))) + 1 ≡ suc (suc (suc (length (ds ++ x ∷ [])))) = omega (arith, one_more ds x) in
    rw (lt-ltb _ _ h, slot ds x (omega arith), f)

-- it ends its frame with the last byte
pub holding-ends : (ds : List ℕ) (a c : ℕ) (m : Bool) (b : Byte) → length ds ≡ c / 16
    → taken (holding ds a c m) b.value b.mark ≡ record { next = idle; answer = Some ((m || b.mark) || not (eqb b.value (sum8 a c ds))) }
unfolding taken
holding-ends ds a c m b h =
    rw (le-ltb (length ds) (c / 16) (omega arith), take_at ds (replicate (15 - length ds) 0) (c / 16) h)

-- that frame has the data bytes that are in
pub holding-frame : (ds : List ℕ) (a c : ℕ) (m d : Bool) → length ds ≡ c / 16
    → frame_in (holding ds a c m) d ≡ record { address = a; code = c % 16; content = ds; damaged = d }
holding-frame ds a c m d h = rw (take_at ds (replicate (15 - length ds) 0) (c / 16) h)

-- what reading comes to, once the first byte is taken
onward : Receiver → List Byte → Received → Reading
onward r bs t = elim t.answer [ Some d ↦ ended (frame_in r d) t.next bs | None ↦ reads bs t.next ]

-- a byte that ends nothing, and one that ends a frame
pub reads_on : (b : Byte) (bs : List Byte) (r r' : Receiver) → taken r b.value b.mark ≡ waits r' → reads (b ∷ bs) r ≡ reads bs r'
unfolding reads onward
reads_on b bs r r' e = ap (onward r bs) e

pub reads_end : (b : Byte) (bs : List Byte) (r r' : Receiver) (d : Bool) → taken r b.value b.mark ≡ record { next = r'; answer = Some d }
    → reads (b ∷ bs) r ≡ ended (frame_in r d) r' bs
unfolding reads onward
reads_end b bs r r' d e = ap (onward r bs) e

-- header, address and command bring an idle receiver to the data
pub begins : (a c : Byte) (bs : List Byte)
    → reads (header ∷ a ∷ c ∷ bs) idle ≡ reads bs (holding [] a.value c.value (a.mark || c.mark))
unfolding reads taken
begins a c bs = refl
