-- Marked: marks and a wrong last byte change neither where a frame ends nor what it carries. Assumes nothing.
use Rattle.std.proofs.Common.{◌≡◌, ℕ, ◌+◌, ◌/◌, ◌%◌, ◌≤◌, Bool, not, ◌||◌, eqb, List, [], ◌∷◌, ◌++◌, length, ap, ◌∙◌, append_assoc, append-nil, arith, length-append}
use mathlib.Core.Bool.{or_assoc, or-false}
use Rattle.line_receiver.specs.Receive.{sum8, idle}
use Rattle.line_receiver.specs.Frames.{Byte, Frame, ended, reads, values, any_mark}
use Rattle.line_receiver.specs.Promises.{Marked}
use Rattle.line_receiver.proofs.Holding.{holding, holding_stores, holding-ends, holding-frame, reads_on, reads_end, begins}

-- from the data bytes ds on, the bytes xs and a last one end the frame
rest : (xs : List Byte) (ds : List ℕ) (a c : ℕ) (m : Bool) (last : Byte) → length ds + length xs ≡ c / 16 → c / 16 ≤ 15
    → reads (xs ++ last ∷ []) (holding ds a c m)
    ≡ ended
    (record {
      address = a;
      code = c % 16;
      content = ds ++ values xs;
      damaged = (m || any_mark (xs ++ last ∷ [])) || not (eqb last.value (sum8 a c (ds ++ values xs)));
    })
    idle
    []
rest [] ds a c m last h k =
    let e : length ds ≡ c / 16 = omega arith in
    let d : Bool = (m || last.mark) || not (eqb last.value (sum8 a c ds)) in
    rw (append-nil ds, or-false last.mark)
    (reads_end last [] (holding ds a c m) idle d (holding-ends ds a c m last e)
    ∙ ap (λ (f : Frame). ended f idle []) (holding-frame ds a c m d e))
rest (x ∷ xs) ds a c m last h k =
    let ih = rest xs (ds ++ x.value ∷ []) a c (m || x.mark) last (simp length-append (omega arith)) k in
    reads_on x (xs ++ last ∷ []) (holding ds a c m) (holding (ds ++ x.value ∷ []) a c (m || x.mark)) (holding_stores ds a c m x (omega arith) k)
    ∙ (rw (append_assoc ds (x.value ∷ []) (values xs), or_assoc m x.mark (any_mark (xs ++ last ∷ []))) at ih)

pub marked : Marked
marked address command ds last h e =
    let g = rest ds [] address.value command.value (address.mark || command.mark) last (omega arith) (omega arith) in
    begins address command (ds ++ last ∷ []) ∙ (rw (or_assoc address.mark command.mark (any_mark (ds ++ last ∷ []))) at g)
