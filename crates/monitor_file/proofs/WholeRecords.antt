-- What whole records come to, and what follows them. Assumes nothing.
use mathlib.Core.Path.{◌≡◌, refl, ap, ◌∙◌}
use mathlib.Core.List.{List, [], ◌∷◌, ◌++◌}
use mathlib.Core.Bool.{Bool, true, false}
use Prim.Native.Nat.{ℕ, zero, suc, ◌+◌, ◌-◌, ◌<◌}
use native.Mathlib.Omega.{arith}
use lib.ListN.{length, length-append}
use Rattle.line_receiver.specs.Frames.{Byte}
use Rattle.text_rules.specs.Records.{mark_of}
use Rattle.text_rules.specs.Fold.{Reading, onward, onward_with, still, folded, joined}
use Rattle.text_rules.proofs.Folding.{fold_by, fold-append}
use Rattle.replay_file.specs.Records.{body_length, kinds}
use Rattle.monitor_file.specs.declared.Part.{Part}
use Rattle.monitor_file.specs.declared.Part.TheVariants.{Kind}
use Rattle.monitor_file.specs.Looking.{step, brought, look_from}
use Rattle.monitor_file.specs.Promises.{File, empty, line, other, mark}
use Rattle.monitor_file.proofs.RecordSteps.{left_of, other_begun, one_passed}

-- bytes of a body that leave so many of it
pub passing : (k n m : ℕ) (body : List ℕ) → n ≡ length body + m → look_from (left_of k n) body ≡ record { stage = left_of k m; bytes = []; count = length body }
unfolding folded
passing k n m [] e = let z : n ≡ m = omega arith in ap (λ (j : ℕ). still (left_of k j)) z
passing k zero m (c ∷ cs) e = absurd (omega arith)
passing k (suc n) m (c ∷ cs) e = fold_by brought (left_of k (suc n)) c cs (one_passed k n c) ∙ ap onward (passing k n m cs (omega arith))

-- a record of another kind, whole or cut
pub other_record : (k m : ℕ) (body : List ℕ) → k < kinds → (k ≡ 1 → ⊥) → body_length k ≡ length body + m
    → look_from Kind (k ∷ body) ≡ record { stage = left_of k m; bytes = []; count = suc (length body) }
other_record k m body h n e = fold_by brought Kind k body (other_begun k h n) ∙ ap onward (passing k (body_length k) m body e)

pub line_record : (b : Byte) (rs : List ℕ) → look_from Kind (1 ∷ mark_of b.mark ∷ b.value ∷ rs) ≡ onward (onward (onward_with b (look_from Kind rs)))
unfolding folded step
line_record b rs = go b.mark
  where
    go : (m : Bool) → look_from Kind (1 ∷ mark_of m ∷ b.value ∷ rs) ≡ onward (onward (onward_with (record { value = b.value; mark = m }) (look_from Kind rs)))
    go true = refl
    go false = refl

-- a file of whole records is taken whole
pub looked : {f : List ℕ} {bs : List Byte} → File f bs → look_from Kind f ≡ record { stage = Kind; bytes = bs; count = length f }
unfolding folded
looked empty = refl
looked (line {rs = rs} b x) = line_record b rs ∙ ap (λ (q : Reading Part). onward (onward (onward_with b q))) (looked x)
looked (other {k = k} {rs = rs} {bs = bs} body h n e x) =
    let y : look_from Kind (k ∷ body) ≡ record { stage = Kind; bytes = []; count = suc (length body) } = other_record k 0 body h n (omega arith) in
    fold-append brought Kind (k ∷ body) rs (ap (λ (q : Reading Part). q.count) y)
    ∙ ap (λ (q : Reading Part). joined q (look_from q.stage rs)) y
    ∙ ap (joined (record { stage = Kind; bytes = []; count = suc (length body) })) (looked x)
    ∙ ap (λ (j : ℕ). record { stage = Kind; bytes = bs; count = j }) (omega (arith, length-append body rs))

-- and what follows it is looked at by itself
pub followed : {f : List ℕ} {bs : List Byte} → File f bs → (r : List ℕ)
    → look_from Kind (f ++ r) ≡ joined (record { stage = Kind; bytes = bs; count = length f }) (look_from Kind r)
followed {f = f} x r =
    fold-append brought Kind f r (ap (λ (q : Reading Part). q.count) (looked x)) ∙ ap (λ (q : Reading Part). joined q (look_from q.stage r)) (looked x)
