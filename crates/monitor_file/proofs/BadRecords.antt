-- Where a bad record stops, by how it is bad. Assumes nothing.
use mathlib.Core.Path.{◌≡◌, refl, sym, ap, subst}
use mathlib.Core.List.{List, [], ◌∷◌}
use mathlib.Core.Bool.{Bool, true, false, cond}
use Prim.Native.Nat.{ℕ, ◌-◌, ◌<◌}
use native.Mathlib.Omega.{arith}
use borrow.Author.Tests.{ne_eqb, eqb-true, eqb-false, le-leb}
use lib.ListN.{length}
use lib.Dec.{eqb}
use Rattle.text_rules.specs.Fold.{cannot, Reading, onward, still, goes_on, folded}
use Rattle.text_rules.proofs.Folding.{fold_by}
use Rattle.replay_file.specs.Records.{body_length, kinds}
use Rattle.monitor_file.specs.declared.Part.{Part}
use Rattle.monitor_file.specs.declared.Part.TheVariants.{Kind, Mark, Value}
use Rattle.monitor_file.specs.declared.Took.TheVariants.{More, Cannot}
use Rattle.monitor_file.specs.Looking.{step, told, brought, look_from, gone}
use Rattle.monitor_file.specs.Promises.{Bad, unknown, mark, cut}
use Rattle.monitor_file.proofs.WholeRecords.{other_record}

-- of a bad record no byte of the line is taken, and as many bytes as are gone of it
abbrev pub Stopped : Reading Part → Type 0
Stopped q = (q.bytes ≡ []) × (q.count ≡ gone q.stage)

-- a line byte that is cut
pub line-cut : (body : List ℕ) → length body < body_length 1 → Stopped (look_from Kind (1 ∷ body))
unfolding folded step body_length
line-cut [] h = (refl, refl)
line-cut (m ∷ []) h = go (eqb m 0) (eqb m 1)
  where
    go : (p q : Bool) → Stopped (onward (goes_on Mark (λ (n : Part). still n) (told (cond p (More (Value false)) (cond q (More (Value true)) Cannot)))))
    go true q = (refl, refl)
    go false true = (refl, refl)
    go false false = (refl, refl)
line-cut (m ∷ v ∷ vs) h = absurd (omega arith)

pub other_cut : (k : ℕ) (body : List ℕ) → k < kinds → (k ≡ 1 → ⊥) → length body < body_length k → Stopped (look_from Kind (k ∷ body))
other_cut k body h n l =
    let m = body_length k - length body in
    subst Stopped (sym (other_record k m body h n (omega arith))) (rw (ne_eqb m 0 (λ e. omega arith)) (refl, omega arith))

pub stopped : {r : List ℕ} → Bad r → Stopped (look_from Kind r)
unfolding folded step
stopped (unknown {k = k} {rest = rest} h) =
    let e : brought Kind k ≡ cannot = rw (ne_eqb k 1 (λ e. omega arith), le-leb kinds k h) refl in
    subst Stopped (sym (fold_by brought Kind k rest e)) (refl, refl)
stopped (mark {m = m} {rest = rest} h) =
    let e : brought Mark m ≡ cannot = rw (ne_eqb m 0 (λ e. omega arith), ne_eqb m 1 (λ e. omega arith)) refl in
    subst Stopped (sym (ap onward (fold_by brought Mark m rest e))) (refl, refl)
stopped (cut {k = k} {body = body} h l) = go (eqb k 1) refl
  where
    go : (t : Bool) → eqb k 1 ≡ t → Stopped (look_from Kind (k ∷ body))
    go true e =
        subst (λ (j : ℕ). length body < body_length j → Stopped (look_from Kind (j ∷ body))) (sym (eqb-true k 1 e)) (line-cut body) l
    go false e = other_cut k body h (eqb-false k 1 e) l
