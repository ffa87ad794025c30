-- Files of whole records, and where a bad one stops them. Assumes nothing.
use mathlib.Core.Path.{◌≡◌, refl, sym, ap, subst, ◌∙◌}
use mathlib.Core.List.{List, [], ◌∷◌, ◌++◌, append-nil, append_assoc}
use mathlib.Core.Bool.{Bool, true, false}
use Prim.Native.Nat.{ℕ, zero, suc, ◌+◌, ◌-◌, ◌<◌, ◌≤◌}
use native.Mathlib.Omega.{arith}
use borrow.Author.Tests.{eqb-true, eqb-false, leb-true, leb-false, ltb-true, ltb-false}
use lib.ListN.{length, take, drop, length-append, length-drop, take-append-drop}
use lib.Seq.{length-take-le}
use lib.Dec.{eqb, leb, ltb}
use Rattle.line_receiver.specs.Frames.{Byte}
use Rattle.text_rules.specs.Records.{mark_of, records}
use Rattle.text_rules.specs.Fold.{Reading}
use Rattle.replay_file.specs.Records.{body_length, kinds}
use Rattle.monitor_file.specs.declared.Part.{Part}
use Rattle.monitor_file.specs.declared.Part.TheVariants.{Kind}
use Rattle.monitor_file.specs.Looking.{look_from, gone}
use Rattle.monitor_file.specs.Promises.{File, empty, line, other, Bad, unknown, mark, cut, Parted, whole, stops, EveryFile, LooksAt, StopsAt, OnlyLine}
use Rattle.monitor_file.proofs.WholeRecords.{looked, followed}
use Rattle.monitor_file.proofs.BadRecords.{stopped}

pub looks_at : LooksAt
looks_at f bs x =
    let e = looked x in (
      ap (λ (q : Reading Part). q.bytes) e,
      (ap (λ (q : Reading Part). q.count) e, ap (λ (q : Reading Part). q.stage) e),
      ap (λ (q : Reading Part). q.count - gone q.stage) e ∙ omega arith,
    )

some_byte : {r : List ℕ} → Bad r → 0 < length r
some_byte (unknown h) = omega arith
some_byte (mark h) = omega arith
some_byte (cut h l) = omega arith

pub stops_at : StopsAt
stops_at f r bs x b =
    let e = followed x r in
    let s = stopped b in
    let c : (look_from Kind (f ++ r)).count ≡ length f + (look_from Kind r).count = ap (λ (q : Reading Part). q.count) e in
    let p : (look_from Kind (f ++ r)).stage ≡ (look_from Kind r).stage = ap (λ (q : Reading Part). q.stage) e in (
      ap (λ (q : Reading Part). q.bytes) e ∙ ap (λ (l : List Byte). bs ++ l) s.0 ∙ append-nil bs,
      λ g. omega (arith, g.0, c, s.1, ap gone (sym p ∙ g.1), some_byte b, length-append f r),
      omega (arith, c, s.1, ap gone p),
    )

only_file : (bs : List Byte) → File (records bs) bs
only_file [] = empty
only_file (b ∷ bs) = line b (only_file bs)

pub only_line : OnlyLine
only_line bs = let l = looks_at (records bs) bs (only_file bs) in (l.0, l.1)

-- every file: a record before what is parted into such
before-line : (b : Byte) (rs : List ℕ) → Parted rs → Parted (1 ∷ mark_of b.mark ∷ b.value ∷ rs)
before-line b _ (whole x) = whole (line b x)
before-line b _ (stops x r) = stops (line b x) r

before_other : (k : ℕ) (body rs : List ℕ) → k < kinds → (k ≡ 1 → ⊥) → length body ≡ body_length k → Parted rs → Parted (k ∷ body ++ rs)
before_other k body _ h n e (whole x) = whole (other body h n e x)
before_other k body _ h n e (stops {f = f} {r = r} x b) = subst Parted (ap (λ (l : List ℕ). k ∷ l) (append_assoc body f r)) (stops (other body h n e x) b)

module _ (n : ℕ) (ih : (rs : List ℕ) → length rs ≤ n → Parted rs) where
  line_parted : (rest : List ℕ) → length rest ≤ n → Parted (1 ∷ rest)
  unfolding body_length
  line_parted [] h = stops empty (cut {k = 1} {body = []} (omega arith) (omega arith))
  line_parted (m ∷ []) h = stops empty (cut {k = 1} {body = m ∷ []} (omega arith) (omega arith))
  line_parted (zero ∷ v ∷ rs) h = before-line (record { value = v; mark = false }) rs (ih rs (omega arith))
  line_parted (suc zero ∷ v ∷ rs) h = before-line (record { value = v; mark = true }) rs (ih rs (omega arith))
  line_parted (suc (suc m) ∷ v ∷ rs) h = stops empty (mark {m = suc (suc m)} {rest = v ∷ rs} (omega arith))

  other_parted : (k : ℕ) (rest : List ℕ) → (k ≡ 1 → ⊥) → length rest ≤ n → Parted (k ∷ rest)
  other_parted k rest d h = go (leb kinds k) (ltb (length rest) (body_length k)) refl refl
    where
      go : (p q : Bool) → leb kinds k ≡ p → ltb (length rest) (body_length k) ≡ q → Parted (k ∷ rest)
      go true q e f = stops empty (unknown (leb-true kinds k e))
      go false true e f = stops empty (cut (leb-false kinds k e) (ltb-true _ _ f))
      go false false e f =
          let j = body_length k in
          subst Parted (ap (λ (l : List ℕ). k ∷ l) (take-append-drop j rest))
          (before_other k (take j rest) (drop j rest) (leb-false kinds k e) d (length-take-le j rest (ltb-false _ _ f))
          (ih (drop j rest) (omega (arith, length-drop j rest))))

parted : (n : ℕ) (f : List ℕ) → length f ≤ n → Parted f
parted zero [] h = whole empty
parted zero (k ∷ rest) h = absurd (omega arith)
parted (suc n) [] h = whole empty
parted (suc n) (k ∷ rest) h = go (λ rs l. parted n rs l) (eqb k 1) refl
  where
    go : ((rs : List ℕ) → length rs ≤ n → Parted rs) → (t : Bool) → eqb k 1 ≡ t → Parted (k ∷ rest)
    go ih true e = subst (λ (j : ℕ). Parted (j ∷ rest)) (sym (eqb-true k 1 e)) (line_parted n ih rest (omega arith))
    go ih false e = other_parted n ih k rest (eqb-false k 1 e) (omega arith)

pub every_file : EveryFile
every_file f = parted (length f) f (omega arith)
