-- A file looked at byte by byte: a body's bytes left stay within it, and a turn of the loop that puts the text of its line bytes. Assumes nothing.
use mathlib.Core.Path.{◌≡◌, refl, sym, ap, ◌∙◌}
use mathlib.Core.List.{List, [], ◌∷◌}
use mathlib.Core.Bool.{Bool, true, false, cond}
use Prim.Native.Nat.{ℕ, suc, ◌+◌, ◌*◌, ◌-◌, ◌<◌, ◌≤◌}
use native.Mathlib.Nat.{zero-add}
use native.Mathlib.Omega.{arith}
use borrow.Author.Tests.{eqb-false, ltb-true, ltb-false}
use lib.ListN.{length, get_or, drop}
use lib.Dec.{eqb, leb, ltb}
use Rattle.base_layout.specs.Bytes.{pasted}
use Rattle.base_layout.proofs.Pasted.{pasted_none}
use Rattle.line_receiver.specs.Frames.{Byte}
use Rattle.text_rules.specs.Records.{line_kind}
use Rattle.text_rules.specs.Export.{in_column, column_after, text_from}
use Rattle.text_rules.specs.Fold.{more, gives, Reading, onward, onward_with, still, goes_on, folded}
use Rattle.text_rules.proofs.Folding.{turn_by, fold_few, fold-within}
use Rattle.text_rules.proofs.Columns.{column_on, text_short, text_length, text_turn}
use Rattle.replay_file.specs.Records.{body_length, kinds}
use Rattle.monitor_file.specs.declared.Part.{Part}
use Rattle.monitor_file.specs.declared.Part.TheVariants.{Kind, Mark, Value, Rest}
use Rattle.monitor_file.specs.declared.Took.{Took}
use Rattle.monitor_file.specs.declared.Took.TheVariants.{More, Ended, Cannot}
use Rattle.monitor_file.specs.Looking.{begun, marked, passed, step, told, brought, look_from, gone, Fit, look_of}

-- the part after an answer is fit, and has one byte more of its record at most
abbrev pub FitAfter : ℕ → Took → Type 0
FitAfter g (More p) = Fit p × (gone p ≤ suc g)
FitAfter g (Ended b m) = Unit {0}
FitAfter g Cannot = Unit {0}

positive : (n : ℕ) → (n ≡ 0 → ⊥) → 0 < n
positive n h = go (ltb 0 n) refl
  where
    go : (t : Bool) → ltb 0 n ≡ t → 0 < n
    go true e = ltb-true 0 n e
    go false e = absurd (h (omega (arith, ltb-false 0 n e)))

begun_fit : (k : ℕ) → FitAfter (gone Kind) (begun k)
begun_fit k = go (eqb k line_kind) (leb kinds k) (eqb (body_length k) 0) refl
  where
    go : (p q r : Bool) → eqb (body_length k) 0 ≡ r → FitAfter (gone Kind) (cond p (More Mark) (cond q Cannot (cond r (More Kind) (More (Rest k (body_length k))))))
    go true q r e = (tt, omega arith)
    go false true r e = tt
    go false false true e = (tt, omega arith)
    go false false false e = ((positive (body_length k) (eqb-false _ _ e), omega arith), omega arith)

marked_fit : (m : ℕ) → FitAfter (gone Mark) (marked m)
marked_fit m = go (eqb m 0) (eqb m 1)
  where
    go : (p q : Bool) → FitAfter (gone Mark) (cond p (More (Value false)) (cond q (More (Value true)) Cannot))
    go true q = (tt, omega arith)
    go false true = (tt, omega arith)
    go false false = tt

passed_fit : (k left : ℕ) → Fit (Rest k left) → FitAfter (gone (Rest k left)) (passed k left)
passed_fit k left h = go (eqb left 1) refl
  where
    go : (q : Bool) → eqb left 1 ≡ q → FitAfter (gone (Rest k left)) (cond q (More Kind) (More (Rest k (left - 1))))
    go true e = (tt, omega arith)
    go false e = let n = positive (left - 1) (λ z. eqb-false left 1 e (omega (arith, h.0))) in ((n, omega (arith, h.1)), omega (arith, h.1))

pub step_fit : (p : Part) (b : ℕ) → Fit p → FitAfter (gone p) (step p b)
unfolding step
step_fit Kind b h = begun_fit b
step_fit Mark b h = marked_fit b
step_fit (Value m) b h = tt
step_fit (Rest k left) b h = passed_fit k left h

-- so is the part after any bytes, and they reach back to its record's start
look_kept : (p : Part) (t : List ℕ) → Fit p → Fit (look_from p t).stage × (gone (look_from p t).stage ≤ gone p + (look_from p t).count)
unfolding folded
look_kept p [] h = (h, omega arith)
look_kept p (c ∷ cs) h = go (λ n k. look_kept n cs k) (step p c) (step_fit p c h)
  where
    go : ((n : Part) → Fit n → Fit (look_from n cs).stage × (gone (look_from n cs).stage ≤ gone n + (look_from n cs).count))
        → (k : Took)
        → FitAfter (gone p) k
        → Fit (goes_on p (λ (n : Part). look_from n cs) (told k)).stage
        × (gone (goes_on p (λ (n : Part). look_from n cs) (told k)).stage ≤ gone p + (goes_on p (λ (n : Part). look_from n cs) (told k)).count)
    go ih (More n) f = let x = ih n f.0 in (x.0, omega (arith, x.1, f.1))
    go ih (Ended v m) f = let x = ih Kind tt in (x.0, omega (arith, x.1))
    go ih Cannot f = (h, omega arith)

pub look_fit : (p : Part) (t : List ℕ) → Fit p → Fit (look_from p t).stage
look_fit p t h = (look_kept p t h).0

pub look_gone : (p : Part) (t : List ℕ) → Fit p → gone (look_from p t).stage ≤ gone p + (look_from p t).count
look_gone p t h = (look_kept p t h).1

-- five characters of text for each byte of the file are enough
pub look_room : (p : Part) (c : ℕ) (t : List ℕ) → length (text_from c (look_from p t).bytes) ≤ 5 * length t
look_room p c t = omega (arith, text_short c (look_from p t).bytes, fold_few brought p t, fold-within brought p t)

-- Where the loop stands: what the rest comes to gives the whole.
pub record Looking (whole : Reading Part) (first : ℕ) (t room₀ : List ℕ) (p : Part) (col at i : ℕ) (room : List ℕ) : Type 0 where
  pub long : length room ≡ length room₀
  pub enough : length (text_from first whole.bytes) ≤ length room₀
  pub stage : (look_from p (drop i t)).stage ≡ whole.stage
  pub count : i + (look_from p (drop i t)).count ≡ whole.count
  pub column : column_after col (length (look_from p (drop i t)).bytes) ≡ column_after first (length whole.bytes)
  pub wrote : at + length (text_from col (look_from p (drop i t)).bytes) ≡ length (text_from first whole.bytes)
  pub put : pasted at (text_from col (look_from p (drop i t)).bytes) room ≡ pasted 0 (text_from first whole.bytes) room₀

pub look_start : (p : Part) (c : ℕ) (t room : List ℕ) → 5 * length t ≤ length room → Looking (look_from p t) c t room p c 0 0 room
look_start p c t room h = record {
  long = refl;
  enough = omega (arith, look_room p c t);
  stage = refl;
  count = zero-add (look_from p t).count;
  column = refl;
  wrote = zero-add (length (text_from c (look_from p t).bytes));
  put = refl;
}

module _ (whole : Reading Part) (first : ℕ) (t room₀ : List ℕ) (p : Part) (col at i : ℕ) (room : List ℕ)
    (l : Looking whole first t room₀ p col at i room) where
  pub look_more : (n : Part) → i < length t → brought p (get_or t i 0) ≡ more n → Looking whole first t room₀ n col at (i + 1) room
  look_more n h e =
      let r = look_from n (drop (i + 1) t) in
      let x : look_from p (drop i t) ≡ onward r = turn_by brought p t i h e in
      record {
        long = l.long;
        enough = l.enough;
        stage = ap (λ (q : Reading Part). q.stage) (sym x) ∙ l.stage;
        count = omega (arith, ap (λ (q : Reading Part). q.count) x, l.count);
        column = ap (λ (q : Reading Part). column_after col (length q.bytes)) (sym x) ∙ l.column;
        wrote = ap (λ (q : Reading Part). at + length (text_from col q.bytes)) (sym x) ∙ l.wrote;
        put = ap (λ (q : Reading Part). pasted at (text_from col q.bytes) room) (sym x) ∙ l.put;
      }

  -- a line byte has room, and is put
  module _ (b : Byte) (n : Part) (h : i < length t) (e : brought p (get_or t i 0) ≡ gives b n) where
    given : look_from p (drop i t) ≡ onward_with b (look_from n (drop (i + 1) t))
    given = turn_by brought p t i h e

    given-length : at + (length (in_column col b) + length (text_from (column_after col 1) (look_from n (drop (i + 1) t)).bytes))
        ≡ length (text_from first whole.bytes)
    given-length =
        ap (λ (k : ℕ). at + k) (sym (text_length col b (look_from n (drop (i + 1) t)).bytes))
        ∙ ap (λ (q : Reading Part). at + length (text_from col q.bytes)) (sym given)
        ∙ l.wrote

    pub byte-room : at + length (in_column col b) ≤ length room
    byte-room = omega (arith, given-length, l.enough, l.long)

    pub look-gives : (w : ℕ) (room' : List ℕ) → w ≡ at + length (in_column col b) → length room' ≡ length room
        → room' ≡ pasted at (in_column col b) room → Looking whole first t room₀ n (column_after col 1) w (i + 1) room'
    look-gives w room' ew lr er =
        let bs : List Byte = (look_from n (drop (i + 1) t)).bytes in
        let fits : at + length (text_from col (b ∷ bs)) ≤ length room = omega (arith, text_length col b bs, given-length, l.enough, l.long) in
        record {
          long = lr ∙ l.long;
          enough = l.enough;
          stage = ap (λ (q : Reading Part). q.stage) (sym given) ∙ l.stage;
          count = omega (arith, ap (λ (q : Reading Part). q.count) given, l.count);
          column = column_on col (length bs) ∙ ap (λ (q : Reading Part). column_after col (length q.bytes)) (sym given) ∙ l.column;
          wrote = omega (arith, ew, given-length);
          put = ap (λ (k : ℕ). pasted k (text_from (column_after col 1) bs) room') ew ∙ text_turn col b bs at room fits er
              ∙ ap (λ (q : Reading Part). pasted at (text_from col q.bytes) room) (sym given) ∙ l.put;
        }

  -- where it stops it has the whole
  pub look_stop : col < 16 → look_from p (drop i t) ≡ still p
      → (record { part = p; count = i; column = col; wrote = at } ≡ look_of first whole) × (room ≡ pasted 0 (text_from first whole.bytes) room₀)
  unfolding text_from
  look_stop s x =
      let es = ap (λ (q : Reading Part). q.stage) (sym x) ∙ l.stage in
      let ec : i ≡ whole.count = omega (arith, ap (λ (q : Reading Part). q.count) x, l.count) in
      let en : column_after col 0 ≡ column_after first (length whole.bytes) = ap (λ (q : Reading Part). column_after col (length q.bytes)) (sym x) ∙ l.column in
      let ek : col ≡ column_after first (length whole.bytes) = omega (arith, s, en) in
      let ew : at ≡ length (text_from first whole.bytes) = omega (arith, ap (λ (q : Reading Part). length (text_from col q.bytes)) x, l.wrote) in
      (rw (es, ec, ek, ew) refl, sym (pasted_none at room) ∙ ap (λ (q : Reading Part). pasted at (text_from col q.bytes) room) (sym x) ∙ l.put)
