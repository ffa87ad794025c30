-- The reader takes apart what a module replies. Assumes nothing.
use mathlib.Core.Path.{◌≡◌, refl, ap, ap₂, ◌∙◌}
use mathlib.Core.List.{List, [], ◌∷◌, ◌++◌, append_assoc}
use mathlib.Core.Bool.{Bool, true, false, cond}
use Prim.Native.Nat.{ℕ, ◌+◌, ◌-◌, ◌/◌, ◌%◌, ◌^◌, ◌<◌}
use native.Mathlib.Omega.{arith}
use borrow.Author.Tests.{eq-eqb}
use lib.ListN.{length, take, drop, length-append}
use lib.Seq.{take_at, drop_at, take-append_seam, get_or-append_seam}
use lib.Dec.{eqb}
use Rattle.base_layout.specs.Bytes.{le, of_le}
use Rattle.base_layout.proofs.Laws.{length-le, of_le-le}
use Rattle.line_receiver.specs.Receive.{total}
use Rattle.module_rules.specs.Report.{item, chosen, with_sum, report, Fit}
use Rattle.types_rules.specs.Types.{sizes_of}
use Rattle.types_rules.proofs.Promised.{numbers as Numbers-of}
use Rattle.host_rules.specs.Reading.{chosen_size, needed_for, summed, numbers_in, reading_of, status_of}
use Rattle.host_rules.specs.Promises.{shown, ReadBack, Status, Taken}

item_long : (t : Bool) (k x : ℕ) → length (item t k x) ≡ cond t k 0
item_long true k x = length-le k x
item_long false k x = refl

-- the chosen items have the bytes that the reader asks for
chosen_long : (b : ℕ) (ks xs : List ℕ) → Fit ks xs → length (chosen b ks xs) ≡ chosen_size b ks
chosen_long b [] xs f = refl
chosen_long b (k ∷ ks) [] f = absurd f
chosen_long b (k ∷ ks) (x ∷ xs) f =
    let t : Bool = eqb (b % 2) 1 in
    length-append (item t k x) (chosen (b / 2) ks xs) ∙ ap₂ ◌+◌ (item_long t k x) (chosen_long (b / 2) ks xs f.1)

-- one item and what follows it, read
item_back : (t : Bool) (k x : ℕ) (f : List ℕ → List ℕ) (bs : List ℕ) → x < 256 ^ k
    → cond t (of_le (take k (item t k x ++ bs)) ∷ f (drop k (item t k x ++ bs))) (0 ∷ f (item t k x ++ bs)) ≡ cond t x 0 ∷ f bs
item_back false k x f bs h = refl
item_back true k x f bs h = rw (take_at (le k x) bs k (length-le k x), drop_at (le k x) bs k (length-le k x), of_le-le k x h)

-- the chosen items are read back, whatever follows them
chosen-back : (b : ℕ) (ks xs rest : List ℕ) → Fit ks xs → numbers_in b ks (chosen b ks xs ++ rest) ≡ shown b xs
chosen-back b [] [] rest f = refl
chosen-back b [] (x ∷ xs) rest f = absurd f
chosen-back b (k ∷ ks) [] rest f = absurd f
chosen-back b (k ∷ ks) (x ∷ xs) rest f =
    let t : Bool = eqb (b % 2) 1 in
    let more : List ℕ = chosen (b / 2) ks xs in
    ap (numbers_in b (k ∷ ks)) (append_assoc (item t k x) more rest)
    ∙ item_back t k x (numbers_in (b / 2) ks) (more ++ rest) f.0
    ∙ ap (λ (l : List ℕ). cond t x 0 ∷ l) (chosen-back (b / 2) ks xs rest f.1)

-- bytes with their sum are summed
sum_right : (bs : List ℕ) → summed (with_sum bs) ≡ true
unfolding summed
sum_right bs =
    let s : ℕ = total bs % 256 in
    let l : length (bs ++ s ∷ []) - 1 ≡ length bs = omega (arith, length-append bs (s ∷ [])) in
    rw (l, get_or-append_seam bs s [] 0, take-append_seam bs (s ∷ [])) (eq-eqb s s refl)

pub status : Status
unfolding report reading_of
status st items sizes numbers f = record {
  long = omega (arith, length-append (st ∷ chosen items sizes numbers) (total (st ∷ chosen items sizes numbers) % 256 ∷ []), chosen_long items sizes numbers f);
  right = sum_right (st ∷ chosen items sizes numbers);
  same =
      ap (λ (l : List ℕ). record { status = st; numbers = l })
      (chosen-back items sizes numbers (total (st ∷ chosen items sizes numbers) % 256 ∷ []) f);
}

pub taken : Taken
unfolding status_of
taken kind st items numbers k e f =
    let r : ReadBack st items (sizes_of kind) numbers (report st items (sizes_of kind) numbers) = status st items (sizes_of kind) numbers f in
    rw ((Numbers-of kind).1 k, e, eq-eqb (length (report st items (sizes_of kind) numbers)) (needed_for items (sizes_of kind)) r.long, r.right, r.same)
