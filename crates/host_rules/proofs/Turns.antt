-- A turn of the loops that count and read a reply's items. Assumes nothing.
use mathlib.Core.Path.{◌≡◌, refl, ap, ◌∙◌}
use mathlib.Core.List.{List, ◌∷◌, ◌++◌}
use mathlib.Core.Bool.{Bool, true, false, cond}
use Prim.Native.Nat.{ℕ, suc, ◌+◌, ◌/◌, ◌%◌, ◌<◌, ◌≤◌}
use native.Mathlib.Numerals.{add-one}
use native.Mathlib.Omega.{arith}
use lib.ListN.{length, get_or, take, drop, set}
use lib.Seq.{drop-cons, drop-drop, take-suc-set, append_snoc}
use lib.Dec.{eqb}
use Rattle.base_layout.specs.Bytes.{of_le}
use Rattle.host_rules.specs.Reading.{one_size, chosen_size, numbers_in}

-- an item that is not chosen is read from no bytes
number_bit : (b k : ℕ) (f : List ℕ → List ℕ) (bs : List ℕ)
    → cond (eqb (b % 2) 1) (of_le (take k bs) ∷ f (drop k bs)) (0 ∷ f bs) ≡ of_le (take (one_size b k) bs) ∷ f (drop (one_size b k) bs)
number_bit b k f bs = by (eqb (b % 2) 1)
  where
    by : (t : Bool) → cond t (of_le (take k bs) ∷ f (drop k bs)) (0 ∷ f bs) ≡ of_le (take (cond t k 0) bs) ∷ f (drop (cond t k 0) bs)
    by true = refl
    by false = refl

pub size_least : (b k : ℕ) → one_size b k ≤ k
size_least b k = by (eqb (b % 2) 1)
  where
    by : (t : Bool) → cond t k 0 ≤ k
    by true = omega arith
    by false = omega arith

pub size_turn : (ks : List ℕ) (b i : ℕ) → i < length ks
    → chosen_size b (drop i ks) ≡ one_size b (get_or ks i 0) + chosen_size (b / 2) (drop (i + 1) ks)
size_turn ks b i h = rw (add-one i, drop-cons ks i 0 h)

pub number_turn : (ks xs bs : List ℕ) (b i at : ℕ) → i < length ks → i < length xs
    → take (i + 1) (set xs i (of_le (take (one_size b (get_or ks i 0)) (drop at bs))))
    ++ numbers_in (b / 2) (drop (i + 1) ks) (drop (at + one_size b (get_or ks i 0)) bs)
    ≡ take i xs ++ numbers_in b (drop i ks) (drop at bs)
number_turn ks xs bs b i at hk hx =
    let k : ℕ = one_size b (get_or ks i 0) in
    let rest : List ℕ → List ℕ = numbers_in (b / 2) (drop (suc i) ks) in
    let x : ℕ = of_le (take k (drop at bs)) in
    let e : numbers_in b (drop i ks) (drop at bs) ≡ x ∷ rest (drop (at + k) bs) =
    ap (λ (l : List ℕ). numbers_in b l (drop at bs)) (drop-cons ks i 0 hk)
    ∙ number_bit b (get_or ks i 0) rest (drop at bs)
    ∙ ap (λ (l : List ℕ). x ∷ rest l) (drop-drop k at bs) in
    rw (add-one i, take-suc-set xs i x hx, e) (append_snoc (take i xs) x (rest (drop (at + k) bs)))
