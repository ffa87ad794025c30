-- Records taken three bytes at a time: a turn of the loops along them. Assumes nothing.
use mathlib.Core.Path.{◌≡◌, refl, sym, ap, ap₂, ◌∙◌}
use mathlib.Core.List.{List, [], ◌∷◌, ◌++◌}
use mathlib.Core.Bool.{Bool, true, false, cond, ◌&&◌}
use Prim.Native.Nat.{ℕ, suc, ◌+◌, ◌-◌, ◌%◌, ◌<◌, ◌≤◌}
use native.Mathlib.Omega.{arith}
use borrow.Author.Tests.{eq-eqb, ne_eqb, le-leb, lt-leb, lt-ltb, le-ltb, ltb-true, ltb-false}
use lib.ListN.{length, get_or, length-append}
use lib.Dec.{eqb, leb, ltb}
use Rattle.std.proofs.Common.{Option, Some, None}
use Rattle.text_rules.specs.Records.{line_kind, all_line, bytes_in, marks, measured_of}
use Rattle.text_rules.specs.Export.{exported}
use Rattle.text_rules.proofs.Export.{length_exported}
use Rattle.text_rules.proofs.ThereAndBack.{one_mark}
use Rattle.text_rules.proofs.Normal.{length-records, line_records}

-- a record, and those behind it
pub byte_of_lem : (r rest : List ℕ) → length r ≡ 3
    → bytes_in (r ++ rest) ≡ record { value = get_or r 2 0; mark = eqb (get_or r 1 0) 1 } ∷ bytes_in rest
unfolding bytes_in
byte_of_lem [] rest h = absurd (omega arith)
byte_of_lem (k ∷ []) rest h = absurd (omega arith)
byte_of_lem (k ∷ m ∷ []) rest h = absurd (omega arith)
byte_of_lem (k ∷ m ∷ b ∷ []) rest h = refl
byte_of_lem (k ∷ m ∷ b ∷ a ∷ others) rest h = absurd (omega arith)

pub line_of : (r rest : List ℕ) → length r ≡ 3 → all_line (r ++ rest) ≡ (eqb (get_or r 0 0) line_kind && leb (get_or r 1 0) 1 && all_line rest)
unfolding all_line
line_of [] rest h = absurd (omega arith)
line_of (k ∷ []) rest h = absurd (omega arith)
line_of (k ∷ m ∷ []) rest h = absurd (omega arith)
line_of (k ∷ m ∷ b ∷ []) rest h = refl
line_of (k ∷ m ∷ b ∷ a ∷ others) rest h = absurd (omega arith)

-- a record that is cut
cut : (rs : List ℕ) → 0 < length rs → length rs < 3 → all_line rs ≡ false
unfolding all_line
cut [] h g = absurd (omega arith)
cut (k ∷ []) h g = refl
cut (k ∷ m ∷ []) h g = refl
cut (k ∷ m ∷ b ∷ rs) h g = absurd (omega arith)

-- so what is left of whole records, and too short for one, is nothing
pub nothing_left : (rest : List ℕ) → length rest < 3 → all_line rest ≡ true → rest ≡ []
unfolding all_line
nothing_left [] h e = refl
nothing_left (k ∷ []) h e = cc
nothing_left (k ∷ m ∷ []) h e = cc
nothing_left (k ∷ m ∷ b ∷ rest) h e = absurd (omega arith)

-- Where the loop stands that measures, with so many marks so far: the records left give what all of them do.
pub record Along (rs rest : List ℕ) (m : ℕ) : Type 0 where
  pub all : all_line rest ≡ all_line rs
  pub marked : m + marks (bytes_in rest) ≡ marks (bytes_in rs)
  pub parts : length rest % 3 ≡ length rs % 3
  pub few : m + length rest ≤ length rs

pub along-start : (rs : List ℕ) → Along rs rs 0
along-start rs = record { all = refl; marked = omega arith; parts = refl; few = omega arith }

module _ (rs r rest : List ℕ) (m : ℕ) (three : length r ≡ 3) (a : Along rs (r ++ rest) m) where
  pub along_turn : get_or r 0 0 ≡ 1 → get_or r 1 0 ≤ 1 → Along rs rest (m + get_or r 1 0)
  along_turn k l =
      let e = line_of r rest three in
      let f = ap marks (byte_of_lem r rest three) in
      let q = one_mark (get_or r 1 0) l in
      let n = length-append r rest in
      record {
        all = ap₂ (λ (x y : Bool). x && y && all_line rest) (sym (eq-eqb _ _ k)) (sym (le-leb _ _ l)) ∙ sym e ∙ a.all;
        marked = omega (arith, f, q, a.marked);
        parts = omega (arith, n, a.parts);
        few = omega (arith, n, a.few);
      }

  pub along-kind : (get_or r 0 0 ≡ 1 → ⊥) → measured_of rs ≡ None
  unfolding measured_of
  along-kind g =
      ap (λ (t : Bool). cond t (Some (marks (bytes_in rs))) None)
      (sym a.all ∙ line_of r rest three ∙ ap (λ (t : Bool). t && leb (get_or r 1 0) 1 && all_line rest) (ne_eqb _ _ g))

  pub along_mark : get_or r 0 0 ≡ 1 → 1 < get_or r 1 0 → measured_of rs ≡ None
  unfolding measured_of
  along_mark k g =
      ap (λ (t : Bool). cond t (Some (marks (bytes_in rs))) None)
      (sym a.all ∙ line_of r rest three ∙ ap₂ (λ (x y : Bool). x && y && all_line rest) (eq-eqb _ _ k) (lt-leb _ _ g))

module _ (rs rest : List ℕ) (m : ℕ) (h : length rest < 3) (a : Along rs rest m) where
  pub along-cut : (length rs % 3 ≡ 0 → ⊥) → measured_of rs ≡ None
  unfolding measured_of
  along-cut g = ap (λ (t : Bool). cond t (Some (marks (bytes_in rs))) None) (sym a.all ∙ go rest h a.parts)
    where
      go : (l : List ℕ) → length l < 3 → length l % 3 ≡ length rs % 3 → all_line l ≡ false
      go [] h e = absurd (g (sym e))
      go (k ∷ l) h e = cut (k ∷ l) (omega arith) h

  pub along_end : length rs % 3 ≡ 0 → measured_of rs ≡ Some m
  unfolding measured_of all_line bytes_in
  along_end e = go rest h a.all a.marked a.parts
    where
      go : (l : List ℕ) → length l < 3 → all_line l ≡ all_line rs → m + marks (bytes_in l) ≡ marks (bytes_in rs) → length l % 3 ≡ length rs % 3
          → cond (all_line rs) (Some (marks (bytes_in rs))) None ≡ Some m
      go [] h a b p = ap₂ (λ (x : Bool) (y : ℕ). cond x (Some y) None) (sym a) (omega (arith, b))
      go (k ∷ l) h a b p = absurd (omega arith)

-- a sum on one side, or a difference on the other
pub less_by : (a b c : ℕ) → b ≤ a → ltb (a - b) c ≡ ltb a (b + c)
less_by a b c h = go (ltb a (b + c)) refl
  where
    go : (t : Bool) → ltb a (b + c) ≡ t → ltb (a - b) c ≡ t
    go true e = let g = ltb-true a (b + c) e in lt-ltb (a - b) c (omega arith)
    go false e = let g = ltb-false a (b + c) e in le-ltb (a - b) c (omega arith)

-- how long the text of line records is
pub text_length : (rs : List ℕ) → all_line rs ≡ true → length (exported (bytes_in rs)) ≡ length rs + marks (bytes_in rs)
text_length rs e =
    omega (arith, length_exported (bytes_in rs), length-records (bytes_in rs), ap (λ (l : List ℕ). length l) (line_records.taken rs e))

-- what a measure says
pub measured-line : (rs : List ℕ) (m : ℕ) → measured_of rs ≡ Some m → (all_line rs ≡ true) × (marks (bytes_in rs) ≡ m)
unfolding measured_of
measured-line rs m = go (all_line rs)
  where
    go : (t : Bool) → cond t (Some (marks (bytes_in rs))) None ≡ Some m → (t ≡ true) × (marks (bytes_in rs) ≡ m)
    go true e = (refl, cc)
    go false e = cc

pub measured_other : (rs : List ℕ) → measured_of rs ≡ None → all_line rs ≡ false
unfolding measured_of
measured_other rs = go (all_line rs)
  where
    go : (t : Bool) → cond t (Some (marks (bytes_in rs))) None ≡ None → t ≡ false
    go true e = cc
    go false e = refl
