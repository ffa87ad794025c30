-- A load's data bytes, read back by their parts. Assumes nothing.
use mathlib.Core.Path.{◌≡◌, refl, sym, ap, ap₂, ◌∙◌}
use mathlib.Core.List.{List, [], ◌∷◌, ◌++◌}
use mathlib.Core.Bool.{Bool, true, false, cond}
use Prim.Native.Nat.{ℕ, ◌+◌, ◌*◌, ◌/◌, ◌%◌, ◌^◌}
use native.Mathlib.Omega.{arith}
use borrow.Author.Tests.{eqb-true, eqb-false}
use lib.ListN.{length, get_or}
use Rattle.base_integers.specs.Bits.{bit, is_set}
use Rattle.base_layout.specs.Bytes.{of_le, read_at}
use Rattle.stepper_rules.specs.declared.Carried.{Carried}
use Rattle.stepper_rules.specs.Carried.{needed, carried_in}
use Rattle.stepper_rules.specs.FramePromises.{Sent, load_bytes, LoadCount}

-- a bit as a number, by whether it is set
bit_is : (k c : ℕ) → bit k c ≡ cond (is_set k c) 1 0
bit_is k c = at (is_set k c) refl
  where
    at : (t : Bool) → is_set k c ≡ t → bit k c ≡ cond t 1 0
    at true e = eqb-true (bit k c) 1 e
    at false e = let n : bit k c ≡ 1 → ⊥ = eqb-false (bit k c) 1 e in let h : c / 2 ^ k % 2 ≡ bit k c = refl in omega arith

module _ (control : ℕ) (s : Sent) where
  -- the bytes by their four bits
  abbrev by_bits : Bool → Bool → Bool → Bool → List ℕ
  by_bits a b c d =
      control
      ∷ cond a (s.p0 ∷ s.p1 ∷ s.p2 ∷ s.p3 ∷ []) []
      ++ (cond b (s.speed ∷ []) [] ++ (cond c (s.time ∷ []) [] ++ cond d (s.u0 ∷ s.u1 ∷ s.u2 ∷ []) []))

  -- what is read from them, the places being told by the first three bits
  abbrev read_by : Bool → Bool → Bool → Bool → ℕ → ℕ → ℕ → Carried
  read_by a b c d i j k = record {
    control = control;
    place = cond a (of_le (read_at 4 1 (by_bits a b c d))) 0;
    speed = cond b (get_or (by_bits a b c d) (1 + 4 * i) 0) 0;
    time = cond c (get_or (by_bits a b c d) (1 + 4 * i + j) 0) 0;
    timer = cond d (of_le (read_at 3 (1 + 4 * i + j + k) (by_bits a b c d))) 0;
  }

  -- and what was put there
  abbrev put_by : Bool → Bool → Bool → Bool → Carried
  put_by a b c d = record {
    control = control;
    place = cond a (of_le (s.p0 ∷ s.p1 ∷ s.p2 ∷ s.p3 ∷ [])) 0;
    speed = cond b s.speed 0;
    time = cond c s.time 0;
    timer = cond d (of_le (s.u0 ∷ s.u1 ∷ s.u2 ∷ [])) 0;
  }

  read_is : (a b c d : Bool) → read_by a b c d (cond a 1 0) (cond b 1 0) (cond c 1 0) ≡ put_by a b c d
  read_is true true true true = refl
  read_is true true true false = refl
  read_is true true false true = refl
  read_is true true false false = refl
  read_is true false true true = refl
  read_is true false true false = refl
  read_is true false false true = refl
  read_is true false false false = refl
  read_is false true true true = refl
  read_is false true true false = refl
  read_is false true false true = refl
  read_is false true false false = refl
  read_is false false true true = refl
  read_is false false true false = refl
  read_is false false false true = refl
  read_is false false false false = refl

  pub carried_is : carried_in (load_bytes control s) ≡ put_by (is_set 0 control) (is_set 1 control) (is_set 2 control) (is_set 3 control)
  unfolding carried_in
  carried_is =
      let r : ℕ → ℕ → ℕ → Carried = read_by (is_set 0 control) (is_set 1 control) (is_set 2 control) (is_set 3 control) in
      ap (λ (i : ℕ). r i (bit 1 control) (bit 2 control)) (bit_is 0 control)
      ∙ ap₂ (λ (j k : ℕ). r (cond (is_set 0 control) 1 0) j k) (bit_is 1 control) (bit_is 2 control)
      ∙ read_is (is_set 0 control) (is_set 1 control) (is_set 2 control) (is_set 3 control)

  -- the count
  abbrev count_by : Bool → Bool → Bool → Bool → ℕ
  count_by a b c d = 1 + cond a 4 0 + cond b 1 0 + cond c 1 0 + cond d 3 0

  long_is : (a b c d : Bool) → length (by_bits a b c d) ≡ count_by a b c d
  long_is true true true true = refl
  long_is true true true false = refl
  long_is true true false true = refl
  long_is true true false false = refl
  long_is true false true true = refl
  long_is true false true false = refl
  long_is true false false true = refl
  long_is true false false false = refl
  long_is false true true true = refl
  long_is false true true false = refl
  long_is false true false true = refl
  long_is false true false false = refl
  long_is false false true true = refl
  long_is false false true false = refl
  long_is false false false true = refl
  long_is false false false false = refl

  four_is : (t : Bool) → 4 * cond t 1 0 ≡ cond t 4 0
  four_is true = refl
  four_is false = refl

  three_is : (t : Bool) → 3 * cond t 1 0 ≡ cond t 3 0
  three_is true = refl
  three_is false = refl

  needed_is : needed control ≡ count_by (is_set 0 control) (is_set 1 control) (is_set 2 control) (is_set 3 control)
  needed_is =
      let a : 4 * bit 0 control ≡ cond (is_set 0 control) 4 0 = ap (λ (n : ℕ). 4 * n) (bit_is 0 control) ∙ four_is (is_set 0 control) in
      let d : 3 * bit 3 control ≡ cond (is_set 3 control) 3 0 = ap (λ (n : ℕ). 3 * n) (bit_is 3 control) ∙ three_is (is_set 3 control) in
      omega (arith, a, bit_is 1 control, bit_is 2 control, d)

pub load_count : LoadCount
load_count control s = (
  long_is control s (is_set 0 control) (is_set 1 control) (is_set 2 control) (is_set 3 control) ∙ sym (needed_is control s),
  needed_is control s,
)
