-- The length that a reply must have, item by item. Assumes nothing.
use mathlib.Core.Path.{◌≡◌, refl, sym, ap, ap₂, ◌∙◌}
use mathlib.Core.List.{List, [], ◌∷◌}
use mathlib.Core.Bool.{Bool, true, false, cond}
use Prim.Native.Nat.{ℕ, suc, ◌+◌, ◌*◌, ◌/◌, ◌%◌, ◌^◌}
use native.Mathlib.Nat.{mul-zero, mul-one}
use native.Mathlib.Numerals.{add-one}
use native.Mathlib.Omega.{arith}
use borrow.Author.Tests.{eqb-true, eqb-false}
use lib.Dec.{eqb}
use lib.Pow.{shr-shr}
use Rattle.types_rules.specs.Types.{sizes_of}
use Rattle.host_rules.specs.Reading.{one_size, chosen_size}
use Rattle.host_rules.specs.Promises.{counts, Lengths}

-- an item's bytes, by its bit
one_size_lem : (b k : ℕ) → one_size b k ≡ k * (b % 2)
one_size_lem b k = go (eqb (b % 2) 1) refl
  where
    go : (t : Bool) → eqb (b % 2) 1 ≡ t → cond t k 0 ≡ k * (b % 2)
    go true e = rw (eqb-true (b % 2) 1 e) (sym (mul-one k))
    go false e = let z : b % 2 ≡ 0 = omega (arith, eqb-false (b % 2) 1 e) in rw z (sym (mul-zero k))

-- the bytes of the chosen items from item j on
chosen_from : ℕ → ℕ → List ℕ → ℕ
chosen_from items j [] = 0
chosen_from items j (k ∷ ks) = counts items j k + chosen_from items (suc j) ks

chosen_by : (items j : ℕ) (ks : List ℕ) → chosen_size (items / 2 ^ j) ks ≡ chosen_from items j ks
unfolding chosen_from
chosen_by items j [] = refl
chosen_by items j (k ∷ ks) =
    let half : items / 2 ^ j / 2 ≡ items / 2 ^ suc j = shr-shr items j 1 ∙ ap (λ (n : ℕ). items / 2 ^ n) (add-one j) in
    ap₂ ◌+◌ (one_size_lem (items / 2 ^ j) k) (ap (λ (b : ℕ). chosen_size b ks) half ∙ chosen_by items (suc j) ks)

pub lengths : Lengths
unfolding chosen_from
lengths items =
    let whole : items ≡ items / 2 ^ 0 = omega arith in
    record {
      servo = omega (arith, ap (λ (b : ℕ). chosen_size b (sizes_of 0)) whole, chosen_by items 0 (sizes_of 0));
      inout = omega (arith, ap (λ (b : ℕ). chosen_size b (sizes_of 2)) whole, chosen_by items 0 (sizes_of 2));
      stepper = omega (arith, ap (λ (b : ℕ). chosen_size b (sizes_of 3)) whole, chosen_by items 0 (sizes_of 3));
    }
