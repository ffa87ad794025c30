-- The part of a whole number above 0 and the part below it, one of them 0. They bring sums, order and equality of whole numbers to facts on
-- natural numbers, which `omega` reads. Assumes nothing.
use Rattle.std.proofs.Common.{◌≡◌, ◌+◌, ◌-◌, ◌<◌, ◌≤◌, true, false, ℤ, ◌+ℤ◌, ◌-ℤ◌, neg_ℤ, nat_abs, arith}
use Rattle.std.proofs.lemmas.Int.{ints}
use lib.Signed.{le_z, lt_z}
pub use borrow.Author.Differences.{up, down}

pub parts_neg : (x : ℤ) → (up (neg_ℤ x) ≡ down x) × (down (neg_ℤ x) ≡ up x)
parts_neg x = grind (arith, ints)

pub parts_add : (x y : ℤ) → (up (x +ℤ y) ≡ up x + up y - (down x + down y)) × (down (x +ℤ y) ≡ down x + down y - (up x + up y))
parts_add x y = grind (arith, ints)

pub parts_diff : (x y : ℤ) → (up (x -ℤ y) ≡ up x + down y - (down x + up y)) × (down (x -ℤ y) ≡ down x + up y - (up x + down y))
parts_diff x y = grind (arith, ints)

-- ---- order and equality

pub le_parts : (x y : ℤ) → le_z x y ≡ true → up x + down y ≤ up y + down x
le_parts x y e = grind (arith, ints)

pub gt_parts : (x y : ℤ) → le_z x y ≡ false → up y + down x < up x + down y
gt_parts x y e = grind (arith, ints)

pub parts_le : (x y : ℤ) → up x + down y ≤ up y + down x → le_z x y ≡ true
parts_le x y h = grind (arith, ints)

pub parts_gt : (x y : ℤ) → up y + down x < up x + down y → le_z x y ≡ false
parts_gt x y h = grind (arith, ints)

pub parts_lt : (x y : ℤ) → up x + down y < up y + down x → lt_z x y ≡ true
parts_lt x y h = grind (arith, ints)

pub parts_ge : (x y : ℤ) → up y + down x ≤ up x + down y → lt_z x y ≡ false
parts_ge x y h = grind (arith, ints)

pub parts_same : (x y : ℤ) → up x + down y ≡ up y + down x → x ≡ y
parts_same x y e = grind (arith, ints)

-- ---- size

pub parts_size : (z : ℤ) → nat_abs z ≡ up z + down z
parts_size z = grind (arith, ints)
