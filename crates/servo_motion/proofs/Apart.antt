-- Reaches: a setpoint moved by its distance stands at the goal. With it, what a smaller move leaves of the distance. Both come from what sets
-- a distance apart from any other number: a setpoint so far away wraps to the goal, and with the fraction it is within half a turn.
-- Assumes nothing.
use mathlib.Core.Path.{◌≡◌, refl}
use Prim.Native.Nat.{ℕ, zero, suc, ◌+◌, ◌-◌, ◌*◌, ◌/◌, ◌%◌, ◌^◌, ◌≤◌, ◌<◌}
use native.Mathlib.Nat.{lt_of_not-le, le_refl, zero-mul}
use native.Mathlib.Decide.{dec_le}
use native.Mathlib.Omega.{arith}
use borrow.Author.Tests.{lt-ltb, le-ltb}
use lib.IntN.{ℤ, pos, negsuc, neg_ℤ, nat_abs, ◌-ℤ◌, ◌*ℤ◌}
use Rattle.base_integers.specs.Whole.{signed, difference}
use Rattle.base_integers.proofs.Parts.{up, down, parts_neg, parts_diff, parts_same}
use Rattle.base_integers.proofs.Sizes.{abs_diff, abs_mul_le, abs_difference}
use Rattle.servo_motion.specs.Setpoint.{whole, fraction, distance, moved}
use Rattle.servo_motion.specs.Promises.{Reaches}

-- how large the whole counts' part of a distance is, and the distance
pub counts_most : (g p : ℕ) → nat_abs (difference g (whole p) *ℤ pos 65536) ≤ 2 ^ 31 * 65536
counts_most g p = abs_mul_le (difference g (whole p)) (pos 65536) (abs_difference g (whole p)) (le_refl 65536)

pub distance_most : (g p : ℕ) → nat_abs (distance g p) < 2 ^ 48
unfolding distance
distance_most g p = omega (arith, abs_diff (difference g (whole p) *ℤ pos 65536) (pos (fraction p)), counts_most g p)

pub record Apart (g p : ℕ) (z : ℤ) : Type 0 where
  pub here : ℕ
  pub there : ℕ
  pub meets : up z + p + here * 2 ^ 48 ≡ g * 65536 + down z + there * 2 ^ 48
  pub above : up z + p % 65536 < 2 ^ 47
  pub below : down z ≤ 2 ^ 47 + p % 65536

apart_one : (g p : ℕ) (y z : ℤ) → Apart g p y → Apart g p z → y ≡ z
apart_one g p y z s t = parts_same y z (omega arith)

-- ---- the distance

-- the wrapped difference of goal and whole part, by whether it wrapped
wraps : (g q : ℕ) → g < 2 ^ 32 → q < 2 ^ 32 → (i : ℕ) × (i ≤ 1) × ((g + (2 ^ 32 - q)) % 2 ^ 32 + q ≡ g + i * 2 ^ 32)
wraps g q h k = either (dec_le q g)
  where
    either : Dec (q ≤ g) → (i : ℕ) × (i ≤ 1) × ((g + (2 ^ 32 - q)) % 2 ^ 32 + q ≡ g + i * 2 ^ 32)
    either (yes y) = (0, omega arith, omega arith)
    either (no f) = let y = lt_of_not-le f in (1, omega arith, omega arith)

pub neg_times : (a b : ℕ) → neg_ℤ (pos a) *ℤ pos b ≡ neg_ℤ (pos (a * b))
neg_times zero b = simp zero-mul
neg_times (suc a) b = refl

-- a difference x of goal and whole part that is read as it is, and one that is read as below 0
near : (g p x i : ℕ) → p < 2 ^ 48 → x < 2 ^ 31 → x + whole p ≡ g + i * 2 ^ 32 → Apart g p (pos x *ℤ pos 65536 -ℤ pos (fraction p))
near g p x i h k e =
    let s = parts_diff (pos (x * 65536)) (pos (fraction p)) in
    record { here = 0; there = i; meets = omega arith; above = omega arith; below = omega arith }

far : (g p x i : ℕ) → p < 2 ^ 48 → 2 ^ 31 ≤ x → x < 2 ^ 32 → x + whole p ≡ g + i * 2 ^ 32
    → Apart g p (neg_ℤ (pos (2 ^ 32 - x)) *ℤ pos 65536 -ℤ pos (fraction p))
far g p x i h l k e =
    let y : ℕ = 2 ^ 32 - x in
    let s = parts_diff (neg_ℤ (pos (y * 65536))) (pos (fraction p)) in
    let n = parts_neg (pos (y * 65536)) in
    rw (neg_times y 65536) (record { here = 1; there = i; meets = omega arith; above = omega arith; below = omega arith })

pub distance-apart : (g p : ℕ) → g < 2 ^ 32 → p < 2 ^ 48 → Apart g p (distance g p)
unfolding distance difference signed
distance-apart g p h k = either (wraps g (whole p) h (omega arith)) (dec_le (2 ^ 31) ((g + (2 ^ 32 - whole p)) % 2 ^ 32))
  where
    either : (i : ℕ) × (i ≤ 1) × ((g + (2 ^ 32 - whole p)) % 2 ^ 32 + whole p ≡ g + i * 2 ^ 32) → Dec (2 ^ 31 ≤ (g + (2 ^ 32 - whole p)) % 2 ^ 32)
        → Apart g p (distance g p)
    either (i, l, e) (yes y) =
        let x : ℕ = (g + (2 ^ 32 - whole p)) % 2 ^ 32 in
        rw (le-ltb x (2 ^ 31) y) (far g p x i k y (omega arith) e)
    either (i, l, e) (no n) =
        let x : ℕ = (g + (2 ^ 32 - whole p)) % 2 ^ 32 in
        let y = lt_of_not-le n in
        rw (lt-ltb x (2 ^ 31) y) (near g p x i k y e)

-- ---- the move

-- a setpoint p and the one that it is moved to, whole turns apart
pub record Turned (p : ℕ) (w : ℤ) (q : ℕ) : Type 0 where
  pub forth : ℕ
  pub back : ℕ
  pub meets : q + down w + forth * 2 ^ 48 ≡ p + up w + back * 2 ^ 48
  pub small : q < 2 ^ 48

pub moved-turned : (p : ℕ) (w : ℤ) → p < 2 ^ 48 → down w ≤ 2 ^ 48 → Turned p w (moved p w)
unfolding moved
moved-turned p (pos w) h k = record { forth = (p + w) / 2 ^ 48; back = 0; meets = omega arith; small = omega arith }
moved-turned p (negsuc w) h k =
    record { forth = (p + (2 ^ 48 - suc w)) / 2 ^ 48; back = 1; meets = omega arith; small = omega arith }

-- a fraction grows by no more than the move
fraction_most : (x y w c e : ℕ) → x + c * 2 ^ 48 ≡ y + w + e * 2 ^ 48 → x % 65536 ≤ y % 65536 + w
fraction_most x y w c e h = omega arith

-- a move that is no longer than the distance, and in its direction
turned_apart : (g p q : ℕ) (z w : ℤ) → up w ≤ up z → down w ≤ down z → Turned p w q → Apart g p z → Apart g q (z -ℤ w)
turned_apart g p q z (pos w) a b t s =
    let d = parts_diff z (pos w) in
    let f = fraction_most q p w t.forth t.back (omega arith) in
    record { here = s.here + t.forth; there = s.there + t.back; meets = omega arith; above = omega arith; below = omega arith }
turned_apart g p q (pos z) (negsuc w) a b t s = absurd (omega arith)
turned_apart g p q (negsuc z) (negsuc w) a b t s =
    let d = parts_diff (negsuc z) (negsuc w) in
    let f = fraction_most p q (suc w) t.back t.forth (omega arith) in
    record { here = s.here + t.forth; there = s.there + t.back; meets = omega arith; above = omega arith; below = omega arith }

pub distance-moved : (g p : ℕ) (w : ℤ) → g < 2 ^ 32 → p < 2 ^ 48 → up w ≤ up (distance g p) → down w ≤ down (distance g p)
    → distance g (moved p w) ≡ distance g p -ℤ w
distance-moved g p w h k a b =
    let z = distance-apart g p h k in
    let t = moved-turned p w k (let c = z.below in omega arith) in
    apart_one g (moved p w) (distance g (moved p w)) (distance g p -ℤ w) (distance-apart g (moved p w) h t.small)
    (turned_apart g p (moved p w) (distance g p) w a b t z)

pub reaches : Reaches
reaches g p h k =
    let z = distance-apart g p h k in
    let t = moved-turned p (distance g p) k (let c = z.below in omega arith) in
    omega arith
