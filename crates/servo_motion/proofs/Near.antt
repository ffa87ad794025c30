-- Near: a distance's size, by how its whole counts are read. Assumes nothing.
use mathlib.Core.Path.{◌≡◌}
use mathlib.Core.Logic.{◌↔◌}
use Prim.Native.Nat.{ℕ, ◌+◌, ◌-◌, ◌*◌, ◌^◌, ◌≤◌, ◌<◌}
use native.Mathlib.Nat.{lt_of_not-le}
use native.Mathlib.Decide.{dec_le}
use native.Mathlib.Omega.{arith}
use borrow.Author.Tests.{lt-ltb, le-ltb}
use lib.IntN.{pos, neg_ℤ, nat_abs, ◌-ℤ◌, ◌*ℤ◌}
use Rattle.base_integers.specs.Whole.{less, signed, difference}
use Rattle.base_integers.proofs.Parts.{parts_neg, parts_diff, parts_size}
use Rattle.servo_motion.specs.Setpoint.{whole, fraction, distance}
use Rattle.servo_motion.specs.Promises.{Near}
use Rattle.servo_motion.proofs.Apart.{neg_times}

-- whole counts x that are read as they are: the fraction only shortens the way, or is all of it
size_above : (x f : ℕ) → x < 2 ^ 31 → f < 65536 → nat_abs (pos x *ℤ pos 65536 -ℤ pos f) < 2 ^ 47
size_above x f h k = omega (arith, parts_diff (pos (x * 65536)) (pos f), parts_size (pos (x * 65536) -ℤ pos f))

-- y whole counts below 0: the fraction adds to them
size_below : (y f : ℕ) → nat_abs (neg_ℤ (pos y) *ℤ pos 65536 -ℤ pos f) ≡ y * 65536 + f
size_below y f =
    rw (neg_times y 65536)
    (omega (arith, parts_neg (pos (y * 65536)), parts_diff (neg_ℤ (pos (y * 65536))) (pos f), parts_size (neg_ℤ (pos (y * 65536)) -ℤ pos f)))

pub near : Near
unfolding distance difference signed
near g p = at (dec_le (2 ^ 31) (less g (whole p)))
  where
    at : Dec (2 ^ 31 ≤ less g (whole p)) → (less g (whole p) ≡ 2 ^ 31 → ⊥) ↔ (nat_abs (distance g p) < 2 ^ 47)
    at (yes y) =
        let s = size_below (2 ^ 32 - less g (whole p)) (fraction p) in
        rw (le-ltb (less g (whole p)) (2 ^ 31) y) (λ n. omega arith, λ l e. omega arith)
    at (no f) =
        let h = lt_of_not-le f in
        rw (lt-ltb (less g (whole p)) (2 ^ 31) h) (λ n. size_above (less g (whole p)) (fraction p) h (omega arith), λ l e. omega arith)
