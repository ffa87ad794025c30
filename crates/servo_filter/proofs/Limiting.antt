-- Cuts: where a number lies against the output's limits, what is left of it, and what is told of that. Assumes nothing.
use mathlib.Core.Path.{◌≡◌, refl, sym, ap, subst, ◌∙◌}
use mathlib.Core.Bool.{true, false, cond}
use Prim.Native.Nat.{ℕ, suc, ◌+◌, ◌≤◌, ◌<◌}
use native.Mathlib.Nat.{lt_of_not-le}
use native.Mathlib.Decide.{dec_le}
use native.Mathlib.Omega.{arith}
use lib.IntN.{ℤ, pos, negsuc, neg_ℤ, nat_abs}
use lib.Signed.{lt_z}
use Rattle.base_integers.proofs.Parts.{up, down, parts_neg, parts_le, parts_gt, parts_lt, parts_ge}
use Rattle.servo_filter.specs.declared.Limited.{Limited}
use Rattle.servo_filter.specs.declared.Limited.TheVariants.{Plain, Above, Below}
use Rattle.servo_filter.specs.Filter.{held, limited, Means}
use Rattle.servo_filter.specs.Promises.{Cuts}
use Rattle.servo_filter.proofs.Limits.{not_over, not_under, cut-above}
use Rattle.servo_filter.proofs.Held.{held_between, held_low, held_high}

-- within the limit, above it or below it: what is held and what is told
pub data Lies (n : ℕ) (z : ℤ) : Type 0 where
  inside : nat_abs z ≤ n → held n z ≡ z → limited n z ≡ Plain z → Lies n z
  above : n < nat_abs z → z ≡ pos (nat_abs z) → held n z ≡ pos n → limited n z ≡ Above (pos n) → Lies n z
  below : n < nat_abs z → z ≡ neg_ℤ (pos (nat_abs z)) → held n z ≡ neg_ℤ (pos n) → limited n z ≡ Below (neg_ℤ (pos n)) → Lies n z

module _ (n : ℕ) (z : ℤ) where
  plain : up z ≤ n → down z ≤ n → limited n z ≡ Plain z
  unfolding limited
  plain h k = simp (not_over n z h, not_under n z k)

  cut_below : n + up z < down z → up z ≤ n → limited n z ≡ Below (neg_ℤ (pos n))
  unfolding limited
  cut_below h k = simp (not_over n z k, parts_lt z (neg_ℤ (pos n)) (omega (arith, parts_neg (pos n))))

  kept : up z ≤ n → down z ≤ n → held n z ≡ z
  kept h k = held_between n z (parts_le z (pos n) (omega arith)) (parts_le (neg_ℤ (pos n)) z (omega (arith, parts_neg (pos n))))

  held-above : n + down z < up z → held n z ≡ pos n
  held-above h = held_high n z (parts_gt z (pos n) (omega arith))

  held_below : n + up z < down z → up z ≤ n → held n z ≡ neg_ℤ (pos n)
  held_below h k = held_low n z (parts_le z (pos n) (omega arith)) (parts_gt (neg_ℤ (pos n)) z (omega (arith, parts_neg (pos n))))

pub lies : (n : ℕ) (z : ℤ) → Lies n z
lies n (pos k) = either (dec_le k n)
  where
    either : Dec (k ≤ n) → Lies n (pos k)
    either (yes h) = inside h (kept n (pos k) h (omega arith)) (plain n (pos k) h (omega arith))
    either (no f) = let h = lt_of_not-le f in above h refl (held-above n (pos k) (omega arith)) (cut-above n (pos k) (omega arith))
lies n (negsuc k) = either (dec_le (suc k) n)
  where
    either : Dec (suc k ≤ n) → Lies n (negsuc k)
    either (yes h) = inside h (kept n (negsuc k) (omega arith) h) (plain n (negsuc k) (omega arith) h)
    either (no f) =
        let h = lt_of_not-le f in
        below h refl (held_below n (negsuc k) (omega arith) (omega arith)) (cut_below n (negsuc k) (omega arith) (omega arith))

pub cuts : Cuts
cuts n z = at (lies n z)
  where
    at : Lies n z → Means n z (limited n z)
    at (inside h k e) = subst (Means n z) (sym e) (h, refl)
    at (above h s k e) = subst (Means n z) (sym e) (h, s, refl)
    at (below h s k e) = subst (Means n z) (sym e) (h, s, refl)

-- by the tests that code makes: less is left of a number above its limit, more of one below
abbrev by_tests : ℤ → ℤ → Limited
by_tests y z = cond (lt_z y z) (Above y) (cond (lt_z z y) (Below y) (Plain y))

as_tested : (n : ℕ) (z y : ℤ) → held n z ≡ y → by_tests y z ≡ limited n z → by_tests (held n z) z ≡ limited n z
as_tested n z y e q = ap (λ (y : ℤ). by_tests y z) e ∙ q

pub limited_by_tests : (n : ℕ) (z : ℤ) → by_tests (held n z) z ≡ limited n z
limited_by_tests n z = at (lies n z)
  where
    same : lt_z z z ≡ false
    same = parts_ge z z (omega arith)

    at : Lies n z → by_tests (held n z) z ≡ limited n z
    at (inside h k e) = as_tested n z z k (rw same (sym e))
    at (above h s k e) =
        let t : lt_z (pos n) z ≡ true = parts_lt (pos n) z (omega (arith, ap up s, ap down s)) in
        as_tested n z (pos n) k (rw t (sym e))
    at (below h s k e) =
        let w = parts_neg (pos (nat_abs z)) in
        let t : lt_z (neg_ℤ (pos n)) z ≡ false = parts_ge (neg_ℤ (pos n)) z (omega (arith, ap up s, ap down s, parts_neg (pos n))) in
        let u : lt_z z (neg_ℤ (pos n)) ≡ true = parts_lt z (neg_ℤ (pos n)) (omega (arith, ap up s, ap down s, parts_neg (pos n))) in
        as_tested n z (neg_ℤ (pos n)) k (rw (t, u) (sym e))
