-- A number against the output's limits: over the upper one, or under the lower one. Assumes nothing.
use mathlib.Core.Path.{◌≡◌}
use mathlib.Core.Bool.{false}
use Prim.Native.Nat.{ℕ, ◌+◌, ◌≤◌, ◌<◌}
use native.Mathlib.Omega.{arith}
use lib.IntN.{ℤ, pos, neg_ℤ}
use lib.Signed.{lt_z}
use Rattle.base_integers.proofs.Parts.{up, down, parts_neg, parts_lt, parts_ge}
use Rattle.servo_filter.specs.declared.Limited.TheVariants.{Above}
use Rattle.servo_filter.specs.Filter.{limited}

module _ (n : ℕ) (z : ℤ) where
  pub not_over : up z ≤ n → lt_z (pos n) z ≡ false
  not_over h = parts_ge (pos n) z (omega arith)

  pub not_under : down z ≤ n → lt_z z (neg_ℤ (pos n)) ≡ false
  not_under h = parts_ge z (neg_ℤ (pos n)) (omega (arith, parts_neg (pos n)))

  pub cut-above : n + down z < up z → limited n z ≡ Above (pos n)
  unfolding limited
  cut-above h = simp (parts_lt (pos n) z (omega arith))
