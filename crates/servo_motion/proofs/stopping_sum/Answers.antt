-- `servo_motion::stopping_sum` meets its contract: the closed form, of which no part is beyond 64 bits. Assumes nothing.
use mathlib.Core.Path.{◌≡◌, refl}
use Prim.Native.Nat.{ℕ, zero, suc, ◌+◌, ◌-◌, ◌*◌, ◌/◌, ◌≤◌, ◌<◌, ◌^◌}
use native.Mathlib.Nat.{mul-le-mul, mul-suc}
use native.Mathlib.Omega.{arith}
use Rattle.servo_motion.specs.Trapezoid.{stop}
use Rattle.servo_motion.specs.Quick.{braking_ticks}
use Rattle.servo_motion.proofs.Closed.{closed_form, ticks_most}
use Rattle.servo_motion.proofs.stopping_sum.Goals as goal
use Rattle.servo_motion.proofs.stopping_sum.Goals.{After-braking_ticks-k}

less-once : (k : ℕ) → k * k - k ≡ k * (k - 1)
less-once zero = refl
less-once (suc j) = let e : suc j - 1 ≡ j = omega arith in rw e (omega (arith, mul-suc (suc j) j))

module _ (k w a : ℕ) (e : k ≡ braking_ticks w a) (h : 0 < a) (p : w < 2 ^ 32) where
  at_first : k * w ≤ (2 ^ 32 - 1) * (2 ^ 32 - 1)
  at_first = mul-le-mul {n₂ = 2 ^ 32 - 1} {m₂ = 2 ^ 32 - 1} (omega (arith, ticks_most w a h)) (omega arith)

  square : k * k ≤ (2 ^ 32 - 1) * (2 ^ 32 - 1)
  square = mul-le-mul {n₂ = 2 ^ 32 - 1} {m₂ = 2 ^ 32 - 1} (omega (arith, ticks_most w a h)) (omega (arith, ticks_most w a h))

  sum : stop w a + a * ((k * k - k) / 2) ≡ k * w
  sum = rw (less-once k, e) (closed_form w a h)

abbrev counted : (c : After-braking_ticks-k) → c.braking_ticks-k.result ≡ braking_ticks c.args.w c.args.a
counted c = c.braking_ticks-k.ensures

pub overflow_mul-result-3 : goal.overflow_mul-result-3
overflow_mul-result-3 c = omega (arith, at_first _ _ _ (counted c) (omega arith) (omega arith), sum _ _ _ (counted c) (omega arith) (omega arith))

pub overflow_sub-result-2 : goal.overflow_sub-result-2
overflow_sub-result-2 c = omega (arith, sum _ _ _ (counted c) (omega arith) (omega arith))

pub returns : goal.returns
returns c = omega (arith, sum _ _ _ (counted c) (omega arith) (omega arith))
