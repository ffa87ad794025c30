-- Laws of the stopping sum. Assumes nothing.
use mathlib.Core.Path.{◌≡◌, refl, ap, sym, ◌∙◌}
use mathlib.Core.Bool.{Bool}
use Prim.Native.Nat.{ℕ, zero, suc, ◌+◌, ◌-◌, ◌≤◌, ◌<◌, zero-le}
use native.Mathlib.Nat.{zero-sub}
use native.Mathlib.Omega.{arith}
use lib.Dec.{leb}
use Rattle.servo_motion.specs.Trapezoid.{terms, stop}
use Rattle.servo_motion.specs.Promises.{StoppingSum}

terms_zero : (n a : ℕ) → terms n 0 a ≡ 0
unfolding terms
terms_zero zero a = refl
terms_zero (suc n) a = rw zero-sub (rw (terms_zero n a))

-- how many terms are taken does not matter, as long as those above 0 are among them
terms_enough : (n m w a : ℕ) → 0 < a → w ≤ n → w ≤ m → terms n w a ≡ terms m w a
unfolding terms
terms_enough zero m w a h p q = let z : w ≡ 0 = omega arith in rw z (sym (terms_zero m a))
terms_enough (suc n) zero w a h p q = let z : w ≡ 0 = omega arith in rw z (terms_zero (suc n) a)
terms_enough (suc n) (suc m) zero a h p q = terms_zero (suc n) a ∙ sym (terms_zero (suc m) a)
terms_enough (suc n) (suc m) (suc w) a h p q =
    ap (λ (x : ℕ). suc w + x) (terms_enough n m (suc w - a) a h (omega arith) (omega arith))

pub stop_zero : (a : ℕ) → stop 0 a ≡ 0
unfolding stop terms
stop_zero a = refl

-- the first term, and the sum of the rest
pub stop_step : (w a : ℕ) → 0 < a → stop w a ≡ w + stop (w - a) a
unfolding stop terms
stop_step zero a h = rw zero-sub refl
stop_step (suc w) a h = ap (λ (x : ℕ). suc w + x) (terms_enough w (suc w - a) (suc w - a) a h (omega arith) (omega arith))

pub stopping_sum : StoppingSum
stopping_sum w a h = (stop_zero a, stop_step w a h)

terms_mono : (n v w a : ℕ) → v ≤ w → terms n v a ≤ terms n w a
unfolding terms
terms_mono zero v w a h = zero-le
terms_mono (suc n) v w a h = let k = terms_mono n (v - a) (w - a) a (omega arith) in omega arith

-- a higher speed needs no less
pub stop_mono : (v w a : ℕ) → 0 < a → v ≤ w → stop v a ≤ stop w a
unfolding stop
stop_mono v w a h p = rw (terms_enough v w v a h (omega arith) p) (terms_mono w v w a p)

-- whether the speed w can still stop within d
abbrev pub within : ℕ → ℕ → ℕ → Bool
within a d w = leb (stop w a) d
