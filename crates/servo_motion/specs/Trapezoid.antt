-- The trapezoid's next speed (document 01, "Tick"), where distance and speed are not below 0. Differences are of natural numbers: what would
-- be below 0 is 0.
use Rattle.std.specs.Prelude.{Bool, true, false, ℕ, zero, suc, ◌+◌, ◌-◌, min, leb}

-- 01 Tick: n terms of the stopping sum; the first is w, each further one is a less.
unfoldable pub terms : ℕ → ℕ → ℕ → ℕ
terms zero w a = 0
terms (suc n) w a = w + terms n (w - a) a

-- 01 Tick: the stopping sum of the speed w; where a is above 0, at most w of its terms are above 0.
unfoldable pub stop : ℕ → ℕ → ℕ
stop w a = terms w w a

-- 01 Tick: of lo + 1 to lo + n the greatest that passes the test, or lo if none does.
unfoldable pub pick : (ℕ → Bool) → ℕ → ℕ → ℕ
pick ok lo zero = lo
pick ok lo (suc n) = elim (ok (lo + suc n)) [ true ↦ lo + suc n | false ↦ pick ok lo n ]

-- 01 Tick: from lo to hi the greatest that passes the test, or lo if none above it does.
unfoldable pub greatest : (ℕ → Bool) → ℕ → ℕ → ℕ
greatest ok lo hi = pick ok lo (hi - lo)

-- 01 Tick: the new speed with acceleration a, greatest speed top, distance d left and the speed v.
unfoldable pub next_speed : ℕ → ℕ → ℕ → ℕ → ℕ
next_speed a top d v = greatest (λ w. leb (stop w a) d) (v - a) (min (v + a) top)
