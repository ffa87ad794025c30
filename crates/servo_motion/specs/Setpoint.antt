-- The setpoint, a number of 65,536ths below 2 ^ 48, and how far it is from a goal (document 01, "Tick").
use Rattle.std.specs.Prelude.{ℕ, suc, ◌+◌, ◌-◌, ◌/◌, ◌%◌, ◌^◌, ℤ, pos, negsuc, ◌-ℤ◌, ◌*ℤ◌}
use Rattle.base_integers.specs.Whole.{difference}

-- 01 Tick: the setpoint's whole part, in counts, modulo 2 ^ 32.
abbrev pub whole : ℕ → ℕ
whole p = p / 65536

-- 01 Tick: its fraction, which is added to the whole part also where that stands for a number below 0.
abbrev pub fraction : ℕ → ℕ
fraction p = p % 65536

-- 01 Tick: the distance left from the setpoint p to the goal: whole counts wrapped as at Start, then 65,536ths, then less the fraction.
unfoldable pub distance : ℕ → ℕ → ℤ
distance goal p = difference goal (whole p) *ℤ pos 65536 -ℤ pos (fraction p)

-- 01 Tick: the setpoint p after a tick at the speed w.
unfoldable pub moved : ℕ → ℤ → ℕ
moved p (pos w) = (p + w) % 2 ^ 48
moved p (negsuc w) = (p + (2 ^ 48 - suc w)) % 2 ^ 48
