-- Velocity mode's next speed (document 01, "Tick").
use Rattle.std.specs.Prelude.{cond, ℕ, ℤ, pos, ◌+ℤ◌, ◌-ℤ◌}
use Rattle.std.specs.Int.Signed.{le_z}
use Rattle.base_integers.specs.Whole.{lesser, greater}

-- 01 Tick: from the speed v toward the goal by a, but only as far as the goal.
unfoldable pub toward : ℕ → ℤ → ℤ → ℤ
toward a goal v = cond (le_z v goal) (lesser (v +ℤ pos a) goal) (greater (v -ℤ pos a) goal)
