-- What is told of an error within EL, by whether the output is cut. Assumes nothing.
use mathlib.Core.Path.{◌≡◌, refl}
use mathlib.Core.Bool.{Bool, true, false}
use Prim.Native.Nat.{◌≤◌, ◌<◌}
use native.Mathlib.Omega.{arith}
use borrow.Author.Tests.{le-leb}
use lib.IntN.{ℤ, nat_abs}
use Rattle.servo_filter.specs.declared.Gains.{Gains}
use Rattle.servo_filter.specs.declared.Memory.{Memory}
use Rattle.servo_filter.specs.Filter.{scaled, driven, summed, output, limited, answered, filtered, Told, told}
use Rattle.servo_filter.proofs.Limiting.{Lies, inside, above, below}

-- the answer to an error within EL
module _ (g : Gains) (m : Memory) (e : ℤ) where
  abbrev pub z : ℤ
  z = scaled (driven g m e)

  -- what is told of it, with this integral
  abbrev pub said : ℤ → Bool → Told
  said integral cut = record { trips = false; memory = record { integral = integral; previous = e }; output = output g.ol (driven g m e); cut = cut }

  pub plain-told : Lies g.ol z → nat_abs z ≤ g.ol → told (answered (limited g.ol z) (summed g m e) m.integral e) ≡ said (summed g m e) false
  plain-told (inside h k q) l = rw (q, k) refl
  plain-told (above h s k q) l = absurd (omega arith)
  plain-told (below h s k q) l = absurd (omega arith)

  pub cut-told : Lies g.ol z → g.ol < nat_abs z → told (answered (limited g.ol z) (summed g m e) m.integral e) ≡ said m.integral true
  cut-told (inside h k q) l = absurd (omega arith)
  cut-told (above h s k q) l = rw (q, k) refl
  cut-told (below h s k q) l = rw (q, k) refl

  pub answer_within : nat_abs e ≤ g.el → filtered g m e ≡ answered (limited g.ol z) (summed g m e) m.integral e
  unfolding filtered
  answer_within h = rw (le-leb (nat_abs e) g.el h) refl
