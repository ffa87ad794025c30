-- The filter: what a following error makes of its memory and of the output (document 01, "Filter"; document 02, P5).
use Rattle.std.specs.Prelude.{◌≡◌, Bool, true, false, cond, List, [], ◌∷◌, ℕ, ◌≤◌, ◌<◌, leb, ℤ, pos, neg_ℤ, nat_abs, ◌+ℤ◌, ◌-ℤ◌, ◌*ℤ◌}
use Rattle.std.specs.Int.Signed.{lt_z, quot_z}
use Rattle.base_integers.specs.Whole.{lesser, greater}
use Rattle.servo_filter.specs.declared.Gains.{Gains}
use Rattle.servo_filter.specs.declared.Memory.{Memory}
use Rattle.servo_filter.specs.declared.Filtered.{Filtered}
use Rattle.servo_filter.specs.declared.Filtered.TheVariants as Filters
use Rattle.servo_filter.specs.declared.Limited.{Limited}
use Rattle.servo_filter.specs.declared.Limited.TheVariants.{Plain, Above, Below}

-- 01 Filter: the memory that every stored servo has.
pub record Kept (m : Memory) : Type 0 where
  pub integral : nat_abs m.integral ≤ 32767
  pub previous : nat_abs m.previous ≤ 16383

-- 01 Filter: a number held from -limit to limit.
unfoldable pub held : ℕ → ℤ → ℤ
held limit z = greater (neg_ℤ (pos limit)) (lesser z (pos limit))

-- 01 Filter: u, of the error, the one before it and the integral.
unfoldable pub drive : Gains → ℤ → ℤ → ℤ → ℤ
drive g e previous integral = pos g.kp *ℤ e +ℤ pos g.kd *ℤ (e -ℤ previous) +ℤ pos g.ki *ℤ integral

-- 01 Filter: the new integral.
abbrev pub summed : Gains → Memory → ℤ → ℤ
summed g m e = held g.il (m.integral +ℤ e)

-- 01 Filter: the u of a tick, with the new integral in it.
abbrev pub driven : Gains → Memory → ℤ → ℤ
driven g m e = drive g e m.previous (summed g m e)

-- 01 Filter: a 256th of u, toward zero; and what is put out of it, held to the output's limits.
abbrev pub scaled : ℤ → ℤ
scaled u = quot_z u (pos 256)

abbrev pub output : ℕ → ℤ → ℤ
output ol u = held ol (scaled u)

-- 02 P5: holding a number to the output's limits also tells whether that cut anything off it, and on which side: of one beyond a limit the limit is left.
unfoldable pub limited : ℕ → ℤ → Limited
limited ol z =
    cond (lt_z (pos ol) z) (Above (pos ol))
    (cond (lt_z z (neg_ℤ (pos ol))) (Below (neg_ℤ (pos ol)))
    (Plain z))

-- 02 P5: what each of its answers means, for the number z under the limit ol: z is left whole; or z is larger than ol, above 0 or below it, and the
-- limit of that side is left.
abbrev pub Means : ℕ → ℤ → Limited → Type 0
Means ol z (Plain u) = (nat_abs z ≤ ol) × (u ≡ z)
Means ol z (Above u) = (ol < nat_abs z) × (z ≡ pos (nat_abs z)) × (u ≡ pos ol)
Means ol z (Below u) = (ol < nat_abs z) × (z ≡ neg_ℤ (pos (nat_abs z))) × (u ≡ neg_ℤ (pos ol))

-- 02 P5: a plain output goes with the new integral; where the output was cut, the integral goes back to its former number. e is the next previous error.
abbrev pub answered : Limited → ℤ → ℤ → ℤ → Filtered
answered (Plain u) new former e = Filters.Plain (record { integral = new; previous = e }) u
answered (Above u) new former e = Filters.Cut (record { integral = former; previous = e }) u
answered (Below u) new former e = Filters.Cut (record { integral = former; previous = e }) u

-- 01 Filter: an error above the limit ends in off, any other in an output.
unfoldable pub filtered : Gains → Memory → ℤ → Filtered
filtered g m e =
    cond (leb (nat_abs e) g.el) (answered (limited g.ol (scaled (driven g m e))) (summed g m e) m.integral e) Filters.Off

-- 01 Tick: the memory that off leaves.
abbrev pub blank : Memory
blank = record { integral = pos 0; previous = pos 0 }

-- 01 Filter, 02 P5: what an answer says: whether the error bit is set and the servo goes off, the memory, the motor output, and whether it was cut.
pub record Told : Type 0 where
  pub trips : Bool
  pub memory : Memory
  pub output : ℤ
  pub cut : Bool

-- 01 Filter, 02 P5: what each answer says.
abbrev pub told : Filtered → Told
told (Filters.Plain m u) = record { trips = false; memory = m; output = u; cut = false }
told (Filters.Cut m u) = record { trips = false; memory = m; output = u; cut = true }
told Filters.Off = record { trips = true; memory = blank; output = pos 0; cut = false }

-- a tick's gains, which Set Gain may change from tick to tick, and its error
pub record Tick : Type 0 where
  pub gains : Gains
  pub error : ℤ

-- what the filter tells in a tick
abbrev pub told_at : Tick → Memory → Told
told_at t m = told (filtered t.gains m t.error)

-- 01 Filter: the memory after these ticks.
unfoldable pub after : List Tick → Memory → Memory
after [] m = m
after (t ∷ ts) m = after ts (told_at t m).memory
