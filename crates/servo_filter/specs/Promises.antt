-- What is promised of the filter (document 01, "Filter"; document 02, P5). Each promise is proved under its own name, with a small first letter, in proofs/.
use Rattle.std.specs.Prelude.{◌≡◌, true, false, cond, List, [], ◌∷◌, ℕ, ◌≤◌, ◌<◌, min, leb, replicate, ℤ, pos, neg_ℤ, nat_abs, ◌+ℤ◌, ◌-ℤ◌, ◌*ℤ◌}
use Rattle.servo_filter.specs.declared.Gains.{Gains}
use Rattle.servo_filter.specs.declared.Memory.{Memory}
use Rattle.servo_filter.specs.Filter.{Kept, held, summed, driven, scaled, output, limited, Means, filtered, blank, Told, told, Tick, told_at, after}

-- 01 Servo: what Set Gain takes.
pub record Ranged (g : Gains) : Type 0 where
  pub kp : g.kp ≤ 32767
  pub kd : g.kd ≤ 32767
  pub ki : g.ki ≤ 32767
  pub il : g.il ≤ 32767
  pub el : g.el ≤ 16383

-- An error above EL sets the error bit and ends in off, with no output and a blank memory; nothing is cut.
abbrev pub Trips : Type 0
Trips =
    (g : Gains) (m : Memory) (e : ℤ)
    → g.el < nat_abs e
    → told (filtered g m e) ≡ record { trips = true; memory = blank; output = pos 0; cut = false }

-- An output is cut exactly where it is larger than OL, on its own side of 0, and the limit of that side is left; at the limit nothing is cut.
abbrev pub Cuts : Type 0
Cuts = (ol : ℕ) (z : ℤ) → Means ol z (limited ol z)

-- Any other error is the next previous error; the integral is held before u is worked out with it, and u gives the output. Where a 256th of u, toward
-- zero, is within OL, the integral stays the new one; where it is beyond, the tick is cut, and the integral is the number that it was before.
pub record Working (g : Gains) (m : Memory) (e : ℤ) : Type 0 where
  pub plain : nat_abs (scaled (driven g m e)) ≤ g.ol
      → told (filtered g m e)
      ≡ record { trips = false; memory = record { integral = summed g m e; previous = e }; output = output g.ol (driven g m e); cut = false }
  pub cut : g.ol < nat_abs (scaled (driven g m e))
      → told (filtered g m e)
      ≡ record { trips = false; memory = record { integral = m.integral; previous = e }; output = output g.ol (driven g m e); cut = true }

abbrev pub Works : Type 0
Works = (g : Gains) (m : Memory) (e : ℤ) → nat_abs e ≤ g.el → Working g m e

-- 01 Filter: what the base's filter told, which wound up on while its output was cut, and told nothing of that.
abbrev pub base : Gains → Memory → ℤ → Told
base g m e =
    cond (leb (nat_abs e) g.el)
    (record { trips = false; memory = record { integral = summed g m e; previous = e }; output = output g.ol (driven g m e); cut = false })
    (record { trips = true; memory = blank; output = pos 0; cut = false })

-- From the same memory the filter trips and puts out what the base's did, in every case; and where nothing is cut, all is as it was there.
pub record AsTheBase (g : Gains) (m : Memory) (e : ℤ) : Type 0 where
  pub trips : (told (filtered g m e)).trips ≡ (base g m e).trips
  pub output : (told (filtered g m e)).output ≡ (base g m e).output
  pub previous : (told (filtered g m e)).memory.previous ≡ (base g m e).memory.previous
  pub uncut : (told (filtered g m e)).cut ≡ false → told (filtered g m e) ≡ base g m e

abbrev pub OnlyTheIntegral : Type 0
OnlyTheIntegral = (g : Gains) (m : Memory) (e : ℤ) → AsTheBase g m e

-- each of these ticks, one after another from this memory on, is cut
unfoldable pub AllCut : List Tick → Memory → Type 0
AllCut [] m = Unit {0}
AllCut (t ∷ ts) m = ((told_at t m).cut ≡ true) × AllCut ts (told_at t m).memory

-- The mill's promise: any number of cut ticks in a row leave the integral what it was, whatever their errors and gains are, and the next tick's new
-- integral starts from it (02 P5).
abbrev pub WindsUpNoMore : Type 0
WindsUpNoMore =
    (ts : List Tick) (m : Memory)
    → AllCut ts m
    → ((after ts m).integral ≡ m.integral)
    × ((t : Tick) → summed t.gains (after ts m) t.error ≡ held t.gains.il (m.integral +ℤ t.error))

-- only Ki, of one a count, with these limits of the integral and the output; and a memory with this integral
abbrev pub integrating : ℕ → ℕ → Gains
integrating il ol = record { kp = 0; kd = 0; ki = 256; il = il; ol = ol; el = 16383 }

abbrev pub wound : ℕ → Memory
wound n = record { integral = pos n; previous = pos 0 }

-- the memory after these ticks by the base's filter
unfoldable pub wound_by : List Tick → Memory → Memory
wound_by [] m = m
wound_by (t ∷ ts) m = wound_by ts (base t.gains m t.error).memory

-- three ticks against a block, 6 counts off, with OL 10
abbrev pub block : List Tick
block = replicate 3 (record { gains = integrating 32767 10; error = pos 6 })

-- From an integral of 6 all three are cut and leave 6, where the base's filter wound up to 24.
pub record Pushed : Type 0 where
  pub cut : AllCut block (wound 6)
  pub stays : (after block (wound 6)).integral ≡ pos 6
  pub before : (wound_by block (wound 6)).integral ≡ pos 24

-- IL lowered to 10 at an integral of 100: a cut tick leaves 100, and only a tick that is not cut holds it to 10, so that 10 is put out at an error of -5.
pub record Lowered : Type 0 where
  pub stays : told (filtered (integrating 10 0) (wound 100) (pos 0)) ≡ record { trips = false; memory = wound 100; output = pos 0; cut = true }
  pub then : (told (filtered (integrating 10 255) (wound 100) (neg_ℤ (pos 5)))).output ≡ pos 10
  pub held : (told (filtered (integrating 10 255) (wound 100) (neg_ℤ (pos 5)))).memory.integral ≡ pos 10

-- g with other gains, and with the same limits
abbrev pub only : ℕ → ℕ → ℕ → Gains → Gains
only kp kd ki g = record { kp = kp; kd = kd; ki = ki; il = g.il; ol = g.ol; el = g.el }

-- u is the sum of three terms, and each gain has its own: alone, Kp gives Kp times the error, Kd gives Kd times the error's change, and Ki
-- gives Ki times the new integral.
pub record Sums (g : Gains) (m : Memory) (e : ℤ) : Type 0 where
  pub proportional : driven (only g.kp 0 0 g) m e ≡ pos g.kp *ℤ e
  pub derivative : driven (only 0 g.kd 0 g) m e ≡ pos g.kd *ℤ (e -ℤ m.previous)
  pub integral : driven (only 0 0 g.ki g) m e ≡ pos g.ki *ℤ held g.il (m.integral +ℤ e)
  pub sum : driven g m e ≡ driven (only g.kp 0 0 g) m e +ℤ driven (only 0 g.kd 0 g) m e +ℤ driven (only 0 0 g.ki g) m e

abbrev pub Terms : Type 0
Terms = (g : Gains) (m : Memory) (e : ℤ) → Sums g m e

-- A number is held: of more than the limit on either side the limit is left, of any other all of it.
abbrev pub Limits : Type 0
Limits = (limit k : ℕ) → (held limit (pos k) ≡ pos (min k limit)) × (held limit (neg_ℤ (pos k)) ≡ neg_ℤ (pos (min k limit)))

-- The output is within OL, whatever came in.
abbrev pub Within : Type 0
Within = (g : Gains) (m : Memory) (e : ℤ) → nat_abs (told (filtered g m e)).output ≤ g.ol

-- A u and its opposite give opposite outputs, so that a small one on either side of 0 gives 0.
abbrev pub Even : Type 0
Even = (ol : ℕ) (u : ℤ) → output ol (neg_ℤ u) ≡ neg_ℤ (output ol u)

-- With gains that Set Gain takes, the memory stays in the range that every stored servo has.
abbrev pub Keeps : Type 0
Keeps = (g : Gains) (m : Memory) (e : ℤ) → Ranged g → Kept m → Kept (told (filtered g m e)).memory

-- With such gains and an error within EL, u is never larger than 2,684,141,572, which 32 bits with a sign do not hold.
abbrev pub Largest : Type 0
Largest =
    (g : Gains) (m : Memory) (e : ℤ)
    → Ranged g → Kept m → nat_abs e ≤ g.el
    → nat_abs (driven g m e) ≤ 2684141572

-- gains that Set Gain takes in each of these ticks, OL as its byte has it
unfoldable pub Settable : List Tick → Type 0
Settable [] = Unit {0}
Settable (t ∷ ts) = Ranged t.gains × (t.gains.ol ≤ 255) × Settable ts

-- That number is reached: from a blank memory, by ticks with gains that Set Gain may change between them, and then one with an error within EL.
pub record Reached : Type 0 where
  pub ticks : List Tick
  pub last : Tick
  pub settable : Settable (last ∷ ticks)
  pub within : nat_abs last.error ≤ last.gains.el
  pub reached : driven last.gains (after ticks blank) last.error ≡ pos 2684141572
