-- What is promised of a step-motor module's speed and position through ticks (document 02, P3). Each is proved under its name, with small letters,
-- in proofs/.
use Rattle.std.specs.Prelude.{◌≡◌, ◌↔◌, ℕ, suc, ◌+◌, ◌*◌, ◌-◌, ◌/◌, ◌%◌, ◌^◌, ◌<◌, ◌≤◌, List, [], ◌∷◌, map, Bool, true, false, cond, leb, ltb}
use Rattle.stepper_rules.specs.declared.Sample.{Sample}
use Rattle.stepper_rules.specs.declared.Motion.{Motion}
use Rattle.stepper_rules.specs.declared.Stepper.{Stepper}
use Rattle.stepper_rules.specs.State.{rest, started, with_motion, with_position}
use Rattle.stepper_rules.specs.Ramp.{paced, onward, after, ticked}

-- of two numbers the lesser, and the greater
abbrev pub lesser : ℕ → ℕ → ℕ
lesser a b = cond (leb a b) a b

abbrev pub greater : ℕ → ℕ → ℕ
greater a b = cond (leb a b) b a

-- what moves with an acceleration time T, and has counted fewer than T ticks
pub record Counting (p : Motion) : Type 0 where
  pub moving : 0 < p.speed
  pub counted : p.ticks < p.time

-- A speed never passes its goal, from below or from above: a tick takes it one unit nearer at most, and leaves goal, direction and T as they are
-- (demand 2; a smooth stop that is at its goal ends).
pub record Toward (p : Motion) : Type 0 where
  pub below : p.speed ≤ p.goal → (onward p).speed ≤ p.goal
  pub above : p.stopping ≡ false → p.goal ≤ p.speed → p.goal ≤ (onward p).speed
  pub slowly : ((onward p).speed ≤ suc p.speed) × (p.stopping ≡ false → p.speed ≤ suc (onward p).speed)
  pub same : p.stopping ≡ false → ((onward p).goal ≡ p.goal) × (((onward p).backward ≡ p.backward) × ((onward p).time ≡ p.time))

abbrev pub NeverPast : Type 0
NeverPast = (p : Motion) → Toward p

-- Only each T-th tick changes the speed: with fewer, nothing but the count is another.
abbrev pub OnlyTheLast : Type 0
OnlyTheLast = (p : Motion) (k : ℕ) → Counting p → p.ticks + k < p.time → after k p ≡ paced p.speed (p.ticks + k) p

-- A ramp in closed form: q is p, k ticks on. A climb, and a fall to a lower goal: as many units as k ticks have T-th ones among them, up to the goal.
-- The goal is reached exactly at the T-th tick of its last unit, and kept.
pub record Climbs (p : Motion) (k : ℕ) (q : Motion) : Type 0 where
  pub speed : q.speed ≡ lesser (p.speed + (p.ticks + k) / p.time) p.goal
  pub arrives : (q.speed ≡ p.goal) ↔ ((p.goal - p.speed) * p.time ≤ p.ticks + k)

abbrev pub Climb : Type 0
Climb = (p : Motion) (k : ℕ) → Counting p → p.stopping ≡ false → p.speed ≤ p.goal → Climbs p k (after k p)

pub record Falls (p : Motion) (k : ℕ) (q : Motion) : Type 0 where
  pub speed : q.speed ≡ greater (p.speed - (p.ticks + k) / p.time) p.goal
  pub arrives : (q.speed ≡ p.goal) ↔ ((p.speed - p.goal) * p.time ≤ p.ticks + k)

abbrev pub Fall : Type 0
Fall = (p : Motion) (k : ℕ) → Counting p → p.stopping ≡ false → 0 < p.goal → p.goal ≤ p.speed → Falls p k (after k p)

-- A smooth stop, whose goal is the minimum: unit by unit down to it, and one T later to rest; exactly then, and for good.
pub record Slows (p : Motion) (k : ℕ) (q : Motion) : Type 0 where
  pub speed : q.speed ≡ cond (ltb (p.ticks + k) ((suc p.speed - p.goal) * p.time)) (p.speed - (p.ticks + k) / p.time) 0
  pub ends : (q.speed ≡ 0) ↔ ((suc p.speed - p.goal) * p.time ≤ p.ticks + k)
  pub at_rest : (suc p.speed - p.goal) * p.time ≤ p.ticks + k → q ≡ rest

abbrev pub SlowDown : Type 0
SlowDown = (p : Motion) (k : ℕ) → Counting p → p.stopping ≡ true → 0 < p.goal → p.goal ≤ p.speed → Slows p k (after k p)

-- At rest ticks change nothing.
abbrev pub StaysAtRest : Type 0
StaysAtRest = (k : ℕ) → after k rest ≡ rest

-- A tick of the whole module: at input 1 the motion ends, and the position stays; at input 0 the motion goes on, and the position, modulo 2 ^ 32,
-- moves by the new speed: on, or back, where the new position and the speed give the old one. All else is as it was, the waiting load too.
pub record Ticks (x : Sample) (m : Stepper) : Type 0 where
  pub alone : ticked x m ≡ with_position (ticked x m).position (with_motion (ticked x m).motion m)
  pub ends : x.stop ≡ true → ((ticked x m).motion ≡ rest) × ((ticked x m).position ≡ m.position)
  pub goes : x.stop ≡ false → (ticked x m).motion ≡ onward m.motion
  pub on : (ticked x m).motion.backward ≡ false → (ticked x m).position ≡ (m.position + (ticked x m).motion.speed) % 2 ^ 32
  pub back : (ticked x m).motion.backward ≡ true → ((ticked x m).position + (ticked x m).motion.speed) % 2 ^ 32 ≡ m.position

abbrev pub Ticking : Type 0
Ticking = (x : Sample) (m : Stepper) → m.position < 2 ^ 32 → m.motion.speed ≤ 250 → Ticks x m

-- the speeds of a motion after each of some ticks, and the positions of a module that starts at 0
abbrev pub going : ℕ → ℕ → ℕ → Bool → Motion
going speed goal time stopping = record { speed = speed; backward = false; goal = goal; time = time; ticks = 0; stopping = stopping }

abbrev pub speeds : Motion → List ℕ → List ℕ
speeds p ks = map (λ (k : ℕ). (after k p).speed) ks

abbrev pub positions : List Bool → Stepper → List ℕ
positions [] m = []
positions (t ∷ ts) m = let n : Stepper = ticked (record { stop = t }) m in n.position ∷ positions ts n

-- Computed: minimum 5, goal 8, T 3: 5, 5, 6, 6, 6, 7; T 1: the minimum itself is never moved by; down from 8 to 5, and to rest; and the positions of
-- minimum 5, goal 6, T 1, with the stop input at the fourth tick.
pub record Computed : Type 0 where
  pub three : speeds (going 5 8 3 false) (1 ∷ 2 ∷ 3 ∷ 4 ∷ 5 ∷ 6 ∷ 9 ∷ 10 ∷ []) ≡ 5 ∷ 5 ∷ 6 ∷ 6 ∷ 6 ∷ 7 ∷ 8 ∷ 8 ∷ []
  pub one : speeds (going 5 8 1 false) (1 ∷ 2 ∷ 3 ∷ 4 ∷ []) ≡ 6 ∷ 7 ∷ 8 ∷ 8 ∷ []
  pub down : speeds (going 8 5 2 true) (1 ∷ 2 ∷ 4 ∷ 6 ∷ 7 ∷ 8 ∷ 9 ∷ []) ≡ 8 ∷ 7 ∷ 6 ∷ 5 ∷ 5 ∷ 0 ∷ 0 ∷ []
  pub places : positions (false ∷ false ∷ false ∷ true ∷ false ∷ []) (with_motion (going 5 6 1 false) started)
      ≡ 6 ∷ 12 ∷ 18 ∷ 18 ∷ 18 ∷ []
