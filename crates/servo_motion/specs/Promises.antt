-- What is promised of the motion (document 01, "Tick"). Each promise is proved under its own name, with a small first letter, in proofs/.
use Rattle.std.specs.Prelude.{◌≡◌, ◌⊎◌, ◌↔◌, true, false, ℕ, ◌+◌, ◌-◌, ◌*◌, ◌^◌, ◌≤◌, ◌<◌, min, ℤ, pos, nat_abs, ◌+ℤ◌, ◌-ℤ◌}
use Rattle.std.specs.Int.Signed.{le_z}
use Rattle.base_integers.specs.Whole.{less}
use Rattle.servo_motion.specs.declared.Profile.{Profile}
use Rattle.servo_motion.specs.Trapezoid.{stop, next_speed}
use Rattle.servo_motion.specs.Setpoint.{whole, distance, moved}
use Rattle.servo_motion.specs.Velocity.{toward}
use Rattle.servo_motion.specs.Profile.{Ranged, in_range, left, away, running, by_trapezoid, by_velocity}

-- 01 Tick: from lo to hi, w is the greatest with the property.
pub record Greatest (Has : ℕ → Type 0) (lo hi w : ℕ) : Type 0 where
  pub from : lo ≤ w
  pub to : w ≤ hi
  pub has : Has w
  pub above : (x : ℕ) → x ≤ hi → Has x → x ≤ w

-- 01 Tick: w is the speed that the text asks for: the greatest from v - a to v + a and top that can still stop within d.
abbrev pub Asked : ℕ → ℕ → ℕ → ℕ → ℕ → Type 0
Asked a top d v w = Greatest (λ x. stop x a ≤ d) (v - a) (min (v + a) top) w

-- 01 Tick: the stopping sum is the speed, and then the sum of the speed that is one acceleration less; of speed 0 it is 0.
abbrev pub StoppingSum : Type 0
StoppingSum = (w a : ℕ) → 0 < a → (stop 0 a ≡ 0) × (stop w a ≡ w + stop (w - a) a)

-- 01 Numbers given back: a trapezoid at the speed v can still stop within d, and is no faster than it may be.
pub record CanStop (a top d v : ℕ) : Type 0 where
  pub slow : v ≤ top
  pub room : stop (v - a) a ≤ d

-- 01 Numbers given back: what a trapezoid that runs satisfies. It goes toward its goal, but with no distance left the last speed may have
-- either sign; it can still stop; and its goal is not half the range away, since that distance has no sign.
pub record Running (p : Profile) : Type 0 where
  pub force : 0 < p.acceleration
  pub forth : le_z (left p) (pos 0) ≡ false → le_z (pos 0) p.speed ≡ true
  pub back : le_z (pos 0) (left p) ≡ false → le_z p.speed (pos 0) ≡ true
  pub stops : CanStop p.acceleration p.top (nat_abs (left p)) (nat_abs p.speed)
  pub near : away p ≡ 2 ^ 31 → ⊥

-- The test that code makes is the whole of what a running trapezoid satisfies.
abbrev pub Tested : Type 0
Tested = (p : Profile) → (running p ≡ true → Running p) × (Running p → running p ≡ true)

-- Where a trapezoid can still stop, the speed that the text asks for exists, and the new speed is it.
abbrev pub Next : Type 0
Next = (a top d v : ℕ) → CanStop a top d v → Asked a top d v (next_speed a top d v)

-- There is no second such speed.
abbrev pub Only : Type 0
Only = (a top d v x y : ℕ) → Asked a top d v x → Asked a top d v y → x ≡ y

-- The new speed is never above the greatest speed.
abbrev pub NoFaster : Type 0
NoFaster = (a top d v : ℕ) → CanStop a top d v → next_speed a top d v ≤ top

-- The new speed does not pass the goal, and after it the trapezoid can still stop within what is left.
abbrev pub StillStops : Type 0
StillStops =
    (a top d v : ℕ)
    → 0 < a → CanStop a top d v
    → (next_speed a top d v ≤ d) × CanStop a top (d - next_speed a top d v) (next_speed a top d v)

-- A setpoint moved by the distance that is left stands at the goal, without a fraction, whatever wraps on the way.
abbrev pub Reaches : Type 0
Reaches = (goal p : ℕ) → goal < 2 ^ 32 → p < 2 ^ 48 → moved p (distance goal p) ≡ goal * 65536

-- A goal is not half the range away exactly if the distance to it, fraction and all, is shorter than half the range of setpoints.
abbrev pub Near : Type 0
Near = (goal p : ℕ) → (less goal (whole p) ≡ 2 ^ 31 → ⊥) ↔ (nat_abs (distance goal p) < 2 ^ 47)

-- At rest every profile can stop, whatever its goal, unless that is half the range away.
abbrev pub Rest : Type 0
Rest = (p : Profile) → 0 < p.acceleration → p.speed ≡ pos 0 → (away p ≡ 2 ^ 31 → ⊥) → Running p

-- A tick takes its speed off the distance that is left: the wrap of counts, of the setpoint and of the distance never turns a move round.
abbrev pub Taken : Type 0
Taken = (p : Profile) → Ranged p → Running p → left (by_trapezoid p) ≡ left p -ℤ (by_trapezoid p).speed

-- A trapezoid that runs, in either direction, still runs after a tick.
abbrev pub Runs : Type 0
Runs = (p : Profile) → Ranged p → Running p → Running (by_trapezoid p)

-- Its speed, sign and all, changes by at most the acceleration.
abbrev pub Gentle : Type 0
Gentle = (p : Profile) → Running p → nat_abs ((by_trapezoid p).speed -ℤ p.speed) ≤ p.acceleration

-- 01 Tick: the speed w is from v to the goal, in either order of the two, at most a away from v, and less than a away only at the goal.
pub record Toward (a : ℕ) (goal v w : ℤ) : Type 0 where
  pub rises : le_z v goal ≡ true → (le_z v w ≡ true) × (le_z w goal ≡ true)
  pub falls : le_z v goal ≡ false → (le_z goal w ≡ true) × (le_z w v ≡ true)
  pub most : nat_abs (w -ℤ v) ≤ a
  pub full : (nat_abs (w -ℤ v) ≡ a) ⊎ (w ≡ goal)

-- Velocity mode goes from the old speed to the goal by as much as the acceleration allows, and never past the goal.
abbrev pub Velocity : Type 0
Velocity = (a : ℕ) (goal v : ℤ) → Toward a goal v (toward a goal v)

-- 01 Tick: the setpoint q is p moved by w, but for whole turns of 2 ^ 48.
pub record Moved (p : ℕ) (w : ℤ) (q : ℕ) : Type 0 where
  pub over : ℕ
  pub under : ℕ
  pub sum : pos (q + over * 2 ^ 48) ≡ pos (p + under * 2 ^ 48) +ℤ w
  pub small : q < 2 ^ 48

-- To move a setpoint by a speed is to add the speed, sign and all, modulo 2 ^ 48.
abbrev pub Adds : Type 0
Adds = (p : ℕ) (w : ℤ) → p < 2 ^ 48 → nat_abs w ≤ 2 ^ 48 → Moved p w (moved p w)

-- A tick of either mode moves the setpoint by its new speed.
abbrev pub Moves : Type 0
Moves =
    (p : Profile)
    → ((by_velocity p).setpoint ≡ moved p.setpoint (by_velocity p).speed)
    × ((by_trapezoid p).setpoint ≡ moved p.setpoint (by_trapezoid p).speed)

-- velocity mode at rest at 0, with acceleration 5 and goal speed 5
abbrev pub setting_out : ℕ → ℕ → Profile
setting_out goal top = record { setpoint = 0; speed = pos 0; goal = goal; aim = pos 5; acceleration = 5; top = top }

-- So the first tick after a start already moves: where it stands after one tick, and after two.
abbrev pub FirstTick : Type 0
FirstTick =
    (goal top : ℕ)
    → ((by_velocity (setting_out goal top)).setpoint ≡ 5)
    × ((by_velocity (by_velocity (setting_out goal top))).setpoint ≡ 10)

-- Both ticks keep the ranges of a stored profile.
abbrev pub InRange : Type 0
InRange = (p : Profile) → Ranged p → Ranged (by_trapezoid p) × Ranged (by_velocity p)

-- The test of a profile's numbers is the whole of its ranges, where setpoint and goal are such as their bytes spell.
abbrev pub InRanges : Type 0
InRanges =
    (p : Profile)
    → p.setpoint < 2 ^ 48 → p.goal < 2 ^ 32
    → (in_range p ≡ true → Ranged p) × (Ranged p → in_range p ≡ true)
