-- A profile and its step in either mode (document 01, "Tick").
use Rattle.std.specs.Prelude.{List, [], ◌∷◌, Bool, not, ◌&&◌, ◌||◌, ℕ, zero, suc, ◌-◌, ◌^◌, ◌≤◌, ◌<◌, eqb, leb, ltb, ℤ, pos, negsuc, neg_ℤ, nat_abs}
use Rattle.std.specs.Int.Signed.{le_z}
use Rattle.base_integers.specs.Whole.{less}
use Rattle.servo_motion.specs.declared.Profile.{Profile}
use Rattle.servo_motion.specs.Trapezoid.{stop, next_speed}
use Rattle.servo_motion.specs.Setpoint.{whole, distance, moved}
use Rattle.servo_motion.specs.Velocity.{toward}

-- 01 Servo: the greatest velocity and acceleration that a load can carry.
abbrev pub fastest : ℕ
fastest = 83886080

-- 01 Servo: the numbers that every stored profile has; a velocity mode at rest may have no acceleration yet.
pub record Ranged (p : Profile) : Type 0 where
  pub setpoint : p.setpoint < 2 ^ 48
  pub speed : nat_abs p.speed ≤ fastest
  pub goal : p.goal < 2 ^ 32
  pub aim : nat_abs p.aim ≤ fastest
  pub acceleration : p.acceleration ≤ fastest
  pub top : p.top ≤ fastest

-- 01 Servo: whether a stored profile's numbers are in range (its setpoint and goal always are, by their bytes).
unfoldable pub in_range : Profile → Bool
in_range p =
    leb (nat_abs p.speed) fastest && leb (nat_abs p.aim) fastest && leb p.acceleration fastest && leb p.top fastest

-- 01 Tick: the trapezoid's new speed with the distance d left and the speed v; it is mirrored for a distance below 0.
unfoldable pub trapezoid : ℕ → ℕ → ℤ → ℤ → ℤ
trapezoid a top (pos d) v = pos (next_speed a top d (nat_abs v))
trapezoid a top (negsuc d) v = neg_ℤ (pos (next_speed a top (suc d) (nat_abs v)))

-- 01 Tick: the distance that a profile has left.
abbrev pub left : Profile → ℤ
left p = distance p.goal p.setpoint

-- 01 Start: how many whole counts its goal is away, modulo 2 ^ 32; half the range is as far one way as the other.
abbrev pub away : Profile → ℕ
away p = less p.goal (whole p.setpoint)

-- 01 Numbers given back: whether the speed v goes the way of the distance d; with no distance left it may have either sign.
unfoldable pub heads : ℤ → ℤ → Bool
heads d v = (le_z d (pos 0) || le_z (pos 0) v) && (le_z (pos 0) d || le_z v (pos 0))

-- 01 Numbers given back: whether a trapezoid runs toward a goal that is not half the range away and can still stop.
unfoldable pub running : Profile → Bool
running p =
    ltb 0 p.acceleration
    && leb (nat_abs p.speed) p.top
    && heads (left p) p.speed
    && leb (stop (nat_abs p.speed - p.acceleration) p.acceleration) (nat_abs (left p))
    && not (eqb (away p) (2 ^ 31))

-- 01 Tick: a profile after a tick at the speed w.
unfoldable pub stepped : Profile → ℤ → Profile
stepped p w =
    record { setpoint = moved p.setpoint w; speed = w; goal = p.goal; aim = p.aim; acceleration = p.acceleration; top = p.top }

-- 01 Tick: a trapezoid's tick.
unfoldable pub by_trapezoid : Profile → Profile
by_trapezoid p = stepped p (trapezoid p.acceleration p.top (left p) p.speed)

-- 01 Tick: velocity mode's tick.
unfoldable pub by_velocity : Profile → Profile
by_velocity p = stepped p (toward p.acceleration p.aim p.speed)

-- 01 Bench sheet: the speeds of the next n ticks.
unfoldable pub speeds : ℕ → (Profile → Profile) → Profile → List ℤ
speeds zero tick p = []
speeds (suc n) tick p = (tick p).speed ∷ speeds n tick (tick p)
