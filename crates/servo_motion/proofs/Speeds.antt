-- Next, Only, NoFaster and StillStops: the trapezoid's new speed is the one that the text asks for, and leaves room to stop. Assumes nothing.
use mathlib.Core.Logic.{inr}
use Prim.Native.Nat.{ℕ, ◌+◌, ◌-◌, ◌≤◌, min}
use native.Mathlib.Nat.{lt_of_not-le}
use native.Mathlib.Decide.{dec_le}
use native.Mathlib.Omega.{arith}
use lib.Dec.{leb, leb→le, le→leb}
use Rattle.servo_motion.specs.Trapezoid.{stop, next_speed}
use Rattle.servo_motion.specs.Promises.{Next, Only, NoFaster, StillStops}
use Rattle.servo_motion.proofs.Stopping.{stop_step}
use Rattle.servo_motion.proofs.Search.{greatest_one, greatest_is, greatest_passes, greatest_low}

pub next : Next
unfolding next_speed
next a top d v k =
    let s = k.slow in
    let l : v - a ≤ min (v + a) top = omega arith in
    let g = greatest_is (λ w. leb (stop w a) d) (v - a) (min (v + a) top) l in
    record {
      from = g.from;
      to = g.to;
      has = leb→le (stop (next_speed a top d v) a) d (greatest_passes (λ w. leb (stop w a) d) (v - a) (min (v + a) top) l (le→leb (stop (v - a) a) d k.room));
      above = λ x p q. g.above x p (inr (le→leb (stop x a) d q));
    }

pub only : Only
only a top d v x y g h = greatest_one (λ w. stop w a ≤ d) (v - a) (min (v + a) top) x y g h

pub no_faster : NoFaster
no_faster a top d v k = omega (arith, (next a top d v k).to)

pub still_stops : StillStops
still_stops a top d v h k =
    let w : ℕ = next_speed a top d v in
    let g = next a top d v k in
    let s = stop_step w a h in
    let r = g.has in
    let t = g.to in
    (omega arith, record { slow = omega arith; room = omega arith })

-- how large the new speed is, also where the trapezoid cannot stop
pub next_speed_most : (a top d v m : ℕ) → v ≤ m → top ≤ m → next_speed a top d v ≤ m
unfolding next_speed
next_speed_most a top d v m h k = either (dec_le (v - a) (min (v + a) top))
  where
    either : Dec (v - a ≤ min (v + a) top) → next_speed a top d v ≤ m
    either (yes l) = let t = (greatest_is (λ w. leb (stop w a) d) (v - a) (min (v + a) top) l).to in omega arith
    either (no f) =
        let n = lt_of_not-le f in
        let e = greatest_low (λ w. leb (stop w a) d) (v - a) (min (v + a) top) (omega arith) in
        omega arith
