-- Rest, Taken, Runs, Gentle and InRange: what ticks keep of a profile. Assumes nothing.
use mathlib.Core.Path.{◌≡◌, refl, ap}
use mathlib.Core.Bool.{true, false, false≢true}
use Prim.Native.Nat.{ℕ, zero, suc, ◌+◌, ◌-◌, ◌^◌, ◌≤◌, ◌<◌, min}
use native.Mathlib.Omega.{arith}
use borrow.Author.Tests.{lt-leb}
use lib.IntN.{ℤ, pos, negsuc, neg_ℤ, nat_abs, ◌-ℤ◌}
use lib.Signed.{le_z}
use Rattle.base_integers.proofs.Parts.{up, down, parts_neg, parts_diff, parts_size, parts_le, le_parts, gt_parts}
use Rattle.base_integers.proofs.Sizes.{abs_neg}
use Rattle.servo_motion.specs.declared.Profile.{Profile}
use Rattle.servo_motion.specs.Trapezoid.{next_speed}
use Rattle.servo_motion.specs.Profile.{fastest, Ranged, trapezoid, left, stepped, by_trapezoid, by_velocity}
use Rattle.servo_motion.specs.Promises.{CanStop, Rest, Taken, Runs, Gentle, InRange}
use Rattle.servo_motion.proofs.Stopping.{stop_zero, stop_step}
use Rattle.servo_motion.proofs.Speeds.{next, still_stops, next_speed_most}
use Rattle.servo_motion.proofs.Velocity.{toward_most}
use Rattle.servo_motion.proofs.Apart.{moved-turned, distance-moved}
use Rattle.servo_motion.proofs.Near.{near}

pub rest : Rest
rest p h e n =
    let z : nat_abs p.speed - p.acceleration ≡ 0 = omega (arith, ap nat_abs e) in
    record {
      force = h;
      forth = λ _. rw e refl;
      back = λ _. rw e refl;
      stops = record { slow = omega (arith, ap nat_abs e); room = rw (z, stop_zero) (omega arith) };
      near = n;
    }

-- the new speed's size
trapezoid_size : (a top : ℕ) (z v : ℤ) → nat_abs (trapezoid a top z v) ≡ next_speed a top (nat_abs z) (nat_abs v)
unfolding trapezoid
trapezoid_size a top (pos d) v = refl
trapezoid_size a top (negsuc d) v = abs_neg (pos (next_speed a top (suc d) (nat_abs v)))

pub trapezoid_most : (a top : ℕ) (z v : ℤ) (m : ℕ) → nat_abs v ≤ m → top ≤ m → nat_abs (trapezoid a top z v) ≤ m
trapezoid_most a top z v m h k = omega (arith, trapezoid_size a top z v, next_speed_most a top (nat_abs z) (nat_abs v) m h k)

module _ (a top : ℕ) (h : 0 < a) where
  -- the new speed goes no further than the distance, and its own way
  speed-within : (z v : ℤ) → CanStop a top (nat_abs z) (nat_abs v) → (up (trapezoid a top z v) ≤ up z) × (down (trapezoid a top z v) ≤ down z)
  unfolding trapezoid
  speed-within (pos d) v k = let s = (still_stops a top d (nat_abs v) h k).0 in omega arith
  speed-within (negsuc d) v k =
      let s = (still_stops a top (suc d) (nat_abs v) h k).0 in
      omega (arith, parts_neg (pos (next_speed a top (suc d) (nat_abs v))))

  gentle_at : (z v : ℤ) → (le_z z (pos 0) ≡ false → le_z (pos 0) v ≡ true) → (le_z (pos 0) z ≡ false → le_z v (pos 0) ≡ true)
      → CanStop a top (nat_abs z) (nat_abs v) → nat_abs (trapezoid a top z v -ℤ v) ≤ a
  unfolding trapezoid
  gentle_at (pos zero) v f b k =
      let n : ℕ = next_speed a top 0 (nat_abs v) in
      let l = (still_stops a top 0 (nat_abs v) h k).0 in
      let r = k.room in
      omega (arith, stop_step (nat_abs v - a) a h, parts_diff (pos n) v, parts_size (pos n -ℤ v), parts_size v)
  gentle_at (pos (suc d)) (negsuc m) f b k = absurd (false≢true (f (lt-leb (suc d) 0 (omega arith))))
  gentle_at (pos (suc d)) (pos m) f b k =
      let n : ℕ = next_speed a top (suc d) m in
      let g = next a top (suc d) m k in
      let from = g.from in
      let to = g.to in
      omega (arith, parts_diff (pos n) (pos m), parts_size (pos n -ℤ pos m))
  gentle_at (negsuc d) v f b k =
      let n : ℕ = next_speed a top (suc d) (nat_abs v) in
      let g = next a top (suc d) (nat_abs v) k in
      let from = g.from in
      let to = g.to in
      mirrored v (le_parts v (pos 0) (b refl)) n from to
    where
      mirrored : (v : ℤ) → up v + 0 ≤ 0 + down v → (n : ℕ) → nat_abs v - a ≤ n → n ≤ min (nat_abs v + a) top → nat_abs (neg_ℤ (pos n) -ℤ v) ≤ a
      mirrored (pos m) l n from to =
          omega (arith, parts_diff (neg_ℤ (pos n)) (pos m), parts_neg (pos n), parts_size (neg_ℤ (pos n) -ℤ pos m))
      mirrored (negsuc m) l n from to =
          omega (arith, parts_diff (neg_ℤ (pos n)) (negsuc m), parts_neg (pos n), parts_size (neg_ℤ (pos n) -ℤ negsuc m))

-- a move w within the distance z: what it leaves, and that it does not turn round
left_size : (z w : ℤ) → up w ≤ up z → down w ≤ down z → nat_abs (z -ℤ w) ≡ nat_abs z - nat_abs w
left_size (pos d) w p q = omega (arith, parts_diff (pos d) w, parts_size (pos d -ℤ w), parts_size w)
left_size (negsuc d) w p q = omega (arith, parts_diff (negsuc d) w, parts_size (negsuc d -ℤ w), parts_size w)

still-forth : (z w : ℤ) → up w ≤ up z → down w ≤ down z → le_z (z -ℤ w) (pos 0) ≡ false → le_z (pos 0) w ≡ true
still-forth (pos d) w p q e = parts_le (pos 0) w (omega arith)
still-forth (negsuc d) w p q e = absurd (omega (arith, parts_diff (negsuc d) w, gt_parts (negsuc d -ℤ w) (pos 0) e))

still_back : (z w : ℤ) → up w ≤ up z → down w ≤ down z → le_z (pos 0) (z -ℤ w) ≡ false → le_z w (pos 0) ≡ true
still_back (pos d) w p q e = absurd (omega (arith, parts_diff (pos d) w, gt_parts (pos 0) (pos d -ℤ w) e))
still_back (negsuc d) w p q e = parts_le w (pos 0) (omega arith)

pub taken : Taken
unfolding by_trapezoid stepped
taken p r s =
    let w : ℤ = trapezoid p.acceleration p.top (left p) p.speed in
    let l = speed-within p.acceleration p.top s.force (left p) p.speed s.stops in
    distance-moved p.goal p.setpoint w r.goal r.setpoint l.0 l.1

pub runs : Runs
unfolding by_trapezoid stepped
runs p r s =
    let a : ℕ = p.acceleration in
    let z : ℤ = left p in
    let w : ℤ = trapezoid a p.top z p.speed in
    let l = speed-within a p.top s.force z p.speed s.stops in
    let e = taken p r s in
    let size = left_size z w l.0 l.1 in
    let shorter : nat_abs (left (by_trapezoid p)) < 2 ^ 47 = rw e (omega (arith, (near p.goal p.setpoint).0 s.near, size)) in
    record {
      force = s.force;
      forth = λ f. still-forth z w l.0 l.1 (rw e at f);
      back = λ f. still_back z w l.0 l.1 (rw e at f);
      stops =
          rw (e, size, trapezoid_size a p.top z p.speed)
          (still_stops a p.top (nat_abs z) (nat_abs p.speed) s.force s.stops).1;
      near = (near p.goal (by_trapezoid p).setpoint).1 shorter;
    }

pub gentle : Gentle
unfolding by_trapezoid stepped
gentle p s = gentle_at p.acceleration p.top s.force (left p) p.speed s.forth s.back s.stops

stepped-ranged : (p : Profile) (w : ℤ) → Ranged p → nat_abs w ≤ fastest → Ranged (stepped p w)
unfolding stepped
stepped-ranged p w r h =
    record {
      setpoint = (moved-turned p.setpoint w r.setpoint (omega (arith, parts_size w))).small;
      speed = h;
      goal = r.goal;
      aim = r.aim;
      acceleration = r.acceleration;
      top = r.top;
    }

pub in_range : InRange
unfolding by_trapezoid by_velocity
in_range p r = (
  stepped-ranged p _ r (trapezoid_most p.acceleration p.top (left p) p.speed fastest r.speed r.top),
  stepped-ranged p _ r (toward_most p.acceleration p.aim p.speed fastest r.aim r.speed),
)
