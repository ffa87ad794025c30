-- Adds, Moves and FirstTick: what a tick makes of the setpoint. Assumes nothing.
use mathlib.Core.Path.{refl}
use native.Mathlib.Omega.{arith}
use lib.IntN.{pos, ◌+ℤ◌}
use Prim.Native.Nat.{◌+◌, ◌*◌, ◌^◌}
use Rattle.base_integers.proofs.Parts.{parts_add, parts_same, parts_size}
use Rattle.servo_motion.specs.Setpoint.{moved}
use Rattle.servo_motion.specs.Velocity.{toward}
use Rattle.servo_motion.specs.Profile.{stepped, by_trapezoid, by_velocity}
use Rattle.servo_motion.specs.Promises.{Adds, Moves, FirstTick}
use Rattle.servo_motion.proofs.Apart.{moved-turned}

pub adds : Adds
adds p w h k =
    let t = moved-turned p w h (omega (arith, parts_size w)) in
    record {
      over = t.forth;
      under = t.back;
      sum = parts_same (pos (moved p w + t.forth * 2 ^ 48)) (pos (p + t.back * 2 ^ 48) +ℤ w)
          (omega (arith, parts_add (pos (p + t.back * 2 ^ 48)) w));
      small = t.small;
    }

pub moves : Moves
unfolding by_velocity by_trapezoid stepped
moves p = (refl, refl)

pub first_tick : FirstTick
unfolding by_velocity stepped toward moved
first_tick goal top = (refl, refl)
