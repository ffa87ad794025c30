-- Halving and Quickly: a search by halves finds the greatest. Assumes nothing.
use mathlib.Core.Path.{◌≡◌, refl, sym}
use mathlib.Core.Bool.{Bool}
use Prim.Native.Nat.{ℕ, zero, suc, ◌+◌, ◌-◌, ◌^◌, ◌<◌, min}
use native.Mathlib.Omega.{arith}
use lib.Dec.{leb}
use Rattle.servo_motion.specs.Trapezoid.{greatest, next_speed}
use Rattle.servo_motion.specs.Quick.{middle, halved, StaysFailed, Halving, Quickly}
use Rattle.servo_motion.proofs.Stopping.{within}
use Rattle.servo_motion.proofs.Search.{greatest_low}
use Rattle.servo_motion.proofs.Halving.{one_half, stopping_stays}

module _ (ok : ℕ → Bool) (f : StaysFailed ok) where
  halves : (n lo hi : ℕ) → hi - lo < 2 ^ n → halved n ok lo hi ≡ greatest ok lo hi
  unfolding halved
  halves zero lo hi l = sym (greatest_low ok lo hi (omega arith))
  halves (suc n) lo hi l = one_half ok f n lo hi l (halves n) (leb hi lo) (ok (middle lo hi)) refl refl

pub halving : Halving
halving ok f = halves ok f

pub quickly : Quickly
unfolding next_speed
quickly a top d v h l = sym (halving (within a d) (stopping_stays a d h) 27 (v - a) (min (v + a) top) (omega arith))
