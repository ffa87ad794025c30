-- Largest and Reached: how large u can be. Assumes nothing.
use mathlib.Core.Path.{refl}
use mathlib.Core.List.{[], ◌∷◌}
use Prim.Native.Nat.{ℕ, ◌+◌, ◌*◌, ◌≤◌}
use native.Mathlib.Omega.{arith}
use lib.IntN.{ℤ, pos, negsuc, nat_abs, ◌+ℤ◌, ◌-ℤ◌, ◌*ℤ◌}
use Rattle.base_integers.proofs.Sizes.{abs_add, abs_diff, abs_mul_le}
use Rattle.servo_filter.specs.declared.Gains.{Gains}
use Rattle.servo_filter.specs.Filter.{held, drive, summed, limited, filtered, Tick, after}
use Rattle.servo_filter.specs.Promises.{Ranged, Largest, Settable, Reached}
use Rattle.servo_filter.proofs.Held.{held_most}

-- with gains up to K, and error, previous error and integral up to E, P and I
pub record Bounded (g : Gains) (e p i : ℤ) (K E P I : ℕ) : Type 0 where
  pub kp : g.kp ≤ K
  pub kd : g.kd ≤ K
  pub ki : g.ki ≤ K
  pub error : nat_abs e ≤ E
  pub previous : nat_abs p ≤ P
  pub integral : nat_abs i ≤ I

module _ (g : Gains) (e p i : ℤ) (K E P I : ℕ) (b : Bounded g e p i K E P I) where
  pub first_two_most : nat_abs (pos g.kp *ℤ e +ℤ pos g.kd *ℤ (e -ℤ p)) ≤ K * E + K * (E + P)
  first_two_most =
      let k = abs_mul_le (pos g.kp) e b.kp b.error in
      let l = abs_mul_le {n = E + P} (pos g.kd) (e -ℤ p) b.kd (let h = b.error in let q = b.previous in omega (arith, abs_diff e p)) in
      omega (arith, abs_add (pos g.kp *ℤ e) (pos g.kd *ℤ (e -ℤ p)))

  pub drive_most : nat_abs (drive g e p i) ≤ K * E + K * (E + P) + K * I
  unfolding drive
  drive_most =
      let k = abs_mul_le (pos g.ki) i b.ki b.integral in
      let l = first_two_most in
      omega (arith, abs_add (pos g.kp *ℤ e +ℤ pos g.kd *ℤ (e -ℤ p)) (pos g.ki *ℤ i))

pub largest : Largest
largest g m e r k h =
    drive_most g e m.previous (summed g m e) 32767 16383 16383 32767
    (record {
      kp = r.kp;
      kd = r.kd;
      ki = r.ki;
      error = let l = r.el in omega arith;
      previous = k.previous;
      integral = let l = r.il in omega (arith, held_most g.il (m.integral +ℤ e));
    })

-- from 0 the integral is wound up with gains of 0, which cut nothing, and then the gains are set to their greatest
abbrev with_gains : ℕ → Gains
with_gains k = record { kp = k; kd = k; ki = k; il = 32767; ol = 255; el = 16383 }

ranged : (k : ℕ) → k ≤ 32767 → Ranged (with_gains k)
ranged k h = record { kp = h; kd = h; ki = h; il = omega arith; el = omega arith }

abbrev idle : ℤ → Tick
idle e = record { gains = with_gains 0; error = e }

pub reached : Reached
unfolding after filtered limited drive held Settable
reached =
    let z = ranged 0 (omega arith) in
    let l : 255 ≤ 255 = omega arith in
    record {
      ticks = idle (pos 16383) ∷ idle (pos 16383) ∷ idle (pos 16383) ∷ idle (negsuc 16382) ∷ [];
      last = record { gains = with_gains 32767; error = pos 16383 };
      settable = (ranged 32767 (omega arith), l, (z, l, (z, l, (z, l, (z, l, tt)))));
      within = omega arith;
      reached = refl;
    }
