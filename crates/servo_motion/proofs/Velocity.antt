-- Velocity: each case of the definition, in the parts of its numbers. Assumes nothing.
use mathlib.Core.Path.{◌≡◌, refl, sym, ◌∙◌}
use mathlib.Core.Logic.{inl, inr}
use mathlib.Core.Bool.{Bool, true, false, cond, true≢false, false≢true}
use Prim.Native.Nat.{ℕ, ◌≤◌}
use native.Mathlib.Omega.{arith}
use lib.IntN.{ℤ, pos, negsuc, nat_abs, ◌+ℤ◌, ◌-ℤ◌}
use lib.Signed.{le_z}
use Rattle.base_integers.proofs.Parts.{parts_add, parts_diff, parts_size, parts_le, le_parts, gt_parts}
use Rattle.servo_motion.specs.Velocity.{toward}
use Rattle.servo_motion.specs.Promises.{Toward, Velocity}

module _ (a : ℕ) (goal v : ℤ) where
  rise : le_z v goal ≡ true → (t : Bool) → le_z (v +ℤ pos a) goal ≡ t → Toward a goal v (cond t (v +ℤ pos a) goal)
  rise h true e =
      let s = parts_add v (pos a) in
      let d = parts_diff (v +ℤ pos a) v in
      let n = parts_size ((v +ℤ pos a) -ℤ v) in
      record {
        rises = λ _. (parts_le v (v +ℤ pos a) (omega arith), e);
        falls = λ f. absurd (true≢false (sym h ∙ f));
        most = omega arith;
        full = inl (omega arith);
      }
  rise h false e =
      let l = le_parts v goal h in
      let g = gt_parts (v +ℤ pos a) goal e in
      let s = parts_add v (pos a) in
      let d = parts_diff goal v in
      let n = parts_size (goal -ℤ v) in
      record {
        rises = λ _. (h, parts_le goal goal (omega arith));
        falls = λ f. absurd (true≢false (sym h ∙ f));
        most = omega arith;
        full = inr refl;
      }

  fall : le_z v goal ≡ false → (t : Bool) → le_z (v -ℤ pos a) goal ≡ t → Toward a goal v (cond t goal (v -ℤ pos a))
  fall h true e =
      let g = gt_parts v goal h in
      let l = le_parts (v -ℤ pos a) goal e in
      let s = parts_diff v (pos a) in
      let d = parts_diff goal v in
      let n = parts_size (goal -ℤ v) in
      record {
        rises = λ f. absurd (false≢true (sym h ∙ f));
        falls = λ _. (parts_le goal goal (omega arith), parts_le goal v (omega arith));
        most = omega arith;
        full = inr refl;
      }
  fall h false e =
      let g = gt_parts (v -ℤ pos a) goal e in
      let s = parts_diff v (pos a) in
      let d = parts_diff (v -ℤ pos a) v in
      let n = parts_size ((v -ℤ pos a) -ℤ v) in
      record {
        rises = λ f. absurd (false≢true (sym h ∙ f));
        falls = λ _. (parts_le goal (v -ℤ pos a) (omega arith), parts_le (v -ℤ pos a) v (omega arith));
        most = omega arith;
        full = inl (omega arith);
      }

pub velocity : Velocity
unfolding toward
velocity a goal v = at (le_z v goal) refl
  where
    at : (t : Bool) → le_z v goal ≡ t → Toward a goal v (toward a goal v)
    at true h = rw h (rise a goal v h (le_z (v +ℤ pos a) goal) refl)
    at false h = rw h (fall a goal v h (le_z (v -ℤ pos a) goal) refl)

-- a speed from one to another is no larger than both
pub toward_most : (a : ℕ) (goal v : ℤ) (m : ℕ) → nat_abs goal ≤ m → nat_abs v ≤ m → nat_abs (toward a goal v) ≤ m
toward_most a goal v m h k = at (le_z v goal) refl
  where
    between : (x y z : ℤ) → nat_abs x ≤ m → nat_abs y ≤ m → le_z x z ≡ true → le_z z y ≡ true → nat_abs z ≤ m
    between x y (pos n) p q s t = omega (arith, le_parts (pos n) y t, parts_size y)
    between x y (negsuc n) p q s t = omega (arith, le_parts x (negsuc n) s, parts_size x)

    at : (t : Bool) → le_z v goal ≡ t → nat_abs (toward a goal v) ≤ m
    at true e = let r = (velocity a goal v).rises e in between v goal (toward a goal v) k h r.0 r.1
    at false e = let r = (velocity a goal v).falls e in between goal v (toward a goal v) h k r.0 r.1
