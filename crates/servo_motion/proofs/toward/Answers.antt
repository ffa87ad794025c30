-- `servo_motion::toward` meets its contract: on either side of the goal the clamp keeps to one of its limits. Assumes nothing.
use Rattle.std.proofs.Common.{◌≡◌, ℕ, Bool, true, false, ℤ, pos, ◌+ℤ◌, ◌-ℤ◌, refl, sym, ◌∙◌, arith}
use Rattle.std.proofs.lemmas.Int.{ints, clamps, to_z-of_z}
use Rattle.std.specs.Int.{int_min, int_max}
use mir.Syntax.{w64}
use mir.Val.{to_z, of_z}
use lib.Signed.{le_z}
use Rattle.servo_motion.specs.Velocity.{toward}
use Rattle.servo_motion.proofs.toward.Goals as goal

toward_is : (a : ℕ) (to v : ℤ) → toward a to v ≡ int_max (v -ℤ pos a) (int_min to (v +ℤ pos a))
unfolding toward
toward_is a to v = by (le_z v to) refl
  where
    by : (t : Bool) → le_z v to ≡ t → toward a to v ≡ int_max (v -ℤ pos a) (int_min to (v +ℤ pos a))
    by true e = rw e (grind (arith, ints, clamps))
    by false e = rw e (grind (arith, ints, clamps))

pub returns : goal.returns
returns c =
    let a = c.args.a in
    let v = c.args.v in
    let low : to_z w64 (of_z w64 (to_z w64 (of_z w64 v) -ℤ to_z w64 a)) ≡ v -ℤ pos a = omega (arith, ints) in
    let high : to_z w64 (of_z w64 (to_z w64 (of_z w64 v) +ℤ to_z w64 a)) ≡ v +ℤ pos a = omega (arith, ints) in
    let to : to_z w64 (of_z w64 c.args.goal) ≡ c.args.goal = omega (arith, ints) in
    to_z-of_z w64 _ (record { sfits = c.clamp.type_inv }) ∙ (rw (low, high, to) at c.clamp.ensures.value) ∙ sym (toward_is a c.args.goal v)
