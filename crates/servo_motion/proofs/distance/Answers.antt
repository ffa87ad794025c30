-- `servo_motion::distance` meets its contract: whole counts and fraction are small enough for the machine. Assumes nothing.
use mathlib.Core.Path.{◌≡◌, ◌∙◌}
use native.Mathlib.Omega.{arith}
use lib.IntN.{pos, ◌*ℤ◌}
use mir.Syntax.{w64}
use mir.Val.{to_z, of_z}
use mir.ValLaws.{to_z-of_z, to_z_pos}
use Rattle.base_integers.specs.Whole.{difference}
use Rattle.base_integers.proofs.Sizes.{fits, back}
use Rattle.servo_motion.specs.Setpoint.{whole, fraction, distance}
use Rattle.servo_motion.proofs.Apart.{counts_most, distance_most}
use Rattle.servo_motion.proofs.distance.Goals as goal
use Rattle.servo_motion.proofs.distance.Goals.{After-difference}

module _ (c : After-difference) where
  counts-is : to_z w64 (of_z w64 c.difference.result) ≡ difference c.args.goal (whole c.args.setpoint)
  counts-is = to_z-of_z w64 _ (record { sfits = c.difference.type_inv }) ∙ (rw c.whole.ensures at c.difference.ensures)

  f-is : to_z w64 (fraction c.args.setpoint) ≡ pos (fraction c.args.setpoint)
  f-is = to_z_pos w64 _ (omega arith)

  times-is : to_z w64 (of_z w64 (difference c.args.goal (whole c.args.setpoint) *ℤ pos 65536))
      ≡ difference c.args.goal (whole c.args.setpoint) *ℤ pos 65536
  times-is = back w64 _ (omega (arith, counts_most c.args.goal c.args.setpoint))

pub overflow_mul-result : goal.overflow_mul-result
overflow_mul-result c = simp (counts-is c) (fits _ (omega (arith, counts_most c.args.goal c.args.setpoint)))

pub overflow_sub-result : goal.overflow_sub-result
unfolding distance
overflow_sub-result c = simp (counts-is c, times-is c, f-is c) (fits _ (omega (arith, distance_most c.args.goal c.args.setpoint)))

pub returns : goal.returns
unfolding distance
returns c = simp (counts-is c, times-is c, f-is c) (back w64 _ (omega (arith, distance_most c.args.goal c.args.setpoint)))
