-- `servo_filter::filter` meets its contract: the error is the wrapped difference. Assumes nothing.
use mathlib.Core.Path.{◌≡◌, ◌∙◌}
use native.Mathlib.Omega.{arith}
use mir.Syntax.{w64}
use mir.Val.{to_z, of_z}
use mir.ValLaws.{to_z-of_z}
use Rattle.base_integers.specs.Whole.{difference}
use Rattle.base_integers.proofs.Sizes.{abs_difference}
use Rattle.servo_filter.proofs.filter.Goals as goal
use Rattle.servo_filter.proofs.filter.Goals.{After-difference}

e-is : (c : After-difference) → to_z w64 (of_z w64 c.difference.result) ≡ difference c.args.setpoint c.args.position
e-is c = to_z-of_z w64 _ (record { sfits = c.difference.type_inv }) ∙ c.difference.ensures

pub at_error-requires : goal.at_error-requires
at_error-requires c =
    record { kept = c.requires; e_bound = rw (e-is c) (omega (arith, abs_difference c.args.setpoint c.args.position)) }
