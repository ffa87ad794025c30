-- What a frame asks of a step-motor module (document 02, P3; codes and Set Parameters' bytes by manual 000).
use Rattle.std.specs.Prelude.{ℕ, ◌/◌, List, Bool, true, cond, not, ◌&&◌, get_or, eqb}
use Rattle.base_integers.specs.Bits.{is_set}
use Rattle.module_rules.specs.Rules.{Meaning, unknown, takes}
use Rattle.stepper_rules.specs.declared.Halt.{Halt}
use Rattle.stepper_rules.specs.declared.Halt.TheVariants.{Keep, Abrupt, Smooth}
use Rattle.stepper_rules.specs.declared.Order.{Order}
use Rattle.stepper_rules.specs.declared.Order.TheVariants.{LoadTrajectory, Start, SetParameters, Stop}
use Rattle.stepper_rules.specs.Carried.{needed, carried_in, is_speed, in_range}

-- 4 Load Trajectory takes the count that its control byte asks for, which is never 0
unfoldable pub load_meant : List ℕ → Meaning Order
load_meant ds = takes (needed (get_or ds 0 0)) (in_range (carried_in ds)) (LoadTrajectory (carried_in ds))

-- 6 Set Parameters: the mode, the minimum speed, and three limits; of all five the minimum alone is looked at
unfoldable pub parameters_meant : List ℕ → Meaning Order
parameters_meant ds = takes 5 (is_speed (get_or ds 1 0)) (SetParameters (get_or ds 1 0))

-- 7 Stop: bit 2 abrupt, bit 3 smooth, at most one of them; bit 0 is the amplifier's, and there is no other bit
abbrev pub halt_of : ℕ → Halt
halt_of control = cond (is_set 2 control) Abrupt (cond (is_set 3 control) Smooth Keep)

abbrev pub one_halt : ℕ → Bool
one_halt control = not (is_set 2 control && is_set 3 control) && not (is_set 1 control) && eqb (control / 16) 0

unfoldable pub stop_meant : List ℕ → Meaning Order
stop_meant ds = takes 1 (one_halt (get_or ds 0 0)) (Stop (is_set 0 (get_or ds 0 0)) (halt_of (get_or ds 0 0)))

-- the type's own codes: 4 Load Trajectory, 5 Start (0), 6 Set Parameters (5), 7 Stop (1); any other is unknown
unfoldable pub own : ℕ → List ℕ → Meaning Order
own code ds =
    cond (eqb code 4) (load_meant ds)
    (cond (eqb code 5) (takes 0 true Start)
    (cond (eqb code 6) (parameters_meant ds)
    (cond (eqb code 7) (stop_meant ds)
    unknown)))
