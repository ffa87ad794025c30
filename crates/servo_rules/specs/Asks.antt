-- What a frame asks of a servo (document 01, "Servo").
use Rattle.std.specs.Prelude.{ℕ, ◌/◌, ◌%◌, List, Bool, true, cond, ◌&&◌, get_or, eqb, leb}
use Rattle.std.specs.Int.Count.{ones}
use Rattle.base_integers.specs.Bits.{is_set}
use Rattle.base_layout.specs.Bytes.{of_le, read_at}
use Rattle.module_rules.specs.Rules.{Meaning, unknown, takes}
use Rattle.servo_filter.specs.declared.Gains.{Gains}
use Rattle.servo_rules.specs.declared.Tuning.{Tuning}
use Rattle.servo_rules.specs.declared.Halt.{Halt}
use Rattle.servo_rules.specs.declared.Halt.TheVariants.{Keep, Release, Abrupt, Smooth, Here}
use Rattle.servo_rules.specs.declared.Order.{Order}
use Rattle.servo_rules.specs.declared.Order.TheVariants.{ResetPosition, LoadTrajectory, Start, SetGain, Stop, SetHoming, ClearBits}
use Rattle.servo_rules.specs.Carried.{needed, carried_in, in_range}
use Rattle.servo_rules.specs.Homing.{good_byte}

-- 4 Load Trajectory takes the count that its control byte asks for, which is never 0
unfoldable pub load_meant : List ℕ → Meaning Order
load_meant ds = takes (needed (get_or ds 0 0)) (in_range (carried_in ds)) (LoadTrajectory (carried_in ds))

-- 6 Set Gain: Kp, Kd, Ki, IL, OL, CL, EL, SR, DB, SM
unfoldable pub gains_in : List ℕ → Gains
gains_in ds = record {
  kp = of_le (read_at 2 0 ds);
  kd = of_le (read_at 2 2 ds);
  ki = of_le (read_at 2 4 ds);
  il = of_le (read_at 2 6 ds);
  ol = get_or ds 8 0;
  el = of_le (read_at 2 10 ds);
}

abbrev pub tuning_in : List ℕ → Tuning
tuning_in ds = record { gains = gains_in ds; cl = get_or ds 9 0; sm = get_or ds 14 0 }

-- gains and IL at most 32,767, EL at most 16,383
unfoldable pub gains_fit : Gains → Bool
gains_fit g =
    leb g.kp 32767
    && leb g.kd 32767
    && leb g.ki 32767
    && leb g.il 32767
    && leb g.el 16383

-- SR must be 1 and DB 0
unfoldable pub gain_meant : List ℕ → Meaning Order
gain_meant ds = takes 15 (gains_fit (gains_in ds) && eqb (get_or ds 12 0) 1 && eqb (get_or ds 13 0) 0) (SetGain (tuning_in ds))

-- 7 Stop: what of bits 1 to 4 is set; at most one of them may be, and none of bits 5 to 7
unfoldable pub halt_of : ℕ → Halt
halt_of control =
    cond (is_set 1 control) Release
    (cond (is_set 2 control) Abrupt
    (cond (is_set 3 control) Smooth
    (cond (is_set 4 control) Here
    Keep)))

abbrev pub one_halt : ℕ → Bool
one_halt control = leb (ones (control / 2 % 16)) 1 && eqb (control / 32) 0

-- five data bytes with bit 4, else one
abbrev pub stop_count : ℕ → ℕ
stop_count control = cond (is_set 4 control) 5 1

unfoldable pub stop_meant : List ℕ → Meaning Order
stop_meant ds =
    takes (stop_count (get_or ds 0 0)) (one_halt (get_or ds 0 0))
    (Stop (is_set 0 (get_or ds 0 0)) (halt_of (get_or ds 0 0)) (of_le (read_at 4 1 ds)))

-- 9 Set Homing (02 P8)
abbrev pub homing_meant : List ℕ → Meaning Order
homing_meant ds = takes 1 (good_byte (get_or ds 0 0)) (SetHoming (get_or ds 0 0))

-- the type's own codes: 0 Reset Position (0), 4 Load Trajectory, 5 Start (0), 6 Set Gain (15), 7 Stop, 9 Set Homing (1), 11 Clear Bits (0); any other
-- is unknown
unfoldable pub own : ℕ → List ℕ → Meaning Order
own code ds =
    cond (eqb code 0) (takes 0 true ResetPosition)
    (cond (eqb code 4) (load_meant ds)
    (cond (eqb code 5) (takes 0 true Start)
    (cond (eqb code 6) (gain_meant ds)
    (cond (eqb code 7) (stop_meant ds)
    (cond (eqb code 9) (homing_meant ds)
    (cond (eqb code 11) (takes 0 true ClearBits)
    unknown))))))
