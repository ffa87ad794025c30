-- What is promised of what a frame asks of a servo. Each is proved under its name, with small letters, in proofs/.
use Rattle.std.specs.Prelude.{◌≡◌, ℕ, ◌^◌, ◌<◌, ◌≤◌, List, Bool, true, false, length, get_or}
use Rattle.base_integers.specs.Bits.{is_set}
use Rattle.base_layout.specs.Bytes.{of_le, read_at, Bytes}
use Rattle.line_receiver.specs.Frames.{Frame}
use Rattle.servo_filter.specs.declared.Gains.{Gains}
use Rattle.servo_filter.specs.Promises.{Ranged}
use Rattle.servo_rules.specs.declared.Carried.{Carried}
use Rattle.servo_rules.specs.declared.Order.{Order}
use Rattle.servo_rules.specs.declared.Order.TheVariants.{ResetPosition, LoadTrajectory, Start, SetGain, Stop, ClearBits}
use Rattle.module_rules.specs.declared.Setting.TheVariants.{Assign, Define, Rate, Nothing}
use Rattle.module_rules.specs.declared.Fault.TheVariants as Faults
use Rattle.module_rules.specs.Rules.{Request, malformed, set, reset, wants, asking}
use Rattle.servo_rules.specs.Carried.{needed, carried_in, in_range}
use Rattle.servo_rules.specs.Asks.{load_meant, gains_in, tuning_in, gains_fit, gain_meant, halt_of, one_halt, stop_count, stop_meant, homing_meant}
use Rattle.servo_rules.specs.Answers.{request}

-- A load is taken if its data bytes are as many as its control byte asks for and its values are in range; with another number of them the
-- count is wrong, whatever they are; with that number, a value is out of range.
pub record LoadReads (ds : List ℕ) : Type 0 where
  pub read : length ds ≡ needed (get_or ds 0 0) → in_range (carried_in ds) ≡ true → asking ds (load_meant ds) ≡ wants (LoadTrajectory (carried_in ds))
  pub count : (length ds ≡ needed (get_or ds 0 0) → ⊥) → asking ds (load_meant ds) ≡ malformed Faults.Count
  pub value : length ds ≡ needed (get_or ds 0 0) → in_range (carried_in ds) ≡ false → asking ds (load_meant ds) ≡ malformed Faults.Value

abbrev pub LoadRead : Type 0
LoadRead = (ds : List ℕ) → LoadReads ds

-- The range of a load: velocity and acceleration at most 83,886,080, and a carried acceleration at least 1.
abbrev pub LoadRanged : Carried → Type 0
LoadRanged c = (c.velocity ≤ 83886080) × (c.acceleration ≤ 83886080) × (is_set 2 c.control ≡ true → 1 ≤ c.acceleration)

abbrev pub LoadRange : Type 0
LoadRange = (c : Carried) → (in_range c ≡ true → LoadRanged c) × (LoadRanged c → in_range c ≡ true)

-- Set Gain is taken if it has 15 data bytes, gains in range, SR 1 and DB 0; with another number of data bytes the count is wrong, whatever
-- they are; with 15, a value is out of range.
pub record GainReads (ds : List ℕ) : Type 0 where
  pub read : length ds ≡ 15
      → gains_fit (gains_in ds) ≡ true
      → get_or ds 12 0 ≡ 1
      → get_or ds 13 0 ≡ 0
      → asking ds (gain_meant ds) ≡ wants (SetGain (tuning_in ds))
  pub count : (length ds ≡ 15 → ⊥) → asking ds (gain_meant ds) ≡ malformed Faults.Count
  pub value : length ds ≡ 15 → gains_fit (gains_in ds) ≡ false → asking ds (gain_meant ds) ≡ malformed Faults.Value
  pub rate : length ds ≡ 15 → (get_or ds 12 0 ≡ 1 → ⊥) → asking ds (gain_meant ds) ≡ malformed Faults.Value
  pub band : length ds ≡ 15 → (get_or ds 13 0 ≡ 0 → ⊥) → asking ds (gain_meant ds) ≡ malformed Faults.Value

abbrev pub GainRead : Type 0
GainRead = (ds : List ℕ) → GainReads ds

-- The gains that Set Gain takes are those that the filter is proved for.
abbrev pub GainRange : Type 0
GainRange = (g : Gains) → (gains_fit g ≡ true → Ranged g) × (Ranged g → gains_fit g ≡ true)

-- Stop is taken if its data bytes are as many as its control byte asks for, and that has one kind of stop at most; with another number of
-- data bytes the count is wrong, whatever they are; with that number, the control byte is out of range.
pub record StopReads (ds : List ℕ) : Type 0 where
  pub read : length ds ≡ stop_count (get_or ds 0 0)
      → one_halt (get_or ds 0 0) ≡ true
      → asking ds (stop_meant ds) ≡ wants (Stop (is_set 0 (get_or ds 0 0)) (halt_of (get_or ds 0 0)) (of_le (read_at 4 1 ds)))
  pub count : (length ds ≡ stop_count (get_or ds 0 0) → ⊥) → asking ds (stop_meant ds) ≡ malformed Faults.Count
  pub value : length ds ≡ stop_count (get_or ds 0 0) → one_halt (get_or ds 0 0) ≡ false → asking ds (stop_meant ds) ≡ malformed Faults.Value

abbrev pub StopRead : Type 0
StopRead = (ds : List ℕ) → StopReads ds

-- A control byte that Stop takes has none of bits 5 to 7, and of bits 1 to 4 no two.
pub record OneKind (control : ℕ) : Type 0 where
  pub small : control < 32
  pub single : (j k : ℕ) → 1 ≤ j → j < k → k ≤ 4 → is_set j control ≡ true → is_set k control ≡ false

abbrev pub OneHalt : Type 0
OneHalt = (control : ℕ) → one_halt control ≡ true → OneKind control

-- with so many data bytes a frame asks this, with any other number the count is wrong
abbrev pub Line : ℕ → Request Order → Frame → Bool → Type 0
Line count asks f alone =
    (length f.content ≡ count → request f alone ≡ asks) × ((length f.content ≡ count → ⊥) → request f alone ≡ malformed Faults.Count)

-- Each code with its count, and what it asks (01 Commands of both types, Servo). Load Trajectory, Set Gain, Stop and
-- Set Homing look at their data, too.
pub record Code (f : Frame) (alone : Bool) : Type 0 where
  pub reset_position : f.code ≡ 0 → Line 0 (wants ResetPosition) f alone
  pub set_address : f.code ≡ 1 → Line 2 (set (Assign (get_or f.content 0 0) (get_or f.content 1 0))) f alone
  pub define_status : f.code ≡ 2 → Line 1 (set (Define (get_or f.content 0 0))) f alone
  pub read_status : f.code ≡ 3 → Line 1 (set Nothing) f alone
  pub load : f.code ≡ 4 → request f alone ≡ asking f.content (load_meant f.content)
  pub start : f.code ≡ 5 → Line 0 (wants Start) f alone
  pub set_gain : f.code ≡ 6 → request f alone ≡ asking f.content (gain_meant f.content)
  pub stop : f.code ≡ 7 → request f alone ≡ asking f.content (stop_meant f.content)
  pub set_homing : f.code ≡ 9 → request f alone ≡ asking f.content (homing_meant f.content)
  pub set_baud : f.code ≡ 10 → alone ≡ false → Line 1 (set (Rate (get_or f.content 0 0))) f alone
  pub baud_alone : f.code ≡ 10 → alone ≡ true → request f alone ≡ malformed Faults.Unknown
  pub clear_bits : f.code ≡ 11 → Line 0 (wants ClearBits) f alone
  pub no_op : f.code ≡ 14 → Line 0 (set Nothing) f alone
  pub hard_reset : f.code ≡ 15 → Line 0 reset f alone

abbrev pub Codes : Type 0
Codes = (f : Frame) (alone : Bool) → Code f alone

-- 02 P1: any other code than the thirteen is unknown, with any data.
abbrev pub Unknown : Type 0
Unknown =
    (f : Frame) (alone : Bool)
    → (f.code ≡ 0 → ⊥)
    → (f.code ≡ 1 → ⊥)
    → (f.code ≡ 2 → ⊥)
    → (f.code ≡ 3 → ⊥)
    → (f.code ≡ 4 → ⊥)
    → (f.code ≡ 5 → ⊥)
    → (f.code ≡ 6 → ⊥)
    → (f.code ≡ 7 → ⊥)
    → (f.code ≡ 9 → ⊥)
    → (f.code ≡ 10 → ⊥)
    → (f.code ≡ 11 → ⊥)
    → (f.code ≡ 14 → ⊥)
    → (f.code ≡ 15 → ⊥)
    → request f alone ≡ malformed Faults.Unknown

-- What is read from bytes fits into the bytes that hold it.
pub record Fits (ds : List ℕ) : Type 0 where
  pub control : (carried_in ds).control < 256
  pub place : (carried_in ds).place < 2 ^ 32
  pub velocity : (carried_in ds).velocity < 2 ^ 32
  pub acceleration : (carried_in ds).acceleration < 2 ^ 32
  pub pulse : (carried_in ds).pulse < 256
  pub kp : (gains_in ds).kp < 65536
  pub kd : (gains_in ds).kd < 65536
  pub ki : (gains_in ds).ki < 65536
  pub il : (gains_in ds).il < 65536
  pub ol : (gains_in ds).ol < 256
  pub el : (gains_in ds).el < 65536
  pub cl : (tuning_in ds).cl < 256
  pub sm : (tuning_in ds).sm < 256
  pub halt : of_le (read_at 4 1 ds) < 2 ^ 32

abbrev pub Fit : Type 0
Fit = (ds : List ℕ) → Bytes ds → Fits ds
