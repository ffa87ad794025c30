-- What is promised of a step-motor module by the bytes of a frame: its codes, counts and values, what its commands do, its status, items, outputs and
-- power-up (document 02, P3). Each is proved under its name, with small letters, in proofs/.
use Rattle.std.specs.Prelude.{◌≡◌, ◌⊎◌, ◌↔◌, ℕ, ◌+◌, ◌<◌, ◌≤◌, List, [], ◌∷◌, ◌++◌, Bool, true, false, cond, length, get_or}
use Rattle.base_integers.specs.Bits as Bits
use Rattle.base_integers.specs.Bits.{is_set}
use Rattle.base_layout.specs.Bytes.{le, of_le}
use Rattle.base_layout.specs.Codec.{bit}
use Rattle.line_receiver.specs.Frames.{Frame}
use Rattle.module_rules.specs.declared.Setting.TheVariants.{Assign, Define, Rate, Nothing}
use Rattle.module_rules.specs.declared.Fault.TheVariants as Faults
use Rattle.module_rules.specs.Rules.{malformed, set, reset, wants}
use Rattle.module_rules.specs.FramePromises.{AtPowerUp, undamaged, Takes}
use Rattle.stepper_rules.specs.declared.Halt.{Halt}
use Rattle.stepper_rules.specs.declared.Halt.TheVariants.{Keep, Abrupt, Smooth}
use Rattle.stepper_rules.specs.declared.Order.TheVariants.{Start, SetParameters, Stop}
use Rattle.stepper_rules.specs.declared.Settings.{Settings}
use Rattle.stepper_rules.specs.declared.Motion.{Motion}
use Rattle.stepper_rules.specs.declared.Stepper.{Stepper}
use Rattle.stepper_rules.specs.Carried.{needed}
use Rattle.stepper_rules.specs.State.{no_load, rest, started, with_settings, with_load, with_motion}
use Rattle.stepper_rules.specs.Answers.{shows, status, numbers, sizes, outputs_of, stepper, request, with_cause, execute}
use Rattle.stepper_rules.specs.RampPromises.{greater}

-- a number is none of these
abbrev pub NoneOf : ℕ → List ℕ → Type 0
NoneOf n [] = Unit {0}
NoneOf n (k ∷ ks) = (n ≡ k → ⊥) × NoneOf n ks

-- 02 P3: Stop's byte: bit 0 the amplifier's, bit 2 abrupt, bit 3 smooth
abbrev pub stop_bit : Halt → ℕ
stop_bit Keep = 0
stop_bit Abrupt = 4
stop_bit Smooth = 8

abbrev pub stop_byte : Bool → Halt → ℕ
stop_byte amplifier halt = bit amplifier + stop_bit halt

-- 02 P3, with manual 000's codes: what each code asks of a step-motor module, with as many data bytes as it takes. A minimum is 1 to 250; six bytes
-- are a Stop's; an item byte has no bit but 0 and 5. Anything else there is a bad value.
pub record Asks (to : ℕ) (alone : Bool) : Type 0 where
  pub address : (a b : ℕ) → request (undamaged to 1 (a ∷ b ∷ [])) alone ≡ set (Assign a b)
  pub defines : (b : ℕ) → shows b ≡ true → request (undamaged to 2 (b ∷ [])) alone ≡ set (Define b)
  pub reads : (b : ℕ) → shows b ≡ true → request (undamaged to 3 (b ∷ [])) alone ≡ set Nothing
  pub not_defined : (b : ℕ) → shows b ≡ false → request (undamaged to 2 (b ∷ [])) alone ≡ malformed Faults.Value
  pub not_read : (b : ℕ) → shows b ≡ false → request (undamaged to 3 (b ∷ [])) alone ≡ malformed Faults.Value
  pub start : request (undamaged to 5 []) alone ≡ wants Start
  pub parameters : (mode v a b c : ℕ) → 1 ≤ v → v ≤ 250 → request (undamaged to 6 (mode ∷ v ∷ a ∷ b ∷ c ∷ [])) alone ≡ wants (SetParameters v)
  pub no_minimum : (mode v a b c : ℕ) → (v ≡ 0) ⊎ (251 ≤ v)
      → request (undamaged to 6 (mode ∷ v ∷ a ∷ b ∷ c ∷ [])) alone ≡ malformed Faults.Value
  pub stop : (a : Bool) (h : Halt) → request (undamaged to 7 (stop_byte a h ∷ [])) alone ≡ wants (Stop a h)
  pub no_stop : (c : ℕ) → NoneOf c (0x00 ∷ 0x01 ∷ 0x04 ∷ 0x05 ∷ 0x08 ∷ 0x09 ∷ []) → request (undamaged to 7 (c ∷ [])) alone ≡ malformed Faults.Value
  pub baud : (b : ℕ) → request (undamaged to 10 (b ∷ [])) false ≡ set (Rate b)
  pub baud_alone : (ds : List ℕ) → request (undamaged to 10 ds) true ≡ malformed Faults.Unknown
  pub no_op : request (undamaged to 14 []) alone ≡ set Nothing
  pub hard_reset : request (undamaged to 15 []) alone ≡ reset

abbrev pub Codes : Type 0
Codes = (to : ℕ) (alone : Bool) → Asks to alone

-- 02 P3: how many data bytes each of its own codes takes; any other number of them is a wrong count, whatever they are.
pub record Counts : Type 0 where
  pub load : (alone : Bool) (to : ℕ) (ds : List ℕ) → (length ds ≡ needed (get_or ds 0 0) → ⊥) → request (undamaged to 4 ds) alone ≡ malformed Faults.Count
  pub start : Takes stepper 5 0
  pub parameters : Takes stepper 6 5
  pub stop : Takes stepper 7 1

-- 02 P1, P3: any other code than these ten is unknown, with any data, Reset Position among them.
abbrev pub Unknown : Type 0
Unknown =
    (f : Frame) (alone : Bool) → NoneOf f.code (1 ∷ 2 ∷ 3 ∷ 4 ∷ 5 ∷ 6 ∷ 7 ∷ 10 ∷ 14 ∷ 15 ∷ []) → request f alone ≡ malformed Faults.Unknown

-- ---- Load Trajectory

-- the numbers that a load can carry: four bytes of a position, a speed, an acceleration time, three bytes of a timer count
pub record Sent : Type 0 where
  pub p0 : ℕ
  pub p1 : ℕ
  pub p2 : ℕ
  pub p3 : ℕ
  pub speed : ℕ
  pub time : ℕ
  pub u0 : ℕ
  pub u1 : ℕ
  pub u2 : ℕ

-- what a bit of the control byte announces: these bytes, or none
abbrev pub carrying : ℕ → ℕ → List ℕ → List ℕ
carrying k control xs = cond (is_set k control) xs []

-- the data bytes of a load: the control byte, then position, speed, acceleration time and timer count, each only with its bit
abbrev pub load_bytes : ℕ → Sent → List ℕ
load_bytes control s =
    control
    ∷ carrying 0 control (s.p0 ∷ s.p1 ∷ s.p2 ∷ s.p3 ∷ [])
    ++ (carrying 1 control (s.speed ∷ []) ++ (carrying 2 control (s.time ∷ []) ++ carrying 3 control (s.u0 ∷ s.u1 ∷ s.u2 ∷ [])))

-- 02 P3: a load's count is 1, and 4, 1, 1 and 3 more for its control bits 0 to 3.
abbrev pub LoadCount : Type 0
LoadCount =
    (control : ℕ) (s : Sent)
    → (length (load_bytes control s) ≡ needed control)
    × (needed control ≡ 1 + cond (is_set 0 control) 4 0 + cond (is_set 1 control) 1 0 + cond (is_set 2 control) 1 0 + cond (is_set 3 control) 3 0)

-- a load whose values are good: bits 5 and 6 clear, a carried speed of 1 to 250, a carried acceleration time that is not 0
pub record GoodLoad (control : ℕ) (s : Sent) : Type 0 where
  pub five : is_set 5 control ≡ false
  pub six : is_set 6 control ≡ false
  pub speed : is_set 1 control ≡ true → (1 ≤ s.speed) × (s.speed ≤ 250)
  pub time : is_set 2 control ≡ true → 1 ≤ s.time

-- one whose values are not
pub data BadLoad (control : ℕ) (s : Sent) : Type 0 where
  five : is_set 5 control ≡ true → BadLoad control s
  six : is_set 6 control ≡ true → BadLoad control s
  speed : is_set 1 control ≡ true → (s.speed ≡ 0) ⊎ (251 ≤ s.speed) → BadLoad control s
  time : is_set 2 control ≡ true → s.time ≡ 0 → BadLoad control s

-- settings after it: a carried position and timer count are stored, all else is as it was
abbrev pub stored_by : ℕ → Sent → Settings → Settings
stored_by control s x = record {
  amplifier = x.amplifier;
  minimum = x.minimum;
  place = cond (is_set 0 control) (of_le (s.p0 ∷ s.p1 ∷ s.p2 ∷ s.p3 ∷ [])) x.place;
  timer = cond (is_set 3 control) (of_le (s.u0 ∷ s.u1 ∷ s.u2 ∷ [])) x.timer;
}

-- 02 P3: a start from this load, which carries both numbers, can be carried out: Set Parameters is done, and what moves goes in its direction
pub record Allowed (control : ℕ) (m : Stepper) : Type 0 where
  pub known : 1 ≤ m.settings.minimum
  pub speed : is_set 1 control ≡ true
  pub time : is_set 2 control ≡ true
  pub way : (m.motion.speed ≡ 0) ⊎ (is_set 4 control ≡ m.motion.backward)

-- what it begins, with this speed: in bit 4's direction, toward the load's speed, or the minimum if that is greater; ticks count from here
abbrev pub begun_at : ℕ → ℕ → Sent → Stepper → Motion
begun_at v control s m = record {
  speed = v;
  backward = is_set 4 control;
  goal = greater s.speed m.settings.minimum;
  time = s.time;
  ticks = 0;
  stopping = false;
}

-- 02 P3: what a load does, for every control byte and every number. Without bit 7 it waits, and replaces an older one whole; with bit 7 it starts at
-- once, from rest with the minimum speed, else with the speed that there is, and is used up; or, where that cannot be, the whole frame is not now. Bad
-- values change nothing but the cause.
pub record Loads (to : ℕ) (alone : Bool) (m : Stepper) (control : ℕ) (s : Sent) : Type 0 where
  pub waits : GoodLoad control s → is_set 7 control ≡ false
      → execute (undamaged to 4 (load_bytes control s)) alone m
      ≡ with_cause 0
      (with_settings (stored_by control s m.settings)
      (with_load
      (record { waits = true; backward = is_set 4 control; speed = cond (is_set 1 control) s.speed 0; time = cond (is_set 2 control) s.time 0 })
      m))
  pub from_rest : GoodLoad control s → is_set 7 control ≡ true → Allowed control m → m.motion.speed ≡ 0
      → execute (undamaged to 4 (load_bytes control s)) alone m
      ≡ with_cause 0
      (with_settings (stored_by control s m.settings) (with_load no_load (with_motion (begun_at m.settings.minimum control s m) m)))
  pub moving : GoodLoad control s → is_set 7 control ≡ true → Allowed control m → 0 < m.motion.speed
      → execute (undamaged to 4 (load_bytes control s)) alone m
      ≡ with_cause 0
      (with_settings (stored_by control s m.settings) (with_load no_load (with_motion (begun_at m.motion.speed control s m) m)))
  pub not_now : GoodLoad control s → is_set 7 control ≡ true → (Allowed control m → ⊥)
      → execute (undamaged to 4 (load_bytes control s)) alone m ≡ with_cause 3 m
  pub bad_value : BadLoad control s → execute (undamaged to 4 (load_bytes control s)) alone m ≡ with_cause 5 m

abbrev pub Loading : Type 0
Loading = (to : ℕ) (alone : Bool) (m : Stepper) (control : ℕ) (s : Sent) → Loads to alone m control s

-- ---- Start, Set Parameters, Stop

-- 02 P3: what a Start needs: Set Parameters done, a waiting load that carries speed and acceleration time itself, and its direction, unless at rest
pub record Startable (m : Stepper) : Type 0 where
  pub known : 1 ≤ m.settings.minimum
  pub waits : m.load.waits ≡ true
  pub speed : 1 ≤ m.load.speed
  pub time : 1 ≤ m.load.time
  pub way : (m.motion.speed ≡ 0) ⊎ (m.load.backward ≡ m.motion.backward)

-- what the waiting load begins, with this speed
abbrev pub begun_from : ℕ → Stepper → Motion
begun_from v m = record {
  speed = v;
  backward = m.load.backward;
  goal = greater m.load.speed m.settings.minimum;
  time = m.load.time;
  ticks = 0;
  stopping = false;
}

-- settings with another amplifier bit, and with another minimum
abbrev pub with_amplifier : Bool → Settings → Settings
with_amplifier a x = record { amplifier = a; minimum = x.minimum; place = x.place; timer = x.timer }

abbrev pub with_minimum : ℕ → Settings → Settings
with_minimum v x = record { amplifier = x.amplifier; minimum = v; place = x.place; timer = x.timer }

-- 02 P3: what Start, Set Parameters and Stop do to a module, whatever it is. Set Parameters and Stop are never "not now".
pub record Does (to : ℕ) (alone : Bool) (m : Stepper) : Type 0 where
  pub start_from_rest : Startable m → m.motion.speed ≡ 0
      → execute (undamaged to 5 []) alone m ≡ with_cause 0 (with_load no_load (with_motion (begun_from m.settings.minimum m) m))
  pub start_moving : Startable m → 0 < m.motion.speed
      → execute (undamaged to 5 []) alone m ≡ with_cause 0 (with_load no_load (with_motion (begun_from m.motion.speed m) m))
  pub not_now : (Startable m → ⊥) → execute (undamaged to 5 []) alone m ≡ with_cause 3 m
  -- only the minimum acts, and while moving it stays
  pub parameters : (mode v a b c : ℕ) → 1 ≤ v → v ≤ 250 → m.motion.speed ≡ 0
      → execute (undamaged to 6 (mode ∷ v ∷ a ∷ b ∷ c ∷ [])) alone m ≡ with_cause 0 (with_settings (with_minimum v m.settings) m)
  pub parameters_moving : (mode v a b c : ℕ) → 1 ≤ v → v ≤ 250 → 0 < m.motion.speed
      → execute (undamaged to 6 (mode ∷ v ∷ a ∷ b ∷ c ∷ [])) alone m ≡ with_cause 0 m
  -- bit 0 alone; abrupt; smooth at rest; smooth while moving, with the running acceleration time
  pub keep : (a : Bool) → execute (undamaged to 7 (stop_byte a Keep ∷ [])) alone m ≡ with_cause 0 (with_settings (with_amplifier a m.settings) m)
  pub abrupt : (a : Bool)
      → execute (undamaged to 7 (stop_byte a Abrupt ∷ [])) alone m
      ≡ with_cause 0 (with_settings (with_amplifier a m.settings) (with_load no_load (with_motion rest m)))
  pub smooth_at_rest : (a : Bool) → m.motion.speed ≡ 0
      → execute (undamaged to 7 (stop_byte a Smooth ∷ [])) alone m ≡ with_cause 0 (with_settings (with_amplifier a m.settings) (with_load no_load m))
  pub smooth : (a : Bool) → 0 < m.motion.speed
      → execute (undamaged to 7 (stop_byte a Smooth ∷ [])) alone m
      ≡ with_cause 0
      (with_settings (with_amplifier a m.settings)
      (with_load no_load
      (with_motion
      (record {
        speed = m.motion.speed;
        backward = m.motion.backward;
        goal = m.settings.minimum;
        time = m.motion.time;
        ticks = 0;
        stopping = true;
      })
      m)))
  -- Hard Reset: power-up, so before Set Parameters again
  pub hard_reset : execute (undamaged to 15 []) alone m ≡ started

abbrev pub Obeys : Type 0
Obeys = (to : ℕ) (alone : Bool) (m : Stepper) → Does to alone m

-- ---- what is told

-- 02 P3: the item byte that a step-motor module takes has no bit but 0 and 5.
abbrev pub ItemBits : Type 0
ItemBits = (b : ℕ) → (shows b ≡ true) ↔ ((b ≡ 0x00) ⊎ ((b ≡ 0x01) ⊎ ((b ≡ 0x20) ⊎ (b ≡ 0x21))))

-- 02 P3: status bit 0 is moving, bit 1 the cause's, all others are 0; the items by their numbers and sizes: the position, and type 3 with version 1;
-- what is driven: the speed's size, 1 if backward, the amplifier bit.
pub record Tells (m : Stepper) : Type 0 where
  pub moving : 0 < m.motion.speed → Bits.bit 0 (status m) ≡ 1
  pub still : m.motion.speed ≡ 0 → Bits.bit 0 (status m) ≡ 0
  pub fine : m.station.cause ≡ 0 → Bits.bit 1 (status m) ≡ 0
  pub faulty : (m.station.cause ≡ 0 → ⊥) → Bits.bit 1 (status m) ≡ 1
  pub others : status m < 4
  pub position : get_or (numbers m) 0 0 ≡ m.position
  pub type_and_version : le 2 (get_or (numbers m) 5 0) ≡ 3 ∷ 1 ∷ []
  pub long : sizes ≡ 4 ∷ 0 ∷ 0 ∷ 0 ∷ 0 ∷ 2 ∷ 0 ∷ 0 ∷ []
  pub driven : outputs_of m ≡ m.motion.speed ∷ bit m.motion.backward ∷ bit m.settings.amplifier ∷ 0 ∷ 0 ∷ 0 ∷ 0 ∷ 0 ∷ []

abbrev pub Told : Type 0
Told = (m : Stepper) → Tells m

-- 02 P3: power-up, field by field: nothing is known, waits or moves.
pub record AtStart (m : Stepper) : Type 0 where
  pub station : AtPowerUp m.station
  pub amplifier : m.settings.amplifier ≡ false
  pub minimum : m.settings.minimum ≡ 0
  pub place : m.settings.place ≡ 0
  pub timer : m.settings.timer ≡ 0
  pub waits : m.load.waits ≡ false
  pub speed : m.motion.speed ≡ 0
  pub position : m.position ≡ 0

abbrev pub PowersUp : Type 0
PowersUp = AtStart started
