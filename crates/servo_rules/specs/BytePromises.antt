-- What is promised of the data bytes of a servo's own commands: they are put together from parts that are free of each other, and what a
-- servo then stores and does is said by those parts. Each is proved under its name, with small letters, in proofs/.
use Rattle.std.specs.Prelude.{◌≡◌, ◌⊎◌, ℕ, ◌+◌, ◌≤◌, List, [], ◌∷◌, ◌++◌, Bool, true, false, cond, ◌||◌, length, get_or, ℤ, pos, neg_ℤ}
use Rattle.base_integers.specs.Bits.{is_set}
use Rattle.base_layout.specs.Bytes.{of_le}
use Rattle.line_receiver.specs.Frames.{Frame}
use Rattle.module_rules.specs.declared.Fault.TheVariants as Faults
use Rattle.module_rules.specs.Rules.{Request, malformed, wants, asking}
use Rattle.servo_rules.specs.declared.Halt.{Halt}
use Rattle.servo_rules.specs.declared.Halt.TheVariants.{Keep, Release, Abrupt, Smooth, Here}
use Rattle.servo_rules.specs.declared.Order.{Order}
use Rattle.servo_rules.specs.declared.Order.TheVariants.{Stop}
use Rattle.servo_rules.specs.declared.Mode.TheVariants.{Pwm, Velocity, Trapezoid}
use Rattle.servo_rules.specs.declared.Way.TheVariants.{Pulse, Speed, Move}
use Rattle.servo_rules.specs.declared.Rates.{Rates}
use Rattle.servo_rules.specs.declared.Servo.{Servo}
use Rattle.servo_rules.specs.Carried.{needed}
use Rattle.servo_rules.specs.Asks.{one_halt, stop_meant}
use Rattle.servo_rules.specs.Answers.{execute}

-- what a bit of the control byte announces: these bytes, or none
abbrev pub carrying : ℕ → ℕ → List ℕ → List ℕ
carrying k control xs = cond (is_set k control) xs []

-- the data bytes of a load: the control byte, then position, velocity, acceleration and PWM value, each only with its bit
abbrev pub load_bytes : ℕ → List ℕ → List ℕ → List ℕ → ℕ → List ℕ
load_bytes control p v a u =
    control ∷ carrying 0 control p ++ carrying 1 control v ++ carrying 2 control a ++ carrying 3 control (u ∷ [])

-- position, velocity and acceleration have four bytes each
pub record Fours (p v a : List ℕ) : Type 0 where
  pub place : length p ≡ 4
  pub velocity : length v ≡ 4
  pub acceleration : length a ≡ 4

-- data bytes that are put together so, with their parts
pub record LoadParts (ds : List ℕ) : Type 0 where
  pub place : List ℕ
  pub velocity : List ℕ
  pub acceleration : List ℕ
  pub pulse : ℕ
  pub fours : Fours place velocity acceleration
  pub whole : ds ≡ load_bytes (get_or ds 0 0) place velocity acceleration pulse

-- A load's bytes are as many as its control byte asks for, and data bytes that are so many are a load's bytes (01 Load Trajectory).
pub record LoadCount : Type 0 where
  pub needs : (control : ℕ) (p v a : List ℕ) (u : ℕ) → Fours p v a → length (load_bytes control p v a u) ≡ needed control
  pub parts : (ds : List ℕ) → length ds ≡ needed (get_or ds 0 0) → LoadParts ds

-- an undamaged load of these bytes, with its values in range
pub record LoadFrame (control : ℕ) (p v a : List ℕ) (u : ℕ) (f : Frame) : Type 0 where
  pub sound : f.damaged ≡ false
  pub code : f.code ≡ 4
  pub content : f.content ≡ load_bytes control p v a u
  pub fours : Fours p v a
  pub velocity : is_set 1 control ≡ true → of_le v ≤ 83886080
  pub acceleration : is_set 2 control ≡ true → (1 ≤ of_le a) × (of_le a ≤ 83886080)

-- velocity and acceleration after it: those that bits 1 and 2 announce, else the earlier ones
pub record Rated (control : ℕ) (v a : List ℕ) (before r : Rates) : Type 0 where
  pub velocity : r.velocity ≡ cond (is_set 1 control) (of_le v) before.velocity
  pub acceleration : r.acceleration ≡ cond (is_set 2 control) (of_le a) before.acceleration
  pub paced : r.paced ≡ (is_set 1 control || before.paced)
  pub ramped : r.ramped ≡ (is_set 2 control || before.ramped)

-- the load that waits after it: bit 0 a position, 3 a PWM value, 4 and 5 the mode, 6 reverse
pub record LoadStored (control : ℕ) (p v a : List ℕ) (u : ℕ) (m n : Servo) : Type 0 where
  pub cause : n.station.cause ≡ 0
  pub waits : n.settings.load.waits ≡ true
  pub placed : n.settings.load.placed ≡ is_set 0 control
  pub place : is_set 0 control ≡ true → n.settings.load.place ≡ of_le p
  pub pulsed : n.settings.load.pulsed ≡ is_set 3 control
  pub pulse : is_set 3 control ≡ true → n.settings.load.pulse ≡ u
  pub pwm : is_set 4 control ≡ false → n.settings.load.way ≡ Pulse
  pub speed : is_set 4 control ≡ true → is_set 5 control ≡ true → n.settings.load.way ≡ Speed
  pub move : is_set 4 control ≡ true → is_set 5 control ≡ false → n.settings.load.way ≡ Move
  pub reverse : n.settings.load.reverse ≡ is_set 6 control
  pub rates : Rated control v a m.settings.rates n.settings.rates

-- A load without bit 7 waits, as its bytes say (01 Load Trajectory).
abbrev pub LoadStores : Type 0
LoadStores =
    (control : ℕ) (p v a : List ℕ) (u : ℕ) (f : Frame) (alone : Bool) (m : Servo)
    → LoadFrame control p v a u f
    → is_set 7 control ≡ false
    → LoadStored control p v a u m (execute f alone m)

-- below 0 with bit 6, above without it
abbrev pub reversed : ℕ → ℕ → ℤ
reversed control x = cond (is_set 6 control) (neg_ℤ (pos x)) (pos x)

-- what an executed load with bit 7 has begun: bit 6 is the sign of PWM and of velocity mode, and a trapezoid ignores it
pub record LoadBegun (control : ℕ) (p v a : List ℕ) (u : ℕ) (m n : Servo) : Type 0 where
  pub used : n.settings.load.waits ≡ false
  pub rates : Rated control v a m.settings.rates n.settings.rates
  pub pwm : is_set 4 control ≡ false
      → is_set 3 control ≡ true
      → (n.run.drive.mode ≡ Pwm) × (n.run.drive.pulse ≡ reversed control u)
  pub speed : is_set 4 control ≡ true
      → is_set 5 control ≡ true
      → (n.run.drive.mode ≡ Velocity)
      × (n.run.profile.aim ≡ reversed control n.settings.rates.velocity)
      × (n.run.profile.acceleration ≡ n.settings.rates.acceleration)
  pub move : is_set 4 control ≡ true
      → is_set 5 control ≡ false
      → is_set 0 control ≡ true
      → (n.run.drive.mode ≡ Trapezoid)
      × (n.run.profile.goal ≡ of_le p)
      × (n.run.profile.top ≡ n.settings.rates.velocity)
      × (n.run.profile.acceleration ≡ n.settings.rates.acceleration)

-- A load with bit 7 that is executed runs at once, as its bytes say (01 Load Trajectory, Start).
abbrev pub LoadStarts : Type 0
LoadStarts =
    (control : ℕ) (p v a : List ℕ) (u : ℕ) (f : Frame) (alone : Bool) (m : Servo)
    → LoadFrame control p v a u f
    → is_set 7 control ≡ true
    → (execute f alone m).station.cause ≡ 0
    → LoadBegun control p v a u m (execute f alone m)

-- the bit of each kind of stop, and how many bytes stand behind the control byte
abbrev pub stop_bit : Halt → ℕ
stop_bit Keep = 0
stop_bit Release = 2
stop_bit Abrupt = 4
stop_bit Smooth = 8
stop_bit Here = 16

abbrev pub behind : Halt → ℕ
behind Keep = 0
behind Release = 0
behind Abrupt = 0
behind Smooth = 0
behind Here = 4

-- the data bytes of a stop: the amplifier in bit 0 and the kind's own bit, and the position of Stop Here
abbrev pub stop_bytes : Bool → Halt → List ℕ → List ℕ
stop_bytes amplifier halt x = (stop_bit halt + cond amplifier 1 0) ∷ x

-- what the data bytes of a Stop ask
abbrev pub stop_asks : List ℕ → Request Order
stop_asks ds = asking ds (stop_meant ds)

-- Such bytes are a Stop of this kind, and no others are one (01 Stop). Of the others the number is judged first, and by bit 4 alone: with it
-- four bytes stand behind the control byte, without it none; then the control byte is out of range (02 P1).
pub record StopBytes : Type 0 where
  pub taken : (amplifier : Bool) (halt : Halt) (x : List ℕ)
      → length x ≡ behind halt
      → stop_asks (stop_bytes amplifier halt x) ≡ wants (Stop amplifier halt (of_le x))
  pub others : (ds : List ℕ)
      → ((amplifier : Bool) (halt : Halt) (x : List ℕ) → length x ≡ behind halt → ds ≡ stop_bytes amplifier halt x → ⊥)
      → (stop_asks ds ≡ malformed Faults.Count) ⊎ (stop_asks ds ≡ malformed Faults.Value)
  pub none : stop_asks [] ≡ malformed Faults.Count
  pub here_count : (c : ℕ) (x : List ℕ) → is_set 4 c ≡ true → (length x ≡ 4 → ⊥) → stop_asks (c ∷ x) ≡ malformed Faults.Count
  pub here_value : (c : ℕ) (x : List ℕ) → is_set 4 c ≡ true → length x ≡ 4 → one_halt c ≡ false → stop_asks (c ∷ x) ≡ malformed Faults.Value
  pub other_count : (c : ℕ) (x : List ℕ) → is_set 4 c ≡ false → (length x ≡ 0 → ⊥) → stop_asks (c ∷ x) ≡ malformed Faults.Count
  pub other_value : (c : ℕ) → is_set 4 c ≡ false → one_halt c ≡ false → stop_asks (c ∷ []) ≡ malformed Faults.Value

-- the data bytes of Set Gain: Kp, Kd, Ki, IL, OL, CL, EL, then SR 1, DB 0 and SM
abbrev pub gain_bytes : List ℕ → List ℕ → List ℕ → List ℕ → ℕ → ℕ → List ℕ → ℕ → List ℕ
gain_bytes kp kd ki il ol cl el sm = kp ++ kd ++ ki ++ il ++ ol ∷ cl ∷ [] ++ el ++ 1 ∷ 0 ∷ sm ∷ []

-- an undamaged Set Gain of these bytes, with its values in range
pub record GainFrame (kp kd ki il : List ℕ) (ol cl : ℕ) (el : List ℕ) (sm : ℕ) (f : Frame) : Type 0 where
  pub sound : f.damaged ≡ false
  pub code : f.code ≡ 6
  pub content : f.content ≡ gain_bytes kp kd ki il ol cl el sm
  pub proportional : (length kp ≡ 2) × (of_le kp ≤ 32767)
  pub derivative : (length kd ≡ 2) × (of_le kd ≤ 32767)
  pub integral : (length ki ≡ 2) × (of_le ki ≤ 32767)
  pub limit : (length il ≡ 2) × (of_le il ≤ 32767)
  pub error : (length el ≡ 2) × (of_le el ≤ 16383)

-- Set Gain stores what its bytes say, at any servo (01 Set Gain).
abbrev pub GainBytes : Type 0
GainBytes =
    (kp kd ki il : List ℕ) (ol cl : ℕ) (el : List ℕ) (sm : ℕ) (f : Frame) (alone : Bool) (m : Servo)
    → GainFrame kp kd ki il ol cl el sm f
    → ((execute f alone m).station.cause ≡ 0)
    × ((execute f alone m).settings.tuning
    ≡ record { gains = record { kp = of_le kp; kd = of_le kd; ki = of_le ki; il = of_le il; ol = ol; el = of_le el }; cl = cl; sm = sm })
