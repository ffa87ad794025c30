-- Through a power dip (document 02, P4): the enable lines come back as they were, and after low power nothing moves until a start. Each promise is
-- proved under its name, with small letters, in proofs/.
use Rattle.std.specs.Prelude.{◌≡◌, ◌⊎◌, ℕ, ◌<◌, ◌≤◌, List, [], ◌∷◌, ◌++◌, Bool, true, false, length, take, replicate}
use Rattle.base_integers.specs.Bits.{is_set}
use Rattle.line_receiver.specs.Frames.{Frame, clean, written}
use Rattle.servo_motion.specs.Setpoint.{whole}
use Rattle.servo_rules.specs.declared.Halt.TheVariants.{Abrupt}
use Rattle.servo_rules.specs.declared.Servo.{Servo}
use Rattle.servo_rules.specs.Answers.{type_number, enable_line}
use Rattle.servo_rules.specs.StopPromises.{Released}
use Rattle.servo_rules.specs.TickPromises.{Switches}
use Rattle.servo_rules.specs.RestPromises.{Resting, TurnsOn}
use Rattle.types_rules.specs.Table.{servo}
use Rattle.types_rules.specs.Types.{AnySample, kind}
use Rattle.net_rules.specs.Calls.{set_up, outputs_at}
use Rattle.base_layout.specs.Bytes.{Bytes}
use Rattle.api_rules.specs.Table.{setup_table, tick_table}
use Rattle.api_rules.specs.Calls.{setup_record}
use Rattle.api_rules.specs.Promises.{Passes, ValidRecord}
use Rattle.demands_history_rules.specs.Events.{Event, sent, ticked, run}
use Rattle.demands_history_rules.specs.Calls.{Call, tick, AllHanded, leaves, left_by}
use Rattle.demands_rules.specs.Motion.{AtRest, StartedBy}
use Rattle.demands_rules.specs.ServoPlace.{At, servo_sample_at, Stands, Executed, Homed, None}
use Rattle.demands_rules.specs.Loaded.{control}
use Rattle.demands_rules.specs.Sent.{encoder}
use Rattle.demands_rules.specs.Meaning.{gives, Holds}

-- from m to k the enable line has come back: with power 1 latched before and after it is what it was, and with any other power it is low
pub record Returns (m k : Servo) : Type 0 where
  pub bit : k.run.drive.amplifier ≡ m.run.drive.amplifier
  pub back : m.latched.power ≡ 1 → k.latched.power ≡ 1 → enable_line k ≡ enable_line m
  pub down : (k.latched.power ≡ 1 → ⊥) → enable_line k ≡ 0

-- So it does through any calls in which no Stop and no Hard Reset is executed at place i, whatever powers the ticks find there: one dip or many,
-- to low or to high power, with any frames for others, polls, loads and starts in between.
abbrev pub ComesBack : Type 0
ComesBack =
    (net : List ℕ) (cs : List Call) (i : ℕ) (m k : Servo)
    → ValidRecord net → AllHanded cs → At net i m → At (left_by cs net) i k
    → ((j : ℕ) (f : Frame) → Executed net cs i j f → Switches f → ⊥)
    → Returns m k

-- 02 P8: homing's abrupt stop acted in one of these calls, and the servo is at rest since, with its setpoint at the encoder's count of that very tick
pub record HeldByHoming (net : List ℕ) (cs : List Call) (i : ℕ) (k : Servo) : Type 0 where
  pub by : ℕ
  pub homed : Homed net cs i Abrupt by
  pub rests : Resting k
  pub place : encoder k (whole k.run.profile.setpoint) ≡ homed.sample.raw

-- After a tick that finds power 0 at place i, through any calls cs, whatever powers their ticks find: the servo is off and drives nothing until a
-- frame is executed here that turns it on, so with none in the dip it is off after it, or held where it was by homing's abrupt stop (02 P8); and it is
-- at rest until a load is started.
abbrev pub OffUntilStarted : Type 0
OffUntilStarted =
    (net samples : List ℕ) (cs : List Call) (i : ℕ) (m k : Servo)
    → ValidRecord net → Bytes samples → AllHanded cs → At net i m
    → Passes (tick_table net samples) → (servo_sample_at samples i).power ≡ 0 → At (left_by cs (leaves net (tick samples))) i k
    → (((j : ℕ) (f : Frame) → Executed (leaves net (tick samples)) cs i j f → TurnsOn f → ⊥)
    → Released k.run ⊎ HeldByHoming (leaves net (tick samples)) cs i k)
    × ((AtRest k → ⊥) → StartedBy cs (leaves net (tick samples)) i)

module _ (net : List ℕ) (cs : List Call) (i : ℕ) where
  -- call j is the last of the first n that executed a Stop or a Hard Reset here, and it executed f
  pub record LastSwitch (n j : ℕ) (f : Frame) : Type 0 where
    pub earlier : j < n
    pub executed : Executed net cs i j f
    pub last : None net cs i Switches j n

  -- what the host has switched at place i by the first n calls: nothing yet; bit 0 of its last Stop; off by its last Hard Reset
  pub data Switched (n : ℕ) : Bool → Type 0 where
    not_yet : ((j : ℕ) (f : Frame) → j < n → Executed net cs i j f → Switches f → ⊥) → Switched n false
    by_stop : (j : ℕ) (f : Frame) → LastSwitch n j f → f.code ≡ 7 → Switched n (is_set 0 (control f))
    by_reset : (j : ℕ) (f : Frame) → LastSwitch n j f → f.code ≡ 15 → Switched n false

-- the line of a servo where the host has switched a
pub record LineOf (a : Bool) (k : Servo) : Type 0 where
  pub high : a ≡ true → k.latched.power ≡ 1 → enable_line k ≡ 1
  pub low : (a ≡ false) ⊎ (k.latched.power ≡ 1 → ⊥) → enable_line k ≡ 0

-- From setup, through any calls, dips among them: the enable line is what the host switched last, and power 1.
abbrev pub EnabledWasSent : Type 0
EnabledWasSent =
    (net types : List ℕ) (cs : List Call) (i n : ℕ) (k : Servo) → Passes (setup_table net types) → AllHanded cs → n ≤ length cs
    → Stands (setup_record net types) cs i n k
    → (a : Bool) × Switched (setup_record net types) cs i n a × LineOf a k

-- ---- dips by the tick, computed

abbrev pub History : Type 0
History = List (Event (List AnySample))

-- the bytes of a frame for a servo alone on the line, and a tick that finds this power, at this count or at 0
abbrev pub sending : ℕ → List ℕ → History
sending code ds = sent (clean (written 0 code ds)) ∷ []

abbrev pub tick_at_count : ℕ → ℕ → History
tick_at_count power raw = ticked ((servo, record { raw = raw; power = power; ad = 0; inputs = 0 }) ∷ []) ∷ []

abbrev pub tick_at : ℕ → History
tick_at power = tick_at_count power 0

-- the amplifier switched on, or off, and PWM 100 started; Set Gain with OL 255
abbrev pub switched_on : History
switched_on = sending 7 (1 ∷ [])

abbrev pub switched_off : History
switched_off = sending 7 (0 ∷ [])

abbrev pub pulsing : History
pulsing = sending 4 (0x88 ∷ 100 ∷ [])

abbrev pub limited : History
limited = sending 6 (replicate 8 0 ++ 255 ∷ 0 ∷ 0 ∷ 0 ∷ 1 ∷ 0 ∷ 1 ∷ [])

-- so a servo drives its motor: from power-up with power 1, Clear Bits, and these three
abbrev pub driving : History
driving = tick_at 1 ++ sending 11 [] ++ limited ++ switched_on ++ pulsing ++ tick_at 1

-- what the board drives after a history: the output's size, 1 if it is below 0, the enable line
abbrev pub driven_after : History → List ℕ
driven_after h = take 3 (outputs_at (run kind h (set_up (type_number ∷ []))).net 0)

-- It drives; at low power nothing; the line comes back with power, through any dip, and the motor by a new start alone; at high power nothing, and
-- then line and motor come back. What is switched in a dip shows after it, and Hard Reset switches off.
abbrev pub Dips : Type 0
Dips = Holds (
    gives (driven_after driving) (100 ∷ 0 ∷ 1 ∷ [])
    ∷ gives (driven_after (driving ++ tick_at 0)) (0 ∷ 0 ∷ 0 ∷ [])
    ∷ gives (driven_after (driving ++ tick_at 0 ++ tick_at 1)) (0 ∷ 0 ∷ 1 ∷ [])
    ∷ gives (driven_after (driving ++ tick_at 2 ++ tick_at 0 ++ tick_at 0 ++ tick_at 2 ++ tick_at 1 ++ tick_at 1)) (0 ∷ 0 ∷ 1 ∷ [])
    ∷ gives (driven_after (driving ++ tick_at 0 ++ tick_at 1 ++ pulsing ++ tick_at 1)) (100 ∷ 0 ∷ 1 ∷ [])
    ∷ gives (driven_after (driving ++ tick_at 2)) (0 ∷ 0 ∷ 0 ∷ [])
    ∷ gives (driven_after (driving ++ tick_at 2 ++ tick_at 1)) (100 ∷ 0 ∷ 1 ∷ [])
    ∷ gives (driven_after (driving ++ tick_at 0 ++ switched_off ++ tick_at 1)) (0 ∷ 0 ∷ 0 ∷ [])
    ∷ gives (driven_after (tick_at 0 ++ switched_on ++ tick_at 0 ++ tick_at 1)) (0 ∷ 0 ∷ 1 ∷ [])
    ∷ gives (driven_after (driving ++ tick_at 0 ++ sending 15 [] ++ tick_at 1)) (0 ∷ 0 ∷ 0 ∷ [])
    ∷ [])
