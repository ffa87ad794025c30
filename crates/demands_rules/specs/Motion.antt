-- Demand 1: any calls do no harm; only a complete load or a complete Stop Here starts motion. Each promise is proved under its name in proofs/.
use Rattle.std.specs.Prelude.{◌≡◌, ◌⊎◌, ℕ, List, ◌∷◌, ◌++◌, Bool, true, false, pos, length, get_or}
use Rattle.base_layout.specs.Bytes.{Bytes}
use Rattle.line_receiver.specs.Frames.{Frame}
use Rattle.module_rules.specs.Rules.{wants}
use Rattle.module_rules.specs.Promises.{Cause, CauseTested}
use Rattle.chain_rules.specs.Chain.{flat}
use Rattle.servo_motion.specs.Profile.{left}
use Rattle.servo_rules.specs.declared.Carried.{Carried}
use Rattle.servo_rules.specs.declared.Halt.TheVariants.{Abrupt, Here}
use Rattle.servo_rules.specs.declared.Order.{Order}
use Rattle.servo_rules.specs.declared.Order.TheVariants.{LoadTrajectory, Start, Stop}
use Rattle.servo_rules.specs.declared.Mode.TheVariants.{Velocity, Trapezoid}
use Rattle.servo_rules.specs.declared.Servo.{Servo}
use Rattle.servo_rules.specs.Carried.{needed}
use Rattle.servo_rules.specs.State.{servo_off}
use Rattle.servo_rules.specs.Loads.{loaded, starts_now}
use Rattle.servo_rules.specs.Answers.{request, execute}
use Rattle.servo_rules.specs.LoadPromises.{Ready, Startable}
use Rattle.servo_rules.specs.RestPromises.{following}
use Rattle.servo_rules.specs.HomingPromises.{Acts, HeldHere}
use Rattle.types_rules.specs.Table.{ModuleType, servo, rules_of}
use Rattle.types_rules.specs.Types.{kind, slots}
use Rattle.net_rules.specs.Record.{net_in, stored}
use Rattle.net_rules.specs.Calls.{set_up}
use Rattle.api_rules.specs.Table.{setup_table}
use Rattle.api_rules.specs.Calls.{setup_record}
use Rattle.api_rules.specs.Promises.{Passes, Refuses, ValidRecord}
use Rattle.demands_history_rules.specs.Events.{run}
use Rattle.demands_history_rules.specs.Calls.{Call, tick, Handed, AllHanded, refusals, leaves, left_by, written_by, done_by}
use Rattle.demands_rules.specs.ServoPlace.{At, servo_sample_at}
use Rattle.demands_rules.specs.SettingOut as AnyType

-- Setup, unless it is refused, leaves a valid record of the modules at power-up, whatever was lent.
abbrev pub FromSetup : Type 0
FromSetup =
    (net types : List ℕ) → Passes (setup_table net types)
    → ValidRecord (setup_record net types) × (net_in slots (setup_record net types) ≡ set_up types)

-- the record is valid, it holds what the calls that were not refused make of the network, every byte that holds nothing of a network is as it was
-- lent, and the bytes written are its replies
pub record Through (net : List ℕ) (cs : List Call) : Type 0 where
  pub valid : ValidRecord (left_by cs net)
  pub network : net_in slots (left_by cs net) ≡ (run kind (done_by cs net) (net_in slots net)).net
  pub bytes : left_by cs net ≡ stored slots (run kind (done_by cs net) (net_in slots net)).net net
  pub replies : written_by cs net ≡ flat (run kind (done_by cs net) (net_in slots net)).replies

-- So it is after any bytes and any ticks with any lists of samples, in any order, from any valid record.
abbrev pub AnyCalls : Type 0
AnyCalls = (net : List ℕ) (cs : List Call) → ValidRecord net → AllHanded cs → Through net cs

-- A refused call is no step: without it the same record is left and the same bytes are written.
abbrev pub RefusedIsNoStep : Type 0
RefusedIsNoStep =
    (net : List ℕ) (before later : List Call) (c : Call) → Refuses (refusals (left_by before net) c)
    → (left_by (before ++ c ∷ later) net ≡ left_by (before ++ later) net)
    × (written_by (before ++ c ∷ later) net ≡ written_by (before ++ later) net)

-- A module of any type that can't carry out a frame keeps everything but its cause: 1, 4, 2, 5 or 3, tested in this order.
abbrev pub OnlyTheCause : Type 0
OnlyTheCause = (t : ModuleType) → Cause (rules_of t) × CauseTested (rules_of t)

-- Motion: a speed or a PWM value other than 0.
abbrev pub Moves : Servo → Type 0
Moves m = (m.run.profile.speed ≡ pos 0 → ⊥) ⊎ (m.run.drive.pulse ≡ pos 0 → ⊥)

-- On the way to motion: velocity mode with a goal speed other than 0, or a trapezoid with a distance left other than 0.
abbrev pub Bound : Servo → Type 0
Bound m =
    ((m.run.drive.mode ≡ Velocity) × (m.run.profile.aim ≡ pos 0 → ⊥))
    ⊎ ((m.run.drive.mode ≡ Trapezoid) × (left m.run.profile ≡ pos 0 → ⊥))

abbrev pub AtRest : Servo → Type 0
AtRest m = (Moves m → ⊥) × (Bound m → ⊥)

-- A servo sets out: a speed or a PWM value where there was none, or a goal where there was none.
pub data SetsOut (before after : Servo) : Type 0 where
  moving : (Moves before → ⊥) → Moves after → SetsOut before after
  bound : (Bound before → ⊥) → Bound after → SetsOut before after

-- What begins motion between two records of a servo: it sets out, or its setpoint is put elsewhere than at the position. The setpoint is put where
-- it is not as far from the position as it was, and wherever it is when the servo is turned on.
pub data Begins (before after : Servo) : Type 0 where
  out : SetsOut before after → Begins before after
  put : (following after ≡ following before → ⊥) → (following after ≡ pos 0 → ⊥) → Begins before after
  turned_on : servo_off before.run.drive.mode ≡ true → servo_off after.run.drive.mode ≡ false → (following after ≡ pos 0 → ⊥) → Begins before after

-- an undamaged frame with this code and this many data bytes asks for this order
pub record Asks (f : Frame) (alone : Bool) (code count : ℕ) (c : Order) : Type 0 where
  pub undamaged : f.damaged ≡ false
  pub named : f.code ≡ code
  pub whole : length f.content ≡ count
  pub order : request f alone ≡ wants c

-- The two ways to start a load, both with power 1 and a clear error bit: a Start where a complete load waits; a Load with start now, of as many
-- bytes as its control byte asks for, that is complete.
pub data LoadStarts (f : Frame) (alone : Bool) (m : Servo) : Type 0 where
  by_start : Asks f alone 5 0 Start → Startable m → LoadStarts f alone m
  by_load : (c : Carried) → Asks f alone 4 (needed (get_or f.content 0 0)) (LoadTrajectory c) → starts_now c ≡ true → Startable (loaded c m) → LoadStarts f alone m

-- The third way to start, likewise: a Stop Here of five bytes. It leaves the servo holding, so it is no reason for a speed, a PWM value or a goal.
pub data Starts (f : Frame) (alone : Bool) (m : Servo) : Type 0 where
  of_load : LoadStarts f alone m → Starts f alone m
  by_stop_here : (a : Bool) (x : ℕ) → Asks f alone 7 5 (Stop a Here x) → Ready m → Starts f alone m

-- Each of the three is executed: the cause after it is 0.
abbrev pub StartsAreExecuted : Type 0
StartsAreExecuted = (f : Frame) (alone : Bool) (m : Servo) → Starts f alone m → (execute f alone m).station.cause ≡ 0

-- a call that is not refused hands over the last byte of such a start of the servo m at place i
abbrev pub CallStarts : (Frame → Bool → Servo → Type 0) → List ℕ → ℕ → Servo → Call → Type 0
CallStarts = AnyType.CallStarts servo

-- Every call, with the servo m at place i before it and k after it. What begins motion is the last byte of one of the three, and what sets a
-- servo out is that of a load's start; a tick, which is no command, only goes on toward a goal that m had, and gives none, whatever list it
-- takes, and it turns a servo on only by homing's abrupt stop, at the position of that very tick (02 P8); after setup every servo is at rest.
pub record EveryCall : Type 0 where
  pub command : (net : List ℕ) (c : Call) (i : ℕ) (m k : Servo) → Handed c → ValidRecord net → At net i m → At (leaves net c) i k
      → ((samples : List ℕ) → c ≡ tick samples → ⊥) → (Begins m k → CallStarts Starts net i m c) × (SetsOut m k → CallStarts LoadStarts net i m c)
  pub tick : (net samples : List ℕ) (i : ℕ) (m k : Servo) → Bytes samples → ValidRecord net → At net i m → At (leaves net (tick samples)) i k
      → ((Moves m → ⊥) → Moves k → Bound m)
      × (Bound k → Bound m)
      × (servo_off m.run.drive.mode ≡ true → servo_off k.run.drive.mode ≡ false → Acts Abrupt (servo_sample_at samples i) m × HeldHere k)
  pub setup : (net types : List ℕ) (i : ℕ) (k : Servo) → Passes (setup_table net types) → At (setup_record net types) i k → AtRest k

-- one of the calls started a load of the servo at place i
abbrev pub StartedBy : List Call → List ℕ → ℕ → Type 0
StartedBy = AnyType.StartedBy servo LoadStarts

-- Never otherwise: a servo that was at rest and, after any calls, is not, had a load started by one of them; and so it is from setup on. (Which,
-- Sent.antt says.)
abbrev pub Never : Type 0
Never = AnyType.Never servo AtRest LoadStarts

abbrev pub NeverFromSetup : Type 0
NeverFromSetup = AnyType.NeverFromSetup servo AtRest LoadStarts
