-- Demand 1 of a step-motor module (document 02, P3): it sets out by a start of a complete load alone, and the stop input ends its motion. Each promise
-- is proved under its name, with small letters, in proofs/.
use Rattle.std.specs.Prelude.{◌≡◌, ℕ, suc, List, Bool, true, false, length, drop}
use Rattle.base_layout.specs.Bytes.{Bytes}
use Rattle.line_receiver.specs.Frames.{Frame}
use Rattle.module_rules.specs.Rules.{wants}
use Rattle.stepper_rules.specs.declared.Order.{Order}
use Rattle.stepper_rules.specs.declared.Order.TheVariants.{LoadTrajectory, Start}
use Rattle.stepper_rules.specs.declared.Sample.{Sample}
use Rattle.stepper_rules.specs.declared.Stepper.{Stepper}
use Rattle.stepper_rules.specs.Carried.{needed, carried_in}
use Rattle.stepper_rules.specs.State.{rest}
use Rattle.stepper_rules.specs.Perform.{loaded}
use Rattle.stepper_rules.specs.Answers.{request, execute}
use Rattle.stepper_rules.specs.FramePromises.{Startable}
use Rattle.types_rules.specs.Table.{stepper}
use Rattle.api_rules.specs.Table.{setup_table}
use Rattle.api_rules.specs.Calls.{setup_record}
use Rattle.api_rules.specs.Promises.{Passes, ValidRecord}
use Rattle.demands_history_rules.specs.Calls.{Call, tick, Handed, AllHanded, leaves, left_by}
use Rattle.demands_rules.specs.Place.{AtOf, after, Stands, Ticked}
use Rattle.demands_rules.specs.Loaded.{control, Has}
use Rattle.demands_rules.specs.SettingOut as AnyType
use Rattle.demands_rules.specs.Buffers as Buffers

-- 02 P3: motion is a speed other than 0
abbrev pub Rests : Stepper → Type 0
Rests m = m.motion.speed ≡ 0

abbrev pub Moves : Stepper → Type 0
Moves m = m.motion.speed ≡ 0 → ⊥

-- an undamaged frame with this code and this many data bytes asks for this order
pub record Asks (f : Frame) (alone : Bool) (code count : ℕ) (c : Order) : Type 0 where
  pub undamaged : f.damaged ≡ false
  pub named : f.code ≡ code
  pub whole : length f.content ≡ count
  pub order : request f alone ≡ wants c

-- 02 P3: the two ways to start, both with Set Parameters done and in the direction of what moves: a Start where a load waits that carries speed and
-- acceleration time; a Load with bit 7, start now, of as many bytes as its control byte asks for, that carries both itself.
pub data Starts (f : Frame) (alone : Bool) (m : Stepper) : Type 0 where
  by_start : Asks f alone 5 0 Start → Startable m → Starts f alone m
  by_load : Asks f alone 4 (needed (control f)) (LoadTrajectory (carried_in f.content)) → Has 7 f
      → Startable (loaded (carried_in f.content) m) → Starts f alone m

-- Both are executed: the cause after it is 0.
abbrev pub StartsAreExecuted : Type 0
StartsAreExecuted = (f : Frame) (alone : Bool) (m : Stepper) → Starts f alone m → (execute f alone m).station.cause ≡ 0

-- Every call, with the module m at place i before it and k after it. What takes it from rest to motion is the last byte of such a start; a tick,
-- which is no command, never does, whatever list it takes; after setup every step-motor module is at rest.
pub record EveryCall : Type 0 where
  pub command : (net : List ℕ) (c : Call) (i : ℕ) (m k : Stepper)
      → Handed c → ValidRecord net → AtOf stepper net i m → AtOf stepper (leaves net c) i k
      → Rests m → Moves k → AnyType.CallStarts stepper Starts net i m c
  pub tick : (net samples : List ℕ) (i : ℕ) (m k : Stepper)
      → Bytes samples → ValidRecord net → AtOf stepper net i m → AtOf stepper (leaves net (tick samples)) i k → Rests m → Rests k
  pub setup : (net types : List ℕ) (i : ℕ) (k : Stepper) → Passes (setup_table net types) → AtOf stepper (setup_record net types) i k → Rests k

-- Never otherwise: a module that was at rest and, after any calls, moves, had a load started by one of them; and so it is from setup on. (Which,
-- Sent.antt says.)
abbrev pub Never : Type 0
Never = AnyType.Never stepper Rests Starts

abbrev pub NeverFromSetup : Type 0
NeverFromSetup = AnyType.NeverFromSetup stepper Rests Starts

-- So it is where a board hands over buffers (02 P2).
abbrev pub NeverInBuffers : Type 0
NeverInBuffers = Buffers.NeverInBuffers stepper Rests Starts

-- 02 P3: at input 1 the tick ends the motion; and if after later calls the module moves, one of the calls after that tick was a start.
abbrev pub StopInputEnds : Type 0
StopInputEnds =
    (net : List ℕ) (cs : List Call) (i n : ℕ) (x : Sample) (m : Stepper)
    → ValidRecord net → AllHanded cs → Ticked stepper net cs i n x → x.stop ≡ true → Stands stepper net cs i (suc n) m
    → (m.motion ≡ rest)
    × ((k : Stepper) → AtOf stepper (left_by cs net) i k → Moves k → AnyType.StartedBy stepper Starts (drop (suc n) cs) (after net cs i (suc n)) i)
