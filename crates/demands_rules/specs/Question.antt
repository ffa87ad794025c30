-- The mill's question: "If the scanner sends a short load and the Start comes through, does the spindle carriage go anyway?" Asked of any module type t
-- that has loads, code 4, and a Start, code 5. A type hands in how many data bytes a Load has by its control byte (needed), when no complete load waits
-- (NoneReady) and when none waits at all (NoLoad), and the laws of `Loading`; each promise is then proved under its name, with small letters, in
-- proofs/. (Of a servo: ServoQuestion.antt.)
use Rattle.std.specs.Prelude.{◌≡◌, ℕ, suc, ◌<◌, ◌≤◌, List, ◌++◌, map, Bool, true, false, cond, length, get_or, take}
use Rattle.line_receiver.specs.Receive.{idle}
use Rattle.line_receiver.specs.Frames.{Byte, Frame, values, AreBytes}
use Rattle.module_rules.specs.declared.Fault.TheVariants.{Count}
use Rattle.module_rules.specs.Rules.{malformed, wants, with_cause, request, execute}
use Rattle.chain_rules.specs.Chain.{addresses, touched}
use Rattle.types_rules.specs.Table.{ModuleType, Of, SampleOf, CommandOf, rules_of}
use Rattle.types_rules.specs.Types.{kind, slots}
use Rattle.net_rules.specs.Record.{net_in, room_size}
use Rattle.api_rules.specs.Promises.{ValidRecord}
use Rattle.demands_history_rules.specs.Events.{Reads}
use Rattle.demands_history_rules.specs.Calls.{Call, byte, AllHanded, left_by}
use Rattle.demands_rules.specs.Place.{AtOf, Stands, Touched, through_time}

-- an undamaged Start: code 5, no data
abbrev pub IsStart : Frame → Type 0
IsStart f = (f.damaged ≡ false) × (f.code ≡ 5) × (length f.content ≡ 0)

-- the byte call with each of these bytes and marks
abbrev pub fed : List ℕ → List Byte → List Call
fed room = map (λ (b : Byte). byte (cond b.mark 1 0) b.value room)

-- the ways to miss a load: it was for another module, it came damaged, or it has not as many data bytes as its control byte asks for
module _ (needed : ℕ → ℕ) where
  pub data Missed (reached : Bool) (load : Frame) : Type 0 where
    elsewhere : reached ≡ false → Missed reached load
    damaged : load.damaged ≡ true → Missed reached load
    short : load.code ≡ 4 → (length load.content ≡ needed (get_or load.content 0 0) → ⊥) → Missed reached load

module _ (t : ModuleType) (needed : ℕ → ℕ) where
  -- what a missed load leaves at a module that it reached: damaged the cause 1, short the cause 2 of a wrong count, and all else as it was
  pub record Tells (load : Frame) (alone : Bool) (m : Of t) : Type 0 where
    pub damaged : load.damaged ≡ true → execute (rules_of t) load alone m ≡ with_cause (rules_of t) 1 m
    pub short : load.damaged ≡ false → load.code ≡ 4 → (length load.content ≡ needed (get_or load.content 0 0) → ⊥)
        → execute (rules_of t) load alone m ≡ with_cause (rules_of t) 2 m

  abbrev pub MissedTells : Type 0
  MissedTells = (load : Frame) (alone : Bool) (m : Of t) → Tells load alone m

  -- It does not: after the missed load and the Start the module is in every part what it was, and its cause is 3.
  abbrev pub Question : (Of t → Type 0) → Type 0
  Question NoneReady =
      (m : Of t) (load start : Frame) (reached alone apart : Bool)
      → Missed needed reached load → NoneReady m → IsStart start
      → execute (rules_of t) start apart (cond reached (execute (rules_of t) load alone m) m) ≡ with_cause (rules_of t) 3 m

  -- The same on the line, at any place of any valid record, through the exported call: the bytes of a Load that the module misses in any of the
  -- three ways, then those of a Start for it.
  abbrev pub QuestionOnTheLine : (Of t → Type 0) → Type 0
  QuestionOnTheLine NoneReady =
      (net room : List ℕ) (i : ℕ) (m : Of t) (load_bytes start_bytes : List Byte) (load start : Frame)
      → ValidRecord net → room_size ≤ length room → AreBytes (values (load_bytes ++ start_bytes))
      → (net_in slots net).receiver ≡ idle → AtOf t net i m → NoneReady m
      → Reads load_bytes load → load.code ≡ 4
      → Missed needed (touched true load.address (addresses kind (net_in slots net).modules) i) load
      → Reads start_bytes start → IsStart start
      → touched true start.address (addresses kind (net_in slots net).modules) i ≡ true
      → AtOf t (left_by (fed room (load_bytes ++ start_bytes)) net) i (with_cause (rules_of t) 3 m)

  -- The same in any time: through any calls in which each frame that touches the module before the Start is such a missed load, whatever ticks and
  -- frames for others come in between, and between the bytes of each. With no load waiting before, the Start is 3, and the module is but for
  -- that what the ticks alone, with their samples, make of it.
  abbrev pub QuestionInTime : (Of t → Type 0) → Type 0
  QuestionInTime NoLoad =
      (net : List ℕ) (cs : List Call) (i n : ℕ) (m : Of t) (start : Frame)
      → ValidRecord net → AllHanded cs → AtOf t net i m → NoLoad m
      → Touched net cs i n start → IsStart start
      → ((j : ℕ) (load : Frame) → j < n → Touched net cs i j load → Missed needed true load)
      → Stands t net cs i (suc n) (with_cause (rules_of t) 3 (through_time t net i (take n cs) m))

  -- What a type hands in: its Start; a Load of another count than its control byte asks for has a wrong count, and code 5 without data asks for the
  -- Start; without a complete load the Start can't be carried out; where none waits none is complete, and a tick brings none.
  pub record Loading (NoneReady NoLoad : Of t → Type 0) : Type 0 where
    pub start : CommandOf t
    pub miscounted : (f : Frame) (alone : Bool) → f.code ≡ 4 → (length f.content ≡ needed (get_or f.content 0 0) → ⊥) → request (rules_of t) f alone ≡ malformed Count
    pub asks : (f : Frame) (alone : Bool) → f.code ≡ 5 → length f.content ≡ 0 → request (rules_of t) f alone ≡ wants start
    pub unready : (m : Of t) → NoneReady m → (rules_of t).can start m ≡ false
    pub none : (m : Of t) → NoLoad m → NoneReady m
    pub tick : (x : SampleOf t) (m : Of t) → NoLoad m → NoLoad ((rules_of t).tick x m)
