-- Demand 1 over any module type t: a module at rest sets out by a start of a load alone. A type hands in what is at rest, what starts a load, and the
-- laws of `SettingOut`; the rest is said and proved once, in proofs/ under each promise's name with small letters. (Of a servo: Motion.antt.)
use Rattle.std.specs.Prelude.{◌≡◌, ◌⊎◌, ℕ, List, ◌∷◌, ◌++◌, Bool, true, false, eqb, Some}
use Rattle.line_receiver.specs.Receive.{taken}
use Rattle.line_receiver.specs.Frames.{Byte, Frame, frame_in}
use Rattle.module_rules.specs.Touch.{individually}
use Rattle.module_rules.specs.Rules.{execute}
use Rattle.chain_rules.specs.Chain.{Net, addresses, touched}
use Rattle.types_rules.specs.Table.{ModuleType, Of, SampleOf, rules_of, slots_of}
use Rattle.types_rules.specs.Types.{Module, kind, slots}
use Rattle.net_rules.specs.Record.{net_in}
use Rattle.net_rules.specs.Calls.{byte_of}
use Rattle.api_rules.specs.Table.{setup_table, byte_table}
use Rattle.api_rules.specs.Calls.{setup_record}
use Rattle.api_rules.specs.Promises.{Passes, ValidRecord}
use Rattle.demands_history_rules.specs.Calls.{Call, byte, tick, AllHanded, left_by}
use Rattle.demands_rules.specs.Place.{AtOf}

module _ (t : ModuleType) where
  -- a byte ended an undamaged frame that touched place i, and at the module there it was such a start
  pub record LineStarts (Such : Frame → Bool → Of t → Type 0) (n : Net Module) (b : Byte) (i : ℕ) (m : Of t) : Type 0 where
    pub ended : (taken n.receiver b.value b.mark).answer ≡ Some false
    pub touches : touched true n.receiver.address (addresses kind n.modules) i ≡ true
    pub starts : Such (frame_in n.receiver false) (individually n.receiver.address ((rules_of t).station m).address) m

  -- a call that is not refused hands over such a byte: no other call starts anything
  abbrev pub CallStarts : (Frame → Bool → Of t → Type 0) → List ℕ → ℕ → Of t → Call → Type 0
  CallStarts Such net i m (byte mark x room) = Passes (byte_table net mark room) × LineStarts Such (net_in slots net) (byte_of x (eqb mark 1)) i m
  CallStarts Such net i m (tick samples) = ⊥

  -- one of the calls was such a start at the module at place i
  pub record StartedBy (Such : Frame → Bool → Of t → Type 0) (cs : List Call) (net : List ℕ) (i : ℕ) : Type 0 where
    pub before : List Call
    pub call : Call
    pub later : List Call
    pub stood : Of t
    pub split : cs ≡ before ++ call ∷ later
    pub here : AtOf t (left_by before net) i stood
    pub starts : CallStarts Such (left_by before net) i stood call

  module _ (Rests : Of t → Type 0) (Starts : Frame → Bool → Of t → Type 0) where
    -- What a type hands in: a start is an undamaged frame; a module at rest that a frame meets is started by it or stays at rest, and a tick leaves
    -- it at rest, whatever sample it has; at power-up it is at rest.
    pub record SettingOut : Type 0 where
      pub undamaged : (f : Frame) (alone : Bool) (m : Of t) → Starts f alone m → f.damaged ≡ false
      pub frame : (f : Frame) (alone : Bool) (m : Of t) → (slots_of t).fits m → Rests m → Starts f alone m ⊎ Rests (execute (rules_of t) f alone m)
      pub tick : (x : SampleOf t) (m : Of t) → (slots_of t).fits m → Rests m → Rests ((rules_of t).tick x m)
      pub power : Rests (rules_of t).started

    -- Never otherwise: a module that was at rest and, after any calls, is not, had a load started by one of them.
    abbrev pub Never : Type 0
    Never =
        (net : List ℕ) (cs : List Call) (i : ℕ) (m k : Of t)
        → ValidRecord net → AllHanded cs → AtOf t net i m → AtOf t (left_by cs net) i k
        → Rests m → (Rests k → ⊥) → StartedBy Starts cs net i

    -- So it is from setup on: after it every module is at rest.
    abbrev pub NeverFromSetup : Type 0
    NeverFromSetup =
        (net types : List ℕ) (cs : List Call) (i : ℕ) (k : Of t)
        → Passes (setup_table net types) → AllHanded cs → AtOf t (left_by cs (setup_record net types)) i k
        → (Rests k → ⊥) → StartedBy Starts cs (setup_record net types) i
