-- One place of a record through any calls, whatever module type t stands there: the module after the first n of them, the frames that it executed, the
-- samples that ticks handed it, and what leaves it undisturbed. (Of a servo: ServoPlace.antt.)
use Rattle.std.specs.Prelude.{◌≡◌, ℕ, suc, ◌+◌, ◌<◌, ◌≤◌, List, [], ◌∷◌, true, false, take, eqb, Some}
use Rattle.std.proofs.Math.Option.{some}
use Rattle.std.proofs.Math.ListN.{get_elem?}
use Rattle.line_receiver.specs.Receive.{taken}
use Rattle.line_receiver.specs.Frames.{Frame, frame_in}
use Rattle.chain_rules.specs.Chain.{addresses, touched}
use Rattle.types_rules.specs.Table.{ModuleType, Of, SampleOf, rules_of}
use Rattle.types_rules.specs.Types.{kind, slots, sample_for}
use Rattle.net_rules.specs.Record.{net_in}
use Rattle.net_rules.specs.Calls.{ten_at}
use Rattle.api_rules.specs.Table.{byte_table, tick_table}
use Rattle.api_rules.specs.Calls.{unless}
use Rattle.api_rules.specs.Promises.{Passes}
use Rattle.demands_history_rules.specs.Calls.{Call, byte, tick, leaves, left_by}

module _ (t : ModuleType) where
  -- the module m of type t is at place i of the network that a record holds
  abbrev pub AtOf : List ℕ → ℕ → Of t → Type 0
  AtOf net i m = get_elem? (net_in slots net).modules i ≡ some (t, m)

  -- 02 P11: the sample that a tick's list has for a module of type t at place i
  abbrev pub sample_at : List ℕ → ℕ → SampleOf t
  sample_at samples i = sample_for t (ten_at samples i)

module _ (net : List ℕ) (cs : List Call) (i : ℕ) where
  -- the record after the first n calls
  abbrev pub after : ℕ → List ℕ
  after n = left_by (take n cs) net

  -- call n ended the frame f, damaged or not, which touched place i
  pub record Touched (n : ℕ) (f : Frame) : Type 0 where
    pub mark : ℕ
    pub value : ℕ
    pub room : List ℕ
    pub call : get_elem? cs n ≡ some (byte mark value room)
    pub done : Passes (byte_table (after n) mark room)
    pub ended : (taken (net_in slots (after n)).receiver value (eqb mark 1)).answer ≡ Some f.damaged
    pub frame : f ≡ frame_in (net_in slots (after n)).receiver f.damaged
    pub touches : touched true f.address (addresses kind (net_in slots (after n)).modules) i ≡ true

module _ (t : ModuleType) (net : List ℕ) (cs : List Call) (i : ℕ) where
  -- the module at place i after the first n calls
  abbrev pub Stands : ℕ → Of t → Type 0
  Stands n m = AtOf t (after net cs i n) i m

  -- call n ended the undamaged frame f, and the module there executed it: its cause afterwards is 0
  pub record Executed (n : ℕ) (f : Frame) : Type 0 where
    pub met : Touched net cs i n f
    pub undamaged : f.damaged ≡ false
    pub cause : (m : Of t) → Stands (suc n) m → ((rules_of t).station m).cause ≡ 0

  -- call n was a tick that was done, and handed the module at place i the sample x
  pub record Ticked (n : ℕ) (x : SampleOf t) : Type 0 where
    pub samples : List ℕ
    pub call : get_elem? cs n ≡ some (tick samples)
    pub done : Passes (tick_table (after net cs i n) samples)
    pub own : x ≡ sample_at t samples i

  -- no frame such as P was executed here by a call after call a and before call b
  abbrev pub None : (Frame → Type 0) → ℕ → ℕ → Type 0
  None P a b = (j : ℕ) (f : Frame) → a < j → j < b → Executed j f → P f → ⊥

  -- after every call from call a on, up to the first n, the module is such as P
  abbrev pub Since : ℕ → ℕ → (Of t → Type 0) → Type 0
  Since a n P = (j : ℕ) (m : Of t) → a < j → j ≤ n → Stands j m → P m

-- what the ticks among calls make of the module m at place i, each with its own sample; a refused one makes nothing
abbrev pub in_time : (t : ModuleType) → List ℕ → ℕ → Call → Of t → Of t
in_time t net i (byte mark x room) m = m
in_time t net i (tick samples) m = unless (tick_table net samples) m ((rules_of t).tick (sample_at t samples i) m)

abbrev pub through_time : (t : ModuleType) → List ℕ → ℕ → List Call → Of t → Of t
through_time t net i [] m = m
through_time t net i (c ∷ cs) m = through_time t (leaves net c) i cs (in_time t net i c m)

-- how many ticks a call makes of a record, and how many a list of calls does: a refused tick is none (02 P11)
abbrev pub ticks_of : List ℕ → Call → ℕ
ticks_of net (byte mark x room) = 0
ticks_of net (tick samples) = unless (tick_table net samples) 0 1

abbrev pub ticks_in : List ℕ → List Call → ℕ
ticks_in net [] = 0
ticks_in net (c ∷ cs) = ticks_of net c + ticks_in (leaves net c) cs

-- Undisturbed: through these calls no frame such as D is executed at place i, and at each tick the sample that it hands the module there, and that
-- module, are such as G. Frames of other kinds, frames that are refused or for others and ticks that are refused may come.
pub record UndisturbedBy (t : ModuleType) (D : Frame → Type 0) (G : SampleOf t → Of t → Type 0) (net : List ℕ) (cs : List Call) (i : ℕ) : Type 0 where
  pub frames : (j : ℕ) (f : Frame) → Executed t net cs i j f → D f → ⊥
  pub ticks : (j : ℕ) (x : SampleOf t) (m : Of t) → Ticked t net cs i j x → Stands t net cs i j m → G x m
