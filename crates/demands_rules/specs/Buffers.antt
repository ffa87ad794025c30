-- A board that hands over its bytes by the buffer (document 02, P2): its calls are byte calls and ticks, cut in another way, and so the demands reach it. Each
-- promise is proved under its name, with small letters, in proofs/.
use Rattle.std.specs.Prelude.{◌≡◌, ℕ, ◌<◌, ◌≤◌, List, [], ◌∷◌, ◌++◌, map, Bool, true, length, take, replicate}
use Rattle.base_layout.specs.Bytes.{Bytes}
use Rattle.base_layout.specs.First.{Line}
use Rattle.line_receiver.specs.Receive.{idle}
use Rattle.line_receiver.specs.Frames.{Byte, Frame, values, AreBytes}
use Rattle.module_rules.specs.Rules.{with_cause}
use Rattle.chain_rules.specs.Chain.{Net, flat, replies_of, addresses, touched}
use Rattle.servo_rules.specs.Carried.{needed}
use Rattle.types_rules.specs.Table.{ModuleType, Of, servo, rules_of}
use Rattle.types_rules.specs.Types.{Module, AnySample, kind, slots}
use Rattle.net_rules.specs.Record.{room_size, net_in, stored}
use Rattle.net_rules.specs.Calls.{bytes_of}
use Rattle.api_rules.specs.Table.{buffer_table}
use Rattle.api_rules.specs.Calls.{unless, buffer_record, buffer_room, buffer_written}
use Rattle.api_rules.specs.Promises.{Passes, ValidRecord}
use Rattle.demands_history_rules.specs.Events.{Event, sent, run, Reads, Ordinary, singly}
use Rattle.demands_history_rules.specs.Calls.{Call, byte, Handed, AllHanded, refusals, leaves, left_by, writes, written_by, does, done_by}
use Rattle.demands_rules.specs.Place.{AtOf}
use Rattle.demands_rules.specs.SettingOut.{StartedBy, SettingOut}
use Rattle.demands_rules.specs.Motion.{AtRest, LoadStarts}
use Rattle.demands_rules.specs.Question.{IsStart, Missed, Loading}
use Rattle.demands_rules.specs.ServoQuestion.{NoneReady}
use Rattle.demands_rules.specs.Order.{MeetsTheSame}

-- what a board calls: a byte or a tick, as before, or a buffer, with what C hands over beside the record: bytes, marks and room
pub data BoardCall : Type 0 where
  single : Call → BoardCall
  buffer : List ℕ → List ℕ → List ℕ → BoardCall

-- what the types of C allow
abbrev pub BoardHanded : BoardCall → Type 0
BoardHanded (single c) = Handed c
BoardHanded (buffer bytes marks room) = Bytes bytes

abbrev pub AllBoardHanded : List BoardCall → Type 0
AllBoardHanded [] = Unit {0}
AllBoardHanded (c ∷ cs) = BoardHanded c × AllBoardHanded cs

-- the refusals of such a call; the record that it leaves; the bytes that it writes into the room that it is lent; what it does to a network if it is not refused
abbrev pub board_refusals : List ℕ → BoardCall → List Line
board_refusals net (single c) = refusals net c
board_refusals net (buffer bytes marks room) = buffer_table net bytes marks room

abbrev pub board_leaves : List ℕ → BoardCall → List ℕ
board_leaves net (single c) = leaves net c
board_leaves net (buffer bytes marks room) = buffer_record net bytes marks room

abbrev pub board_writes : List ℕ → BoardCall → List ℕ
board_writes net (single c) = writes net c
board_writes net (buffer bytes marks room) = take (buffer_written net bytes marks room) (buffer_room net bytes marks room)

abbrev pub board_does : Net Module → BoardCall → Event (List AnySample)
board_does n (single c) = does n c
board_does n (buffer bytes marks room) = sent (bytes_of bytes marks)

-- and so of a list of them, one after another; a refused one does nothing
abbrev pub board_left : List BoardCall → List ℕ → List ℕ
board_left [] net = net
board_left (c ∷ cs) net = board_left cs (board_leaves net c)

abbrev pub board_written : List BoardCall → List ℕ → List ℕ
board_written [] net = []
board_written (c ∷ cs) net = board_writes net c ++ board_written cs (board_leaves net c)

abbrev pub board_done : List BoardCall → List ℕ → List (Event (List AnySample))
board_done [] net = []
board_done (c ∷ cs) net = unless (board_refusals net c) [] (board_does (net_in slots net) c ∷ []) ++ board_done cs (board_leaves net c)

-- the byte calls for these bytes one by one, each with its own mark, and with this room
abbrev pub byte_calls : List ℕ → List ℕ → List ℕ → List Call
byte_calls room [] marks = []
byte_calls room (x ∷ xs) [] = []
byte_calls room (x ∷ xs) (m ∷ ms) = byte m x room ∷ byte_calls room xs ms

-- As the byte calls: a buffer that is not refused leaves the record that they leave, one by one, byte for byte, and writes what they write, one after
-- another, whatever room they are lent, so long as it has what a byte call asks for; and none of them is refused.
pub record OneByOne (net bytes marks room own : List ℕ) : Type 0 where
  pub same_record : buffer_record net bytes marks room ≡ left_by (byte_calls own bytes marks) net
  pub same_replies : take (buffer_written net bytes marks room) (buffer_room net bytes marks room) ≡ written_by (byte_calls own bytes marks) net
  pub all_done : done_by (byte_calls own bytes marks) net ≡ map (λ (b : Byte). sent (b ∷ [])) (bytes_of bytes marks)

abbrev pub AsByteCalls : Type 0
AsByteCalls =
    (net bytes marks room own : List ℕ)
    → ValidRecord net → Bytes bytes → room_size ≤ length own → Passes (buffer_table net bytes marks room)
    → OneByOne net bytes marks room own

-- a board's calls byte by byte: in place of a buffer the byte calls for it, in place of a refused one none
abbrev pub apart : List ℕ → BoardCall → List Call
apart net (single c) = c ∷ []
apart net (buffer bytes marks room) = unless (buffer_table net bytes marks room) [] (byte_calls (replicate room_size 0) bytes marks)

abbrev pub all_apart : List BoardCall → List ℕ → List Call
all_apart [] net = []
all_apart (c ∷ cs) net = apart net c ++ all_apart cs (board_leaves net c)

-- So whatever is said of any byte calls and ticks reaches a board that hands over buffers: after its calls the record is the one that byte calls and ticks
-- leave, the bytes written are the same, and what was done is the same, byte by byte.
pub record ByteByByte (net : List ℕ) (cs : List BoardCall) : Type 0 where
  pub handed : AllHanded (all_apart cs net)
  pub same_record : board_left cs net ≡ left_by (all_apart cs net) net
  pub same_replies : board_written cs net ≡ written_by (all_apart cs net) net
  pub same_done : done_by (all_apart cs net) net ≡ singly (board_done cs net)

abbrev pub Reaches : Type 0
Reaches = (net : List ℕ) (cs : List BoardCall) → ValidRecord net → AllBoardHanded cs → ByteByByte net cs

-- Demand 1: any calls of a board do no harm. The record stays valid and holds what the calls that were not refused make of the network, every byte that
-- holds nothing of it is as it was lent, and the bytes written are its replies.
pub record ThroughBuffers (net : List ℕ) (cs : List BoardCall) : Type 0 where
  pub valid : ValidRecord (board_left cs net)
  pub network : net_in slots (board_left cs net) ≡ (run kind (board_done cs net) (net_in slots net)).net
  pub bytes : board_left cs net ≡ stored slots (run kind (board_done cs net) (net_in slots net)).net net
  pub replies : board_written cs net ≡ flat (run kind (board_done cs net) (net_in slots net)).replies

abbrev pub AnyBuffers : Type 0
AnyBuffers = (net : List ℕ) (cs : List BoardCall) → ValidRecord net → AllBoardHanded cs → ThroughBuffers net cs

-- Demand 1, over any module type that has loads: a module that was at rest and, after any calls of a board, is not, had a load started by one of the bytes
-- that it handed over, in a buffer or by itself. One buffer may load, start and stop: each frame is judged when it ends.
module _ (t : ModuleType) (Rests : Of t → Type 0) (Starts : Frame → Bool → Of t → Type 0) where
  abbrev pub NeverInBuffers : Type 0
  NeverInBuffers =
      (net : List ℕ) (cs : List BoardCall) (i : ℕ) (m k : Of t)
      → ValidRecord net → AllBoardHanded cs → AtOf t net i m → AtOf t (board_left cs net) i k
      → Rests m → (Rests k → ⊥) → StartedBy t Starts (all_apart cs net) net i

-- so it is for every such type
abbrev pub NeverOfAnyType : Type 1
NeverOfAnyType =
    (t : ModuleType) (Rests : Of t → Type 0) (Starts : Frame → Bool → Of t → Type 0)
    → SettingOut t Rests Starts → NeverInBuffers t Rests Starts

-- The mill's question, over any module type that has loads: a Load that the module misses in any of the three ways and then a Start for it, handed over in
-- one buffer or in any cuts, leave the module in every part what it was, and its cause is 3.
module _ (t : ModuleType) (needed : ℕ → ℕ) (NoneReady : Of t → Type 0) where
  abbrev pub QuestionInBuffers : Type 0
  QuestionInBuffers =
      (net : List ℕ) (cs : List BoardCall) (i : ℕ) (m : Of t) (load_bytes start_bytes : List Byte) (load start : Frame)
      → ValidRecord net → AllBoardHanded cs → AreBytes (values (load_bytes ++ start_bytes))
      → singly (board_done cs net) ≡ singly (sent load_bytes ∷ sent start_bytes ∷ [])
      → (net_in slots net).receiver ≡ idle → AtOf t net i m → NoneReady m
      → Reads load_bytes load → load.code ≡ 4
      → Missed needed (touched true load.address (addresses kind (net_in slots net).modules) i) load
      → Reads start_bytes start → IsStart start
      → touched true start.address (addresses kind (net_in slots net).modules) i ≡ true
      → AtOf t (board_left cs net) i (with_cause (rules_of t) 3 m)

abbrev pub QuestionOfAnyType : Type 1
QuestionOfAnyType =
    (t : ModuleType) (needed : ℕ → ℕ) (NoneReady NoLoad : Of t → Type 0)
    → Loading t needed NoneReady NoLoad → QuestionInBuffers t needed NoneReady

-- How bytes are cut into buffers does not matter: two boards that hand over the same bytes with the same marks, and the same ticks between them, leave
-- the same record, byte for byte, and write the same replies, wherever each ends its buffers, and whether it hands over buffers or bytes.
abbrev pub CutAnywhere : Type 0
CutAnywhere =
    (net : List ℕ) (cs₁ cs₂ : List BoardCall)
    → ValidRecord net → AllBoardHanded cs₁ → AllBoardHanded cs₂ → singly (board_done cs₁ net) ≡ singly (board_done cs₂ net)
    → (board_left cs₁ net ≡ board_left cs₂ net) × (board_written cs₁ net ≡ board_written cs₂ net)

-- Demand 3 by a board's calls: two histories of whole frames and ticks in which every place meets the same, handed over in any cuts, a frame's bytes in one
-- buffer with another's or in several, leave the same record, and every place has given the same replies.
abbrev pub OrderInBuffers : Type 0
OrderInBuffers =
    (net : List ℕ) (cs₁ cs₂ : List BoardCall) (h₁ h₂ : List (Event (List AnySample)))
    → ValidRecord net → AllBoardHanded cs₁ → AllBoardHanded cs₂ → (net_in slots net).receiver ≡ idle → Ordinary h₁ → Ordinary h₂
    → singly (board_done cs₁ net) ≡ singly h₁ → singly (board_done cs₂ net) ≡ singly h₂
    → ((i : ℕ) → i < length (net_in slots net).modules → MeetsTheSame kind (net_in slots net) h₁ h₂ i)
    → (board_left cs₁ net ≡ board_left cs₂ net)
    × ((i : ℕ) → replies_of i (run kind (board_done cs₁ net) (net_in slots net)).replies ≡ replies_of i (run kind (board_done cs₂ net) (net_in slots net)).replies)

-- Of a servo: with what it hands in, nothing is left to assume. (Of a step-motor module: crates/demands_stepper_rules.)
pub record OfServo : Type 0 where
  pub never : NeverInBuffers servo AtRest LoadStarts
  pub question : QuestionInBuffers servo needed NoneReady
