-- What is promised of the calls. Each promise is proved under its name, with small letters, in proofs/. That a chain of this network's modules
-- keeps what the chain promises is in proofs/Chain.antt.
use Rattle.std.specs.Prelude.{◌≡◌, ◌↔◌, ℕ, zero, suc, ◌+◌, ◌*◌, ◌/◌, ◌<◌, ◌≤◌, List, [], ◌∷◌, ◌++◌, true, false, length, get_or, take, drop, replicate}
use Rattle.std.proofs.Math.Option.{some}
use Rattle.std.proofs.Math.ListN.{get_elem?}
use Rattle.base_layout.specs.Bytes.{le, Bytes}
use Rattle.base_layout.specs.First.{Line, first, Ordered}
use Rattle.line_receiver.specs.Frames.{Frame, ends}
use Rattle.module_rules.specs.Report.{items_for}
use Rattle.module_rules.specs.Kind.{executed, replied}
use Rattle.module_rules.specs.Slots.{slot_size}
use Rattle.module_rules.specs.Rules.{reply, kind_of}
use Rattle.module_rules.specs.Owes.{reply_size}
use Rattle.chain_rules.specs.Chain.{Outcome, flat, addresses, taking}
use Rattle.types_rules.specs.Table.{ModuleType, Of, rules_of, slots_of, LinesOf}
use Rattle.types_rules.specs.Types.{Module, kind, slots, type_of_slot, sample_for}
use Rattle.net_rules.specs.Record.{receiver_size, fill_at, command_at, marked_at, chain_most, count_at, slots_at, record_size, room_size, buffer_room_size, net_in, valid}
use Rattle.net_rules.specs.Calls.{set_up, bytes_of, ten_at, tick_step, samples_for}
use Rattle.net_rules.specs.Promises.{There, Back}
use Rattle.host_rules.specs.Reading.{Answered, status_of}
use Rattle.host_rules.specs.Promises.{shown}
use Rattle.api_rules.specs.Table.{setup_table, byte_table, buffer_table, tick_table, place_table, import_table, export_table}
use Rattle.api_rules.specs.Calls.{setup_record, step_of, byte_number, byte_record, byte_room, byte_written, buffer_of, buffer_record, buffer_room, buffer_written, tick_record, outputs_bytes, cause_byte, reading_bytes, import_room, import_written, export_room, export_written}

-- The tables have the order of document 01, "Numbers given back": 16, 11, 12, 13, 14, 15; and of document 02, P2 and P11: 20 stands before 13 and 14,
-- and P7: 21 and 22 stand before 15.
pub record Tables : Type 0 where
  pub setup : (net types : List ℕ) → Ordered (setup_table net types) (16 ∷ 11 ∷ 12 ∷ [])
  pub byte : (net : List ℕ) (mark : ℕ) (room : List ℕ) → Ordered (byte_table net mark room) (16 ∷ 14 ∷ 15 ∷ [])
  pub buffer : (net bytes marks room : List ℕ) → Ordered (buffer_table net bytes marks room) (16 ∷ 20 ∷ 14 ∷ 15 ∷ [])
  pub tick : (net samples : List ℕ) → Ordered (tick_table net samples) (16 ∷ 20 ∷ 13 ∷ 14 ∷ [])
  pub place : (net : List ℕ) (place : ℕ) → Ordered (place_table net place) (16 ∷ 13 ∷ [])
  pub import : (text room : List ℕ) → Ordered (import_table text room) (21 ∷ 15 ∷ [])
  pub export : (rs room : List ℕ) → Ordered (export_table rs room) (22 ∷ 15 ∷ [])

-- a table refuses, or lets the call be done
abbrev pub Refuses : List Line → Type 0
Refuses ls = first ls ≡ 0 → ⊥

abbrev pub Passes : List Line → Type 0
Passes ls = first ls ≡ 0

-- what a refused byte call gives and leaves
pub record Untouched (net : List ℕ) (mark byte : ℕ) (room : List ℕ) : Type 0 where
  pub number : byte_number net mark byte room ≡ first (byte_table net mark room)
  pub net_kept : byte_record net mark byte room ≡ net
  pub room_kept : byte_room net mark byte room ≡ room
  pub written : byte_written net mark byte room ≡ 0

-- what a refused buffer leaves
pub record UntouchedBuffer (net bytes marks room : List ℕ) : Type 0 where
  pub net_kept : buffer_record net bytes marks room ≡ net
  pub room_kept : buffer_room net bytes marks room ≡ room
  pub written : buffer_written net bytes marks room ≡ 0

-- A call that its table refuses gives the table's number, leaves all that was lent as it was, and reports 0 bytes written. (The number of the
-- calls other than the byte call is the table's by their contract.)
pub record Unchanged : Type 0 where
  pub setup : (net types : List ℕ) → Refuses (setup_table net types) → setup_record net types ≡ net
  pub byte : (net : List ℕ) (mark byte : ℕ) (room : List ℕ) → Refuses (byte_table net mark room) → Untouched net mark byte room
  pub buffer : (net bytes marks room : List ℕ) → Refuses (buffer_table net bytes marks room) → UntouchedBuffer net bytes marks room
  pub tick : (net samples : List ℕ) → Refuses (tick_table net samples) → tick_record net samples ≡ net
  pub outputs : (net : List ℕ) (place : ℕ) (bytes : List ℕ) → Refuses (place_table net place) → outputs_bytes net place bytes ≡ bytes
  pub cause : (net : List ℕ) (place byte : ℕ) → Refuses (place_table net place) → cause_byte net place byte ≡ byte
  pub import : (text room : List ℕ) → Refuses (import_table text room) → (import_room text room ≡ room) × (import_written text room ≡ 0)
  pub export : (rs room : List ℕ) → Refuses (export_table rs room) → (export_room rs room ≡ room) × (export_written rs room ≡ 0)

-- The byte call gives 0, 1 or 2 where its table does not refuse it, and 11 or more exactly where it does.
pub record Answer (net : List ℕ) (mark byte : ℕ) (room : List ℕ) : Type 0 where
  pub done : Passes (byte_table net mark room) → byte_number net mark byte room ≤ 2
  pub refused : (11 ≤ byte_number net mark byte room) ↔ Refuses (byte_table net mark room)

abbrev pub Answers : Type 0
Answers = (net : List ℕ) (mark byte : ℕ) (room : List ℕ) → Answer net mark byte room

-- a valid record, all of it bytes
abbrev pub ValidRecord : List ℕ → Type 0
ValidRecord s = (valid slots s ≡ true) × Bytes s

-- Setup, unless it is refused, leaves a valid record, whatever was lent; every other call, refused or not, keeps a valid record valid.
pub record Kept : Type 0 where
  pub setup : (net types : List ℕ) → Passes (setup_table net types) → ValidRecord (setup_record net types)
  pub byte : (net : List ℕ) (mark byte : ℕ) (room : List ℕ) → byte < 256 → ValidRecord net → ValidRecord (byte_record net mark byte room)
  pub buffer : (net bytes marks room : List ℕ) → Bytes bytes → ValidRecord net → ValidRecord (buffer_record net bytes marks room)
  pub tick : (net samples : List ℕ) → Bytes samples → ValidRecord net → ValidRecord (tick_record net samples)

-- After a call that was not refused the record holds the network that the step of the definitions makes of the one that it held.
pub record Holds : Type 0 where
  pub setup : (net types : List ℕ) → Passes (setup_table net types) → net_in slots (setup_record net types) ≡ set_up types
  pub byte : (net : List ℕ) (mark byte : ℕ) (room : List ℕ)
      → byte < 256
      → Bytes net
      → Passes (byte_table net mark room)
      → net_in slots (byte_record net mark byte room) ≡ (step_of net mark byte).net
  pub buffer : (net bytes marks room : List ℕ)
      → Bytes bytes
      → Bytes net
      → Passes (buffer_table net bytes marks room)
      → net_in slots (buffer_record net bytes marks room) ≡ (buffer_of net bytes marks).net
  pub tick : (net samples : List ℕ)
      → Bytes samples
      → Bytes net
      → Passes (tick_table net samples)
      → net_in slots (tick_record net samples) ≡ tick_step (samples_for (net_in slots net) samples) (net_in slots net)

-- After a tick that is not refused each module has ticked with the sample that its own ten bytes of the list are to its type, and with no other's
-- (02 P11).
abbrev pub OwnTen : Type 0
OwnTen =
    (net samples : List ℕ) (i : ℕ) (t : ModuleType) (m : Of t)
    → Bytes net
    → Bytes samples
    → Passes (tick_table net samples)
    → get_elem? (net_in slots net).modules i ≡ some (t, m)
    → get_elem? (net_in slots (tick_record net samples)).modules i ≡ some (t, (rules_of t).tick (sample_for t (ten_at samples i)) m)

-- To write the network of a valid record into it changes no byte; a sound network that is written into a record comes back from it, and the
-- record is then valid.
abbrev pub ThereAndBack : Type 0
ThereAndBack = There slots × Back slots

-- what the status reader makes of a reply with this status byte, these items asked for and these numbers
abbrev pub read_of : ℕ → ℕ → List ℕ → Answered
read_of status items numbers = record { number = 0; reading = record { status = status; numbers = shown items numbers } }

abbrev pub module_read : (t : ModuleType) → Frame → Of t → Answered
module_read t f m = read_of ((rules_of t).status m) (items_for f ((rules_of t).station m)) ((rules_of t).numbers m)

-- The status reader takes apart whatever a module of any type replies: of the record after the frame, with items that the type has, and so on the
-- line, of the record before it, whatever the frame is.
pub record StatusRead : Type 0 where
  pub after : (t : ModuleType) (f : Frame) (m : Of t)
      → (slots_of t).fits m
      → (rules_of t).shows (items_for f ((rules_of t).station m)) ≡ true
      → (reply (rules_of t) f m ≡ [] → ⊥)
      → status_of (rules_of t).number (items_for f ((rules_of t).station m)) (reply (rules_of t) f m) ≡ module_read t f m
  pub before : (t : ModuleType) (f : Frame) (m : Of t)
      → Bytes f.content
      → (slots_of t).fits m
      → (replied (kind_of (rules_of t)) f m ≡ [] → ⊥)
      → status_of (rules_of t).number (items_for f ((rules_of t).station (executed (kind_of (rules_of t)) f m))) (replied (kind_of (rules_of t)) f m)
      ≡ module_read t f (executed (kind_of (rules_of t)) f m)

-- the lines of a slot, by its first byte
abbrev pub SlotLines : List ℕ → Type 0
SlotLines s = LinesOf (type_of_slot s) s

-- the list that a valid record satisfies, line by line
pub record Satisfies (s : List ℕ) : Type 0 where
  pub size : length s ≡ record_size
  pub some : 1 ≤ get_or s count_at 0
  pub most : get_or s count_at 0 ≤ chain_most
  -- the receiver: idle it is all 0; in a frame there are never more bytes in than the command announces, and the mark is 0 or 1
  pub idle : get_or s fill_at 0 ≡ 0 → (i : ℕ) → i < receiver_size → get_or s i 0 ≡ 0
  pub within : get_or s fill_at 0 ≤ 3 + get_or s command_at 0 / 16
  pub mark : get_or s marked_at 0 ≤ 1
  -- each module's slot satisfies the lines of the type that its first byte says
  pub each : (i : ℕ) → i < get_or s count_at 0 → SlotLines (take slot_size (drop (slots_at + slot_size * i) s))

-- A record of bytes is valid exactly when it satisfies the list.
abbrev pub Listed : Type 0
Listed = (s : List ℕ) → Bytes s → (valid slots s ≡ true) ↔ Satisfies s

-- A call with these refusals that replies with out: if it is not refused, out stands at the room's start and its length is reported; the rest of the
-- room is as it was.
pub record Put (ls : List Line) (out room left : List ℕ) (written : ℕ) : Type 0 where
  pub reported : Passes ls → written ≡ length out
  pub begins : Passes ls → take written left ≡ out
  pub rest : drop written left ≡ drop written room
  pub long : length left ≡ length room

-- A byte call puts its replies so, and a reply's greatest length for each module is always enough.
pub record Written (net : List ℕ) (mark byte : ℕ) (room : List ℕ) : Type 0 where
  pub put : Put (byte_table net mark room) (flat (step_of net mark byte).replies) room (byte_room net mark byte room) (byte_written net mark byte room)
  pub short : byte_written net mark byte room ≤ reply_size * length (net_in slots net).modules
  pub most : byte_written net mark byte room ≤ room_size

abbrev pub WrittenRoom : Type 0
WrittenRoom = (net : List ℕ) (mark byte : ℕ) (room : List ℕ) → Written net mark byte room

-- So does a buffer, with the replies to all of its bytes one after another. At most 16 frames end in it, and its room is always enough for a reply of
-- each module to each of them (02 P2).
pub record WrittenBuffer (net bytes marks room : List ℕ) : Type 0 where
  pub put :
      Put (buffer_table net bytes marks room) (flat (buffer_of net bytes marks).replies) room (buffer_room net bytes marks room)
      (buffer_written net bytes marks room)
  pub frames : Passes (buffer_table net bytes marks room) → ends (bytes_of bytes marks) (net_in slots net).receiver ≤ 16
  pub few : buffer_written net bytes marks room ≤ reply_size * length (net_in slots net).modules * ends (bytes_of bytes marks) (net_in slots net).receiver
  pub most : buffer_written net bytes marks room ≤ buffer_room_size

abbrev pub BufferWritten : Type 0
BufferWritten = (net bytes marks room : List ℕ) → WrittenBuffer net bytes marks room

-- some bytes so many times over
abbrev pub times : ℕ → List ℕ → List ℕ
times zero xs = []
times (suc k) xs = xs ++ times k xs

-- 02 P2: sixteen times the last byte of a No Op for address 1 and the first three bytes of the next: 64 bytes, none of them marked
abbrev pub no_ops : List ℕ
no_ops = times 16 (0x0F ∷ 0xAA ∷ 0x01 ∷ 0x0E ∷ [])

abbrev pub unmarked : List ℕ
unmarked = replicate 64 0

-- this record is valid, it has 32 modules, and at it a room of 9,728 bytes is filled by the replies to the 16 frames that end in those bytes
pub record Full (net room : List ℕ) : Type 0 where
  pub valid : ValidRecord net
  pub chain : length (net_in slots net).modules ≡ 32
  pub lent : length room ≡ 9728
  pub passes : Passes (buffer_table net no_ops unmarked room)
  pub frames : ends (bytes_of no_ops unmarked) (net_in slots net).receiver ≡ 16
  pub filled : buffer_written net no_ops unmarked room ≡ 9728

-- There is such a record, of 32 servos that all have address 1 and show all items: so a buffer asks for no more room than it can need (02 P2).
abbrev pub Reached : Type 0
Reached = (net : List ℕ) × Full net (replicate 9728 0)

-- 02 P2: Touching is judged for each frame of a buffer, when it ends: Set Address 1 and Set Address 2, both for address 0, in one buffer to two modules
-- that are at power-up address the first as 1 and the second as 2, and draw a reply from each.
pub record TwoAddressed (first second : ℕ) (o : Outcome Module) : Type 0 where
  pub addressed : addresses kind o.net.modules
      ≡ record { individual = 1; group = 255; leader = false; low = true }
      ∷ record { individual = 2; group = 255; leader = false; low = true }
      ∷ []
  pub replied : flat o.replies ≡ first ∷ first ∷ second ∷ second ∷ []

-- so a servo, whose status is then 0x11, and an I/O module behind it
abbrev pub InOneBuffer : Type 0
InOneBuffer =
    TwoAddressed 0x11 0
    (taking kind
    (bytes_of (0xAA ∷ 0x00 ∷ 0x21 ∷ 0x01 ∷ 0xFF ∷ 0x21 ∷ 0xAA ∷ 0x00 ∷ 0x21 ∷ 0x02 ∷ 0xFF ∷ 0x22 ∷ []) (replicate 12 0))
    (set_up (0 ∷ 2 ∷ [])))

-- A byte that ends no frame, for which the call gives 0, changes no byte of the record but the receiver's, and none of the room.
abbrev pub NoFrame : Type 0
NoFrame =
    (net : List ℕ) (mark byte : ℕ) (room : List ℕ)
    → Bytes net
    → byte_number net mark byte room ≡ 0
    → (drop receiver_size (byte_record net mark byte room) ≡ drop receiver_size net)
    × (byte_room net mark byte room ≡ room)
    × (byte_written net mark byte room ≡ 0)

-- The outputs call, unless it is refused, gives what the module at the place drives (01 What the boards do).
abbrev pub OutputsTold : Type 0
OutputsTold =
    (net : List ℕ) (place : ℕ) (bytes : List ℕ) (t : ModuleType) (m : Of t)
    → Passes (place_table net place)
    → get_elem? (net_in slots net).modules place ≡ some (t, m)
    → outputs_bytes net place bytes ≡ (rules_of t).outputs m

-- The cause call, unless it is refused, gives the last cause of the module at the place (02 P1).
abbrev pub CauseTold : Type 0
CauseTold =
    (net : List ℕ) (place byte : ℕ) (t : ModuleType) (m : Of t)
    → Passes (place_table net place)
    → get_elem? (net_in slots net).modules place ≡ some (t, m)
    → cause_byte net place byte ≡ ((rules_of t).station m).cause

-- The status reader hands over the status byte, and then its eight numbers in four bytes each, least significant first (01 Numbers given back,
-- last paragraph).
abbrev pub ReadingSpelled : Type 0
ReadingSpelled =
    (status a b c d e f g h : ℕ)
    → reading_bytes (record { status = status; numbers = a ∷ b ∷ c ∷ d ∷ e ∷ f ∷ g ∷ h ∷ [] })
    ≡ status ∷ le 4 a ++ (le 4 b ++ (le 4 c ++ (le 4 d ++ (le 4 e ++ (le 4 f ++ (le 4 g ++ (le 4 h ++ [])))))))

-- Any two outcomes that a contract permits are equal (01 How tight the statements are): the contract of every exported call says of all that
-- comes back, and of every byte lent, that it equals a definition at the call's inputs.
abbrev pub OneOutcome : Type 1
OneOutcome = (I O : Type 0) (outcome : I → O) (inputs : I) (x y : O) → x ≡ outcome inputs → y ≡ outcome inputs → x ≡ y
