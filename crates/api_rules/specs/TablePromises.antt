-- Each condition of the tables of refusals at its bounds, with the figures of document 01, "Numbers given back", and document 02, P2 and P11: what is given on either side
-- where no earlier line applies. Each promise is proved under its name, with small letters, in proofs/.
use Rattle.std.specs.Prelude.{◌≡◌, ℕ, ◌+◌, ◌*◌, ◌<◌, ◌≤◌, List, true, false, length, get_or, eqb}
use Rattle.std.proofs.Math.Option.{Option, some}
use Rattle.std.proofs.Math.ListN.{get_elem?}
use Rattle.base_layout.specs.Bytes.{of_le, read_at, Bytes}
use Rattle.line_receiver.specs.Receive.{taken}
use Rattle.line_receiver.specs.Promises.{Numbered}
use Rattle.types_rules.specs.Table.{servo, inout, stepper, Of}
use Rattle.types_rules.specs.Types.{Module, slots, type_of}
use Rattle.types_rules.specs.Promises.{ThereIs}
use Rattle.net_rules.specs.Record.{net_in, valid}
use Rattle.base_layout.specs.First.{first}
use Rattle.api_rules.specs.Table.{setup_table, byte_table, buffer_table, tick_table, place_table}
use Rattle.api_rules.specs.Calls.{byte_number}
use Rattle.api_rules.specs.Promises.{Passes}

-- what stands at a place of the chain, and the chain's length
abbrev pub stands_at : List ℕ → ℕ → Option Module
stands_at net place = get_elem? (net_in slots net).modules place

abbrev pub chain_length : List ℕ → ℕ
chain_length net = length (net_in slots net).modules

-- 01 Numbers given back, 16: a record that is not valid, and so one that has not 4,116 bytes, is refused by every call but setup, which asks
-- for its length alone.
pub record Sixteen (net : List ℕ) : Type 0 where
  pub long : (length net ≡ 4116 → ⊥) → valid slots net ≡ false
  pub byte : (mark : ℕ) (room : List ℕ) → valid slots net ≡ false → first (byte_table net mark room) ≡ 16
  pub buffer : (bytes marks room : List ℕ) → valid slots net ≡ false → first (buffer_table net bytes marks room) ≡ 16
  pub tick : (samples : List ℕ) → valid slots net ≡ false → first (tick_table net samples) ≡ 16
  pub place : (place : ℕ) → valid slots net ≡ false → first (place_table net place) ≡ 16

abbrev pub BadRecord : Type 0
BadRecord = (net : List ℕ) → Sixteen net

-- 01 Numbers given back, setup: 4,116 bytes, else 16; 1 to 32 modules, else 11; all of types 0, 2 and 3, else 12.
pub record SetUp (net types : List ℕ) : Type 0 where
  pub done : length net ≡ 4116
      → 1 ≤ length types
      → length types ≤ 32
      → ((i : ℕ) → i < length types → ThereIs (get_or types i 0))
      → first (setup_table net types) ≡ 0
  pub sixteen : (length net ≡ 4116 → ⊥) → first (setup_table net types) ≡ 16
  pub none : length net ≡ 4116 → length types ≡ 0 → first (setup_table net types) ≡ 11
  pub many : length net ≡ 4116 → 33 ≤ length types → first (setup_table net types) ≡ 11
  pub twelve : length net ≡ 4116
      → 1 ≤ length types
      → length types ≤ 32
      → (i : ℕ)
      → i < length types
      → (ThereIs (get_or types i 0) → ⊥)
      → first (setup_table net types) ≡ 12

abbrev pub SetupBounds : Type 0
SetupBounds = (net types : List ℕ) → SetUp net types

-- 01 Numbers given back, byte call: a mark of 0 or 1, else 14; a room of 608 bytes, else 15.
pub record LineByte (net : List ℕ) (mark : ℕ) (room : List ℕ) : Type 0 where
  pub done : mark ≤ 1 → 608 ≤ length room → first (byte_table net mark room) ≡ 0
  pub fourteen : 2 ≤ mark → first (byte_table net mark room) ≡ 14
  pub fifteen : mark ≤ 1 → length room < 608 → first (byte_table net mark room) ≡ 15

abbrev pub ByteBounds : Type 0
ByteBounds = (net : List ℕ) (mark : ℕ) (room : List ℕ) → valid slots net ≡ true → LineByte net mark room

-- 02 P2, a buffer: as many marks as bytes and at most 64, else 20; every mark 0 or 1, wherever the first frame ends, else 14; a room of 9,728 bytes, else
-- 15, also for no bytes at all.
pub record Buffered (net bytes marks room : List ℕ) : Type 0 where
  pub done : length bytes ≡ length marks
      → length bytes ≤ 64
      → ((i : ℕ) → i < length marks → get_or marks i 0 ≤ 1)
      → 9728 ≤ length room
      → first (buffer_table net bytes marks room) ≡ 0
  pub differ : (length bytes ≡ length marks → ⊥) → first (buffer_table net bytes marks room) ≡ 20
  pub many : 65 ≤ length bytes → first (buffer_table net bytes marks room) ≡ 20
  pub fourteen : length bytes ≡ length marks
      → length bytes ≤ 64
      → (i : ℕ)
      → i < length marks
      → 2 ≤ get_or marks i 0
      → first (buffer_table net bytes marks room) ≡ 14
  pub fifteen : length bytes ≡ length marks
      → length bytes ≤ 64
      → ((i : ℕ) → i < length marks → get_or marks i 0 ≤ 1)
      → length room < 9728
      → first (buffer_table net bytes marks room) ≡ 15

abbrev pub BufferBounds : Type 0
BufferBounds = (net bytes marks room : List ℕ) → valid slots net ≡ true → Buffered net bytes marks room

-- a field out of range at place i of a tick's list: a servo's power above 2 or limit inputs above 3 (02 P8), an I/O module's input bits above 4,095, a
-- step-motor module's stop input above 1
pub data Far (net samples : List ℕ) (i : ℕ) : Type 0 where
  power : (m : Of servo) → stands_at net i ≡ some (servo, m) → 3 ≤ get_or samples (10 * i + 1) 0 → Far net samples i
  limits : (m : Of servo) → stands_at net i ≡ some (servo, m) → 4 ≤ get_or samples (10 * i + 7) 0 → Far net samples i
  inputs : (m : Of inout) → stands_at net i ≡ some (inout, m) → 4096 ≤ of_le (read_at 2 (10 * i + 1) samples) → Far net samples i
  stop : (m : Of stepper) → stands_at net i ≡ some (stepper, m) → 2 ≤ get_or samples (10 * i + 1) 0 → Far net samples i

-- at place i of a tick's list the number of the module's type stands first
abbrev pub TypedAt : List ℕ → List ℕ → ℕ → Type 0
TypedAt net samples i = (m : Module) → stands_at net i ≡ some m → get_or samples (10 * i) 0 ≡ type_of m

-- 02 P11, a tick: ten bytes for each module, else 20; at each place the number of the module's type first, else 13, whatever stands elsewhere; at each
-- place the fields in range, else 14. The bytes that are left of ten are not asked about.
pub record Ticked (net samples : List ℕ) : Type 0 where
  pub done : length samples ≡ 10 * chain_length net
      → ((i : ℕ) → TypedAt net samples i)
      → ((i : ℕ) → Far net samples i → ⊥)
      → first (tick_table net samples) ≡ 0
  pub twenty : (length samples ≡ 10 * chain_length net → ⊥) → first (tick_table net samples) ≡ 20
  pub thirteen : length samples ≡ 10 * chain_length net → (i : ℕ) → (TypedAt net samples i → ⊥) → first (tick_table net samples) ≡ 13
  pub fourteen : length samples ≡ 10 * chain_length net
      → ((i : ℕ) → TypedAt net samples i)
      → (i : ℕ)
      → Far net samples i
      → first (tick_table net samples) ≡ 14

abbrev pub TickBounds : Type 0
TickBounds = (net samples : List ℕ) → Bytes samples → valid slots net ≡ true → Ticked net samples

-- 01 Numbers given back, outputs and cause: a place below the chain length, else 13.
pub record Others (net : List ℕ) (place : ℕ) : Type 0 where
  pub beyond : chain_length net ≤ place → first (place_table net place) ≡ 13
  pub below : place < chain_length net → first (place_table net place) ≡ 0

abbrev pub OtherBounds : Type 0
OtherBounds = (net : List ℕ) (place : ℕ) → valid slots net ≡ true → Others net place

-- 01 Numbers given back: a byte call that is not refused gives 0 exactly if the byte ended no frame, 1 exactly if it ended an undamaged one, 2 exactly if it ended a
-- damaged one; a mark of 1 marks the byte.
abbrev pub ByteNumbers : Type 0
ByteNumbers =
    (net : List ℕ) (mark byte : ℕ) (room : List ℕ)
    → Passes (byte_table net mark room)
    → Numbered (taken (net_in slots net).receiver byte (eqb mark 1)).answer (byte_number net mark byte room)
