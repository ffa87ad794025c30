-- A lent record through a history of exported calls: bytes, and ticks with their lists of samples, in any order, refused or not.
use Rattle.std.specs.Prelude.{ℕ, ◌<◌, List, [], ◌∷◌, ◌++◌, take, eqb}
use Rattle.base_layout.specs.Bytes.{Bytes}
use Rattle.types_rules.specs.Types.{Module, AnySample, slots}
use Rattle.chain_rules.specs.Chain.{Net}
use Rattle.net_rules.specs.Record.{net_in}
use Rattle.net_rules.specs.Calls.{byte_of, samples_for}
use Rattle.base_layout.specs.First.{Line}
use Rattle.api_rules.specs.Table.{byte_table, tick_table}
use Rattle.api_rules.specs.Calls.{unless, byte_record, byte_room, byte_written, tick_record}
use Rattle.demands_history_rules.specs.Events.{Event, sent, ticked}

-- the exported calls that change a network, with what C hands over beside the record: mark, byte and room; the list of samples
pub data Call : Type 0 where
  byte : ℕ → ℕ → List ℕ → Call
  tick : List ℕ → Call

-- what the types of C allow
abbrev pub Handed : Call → Type 0
Handed (byte mark x room) = x < 256
Handed (tick samples) = Bytes samples

abbrev pub AllHanded : List Call → Type 0
AllHanded [] = Unit {0}
AllHanded (c ∷ cs) = Handed c × AllHanded cs

-- the refusals of a call on a record, in their order
abbrev pub refusals : List ℕ → Call → List Line
refusals net (byte mark x room) = byte_table net mark room
refusals net (tick samples) = tick_table net samples

-- the record that a call leaves, and a list of calls one after another
abbrev pub leaves : List ℕ → Call → List ℕ
leaves net (byte mark x room) = byte_record net mark x room
leaves net (tick samples) = tick_record net samples

abbrev pub left_by : List Call → List ℕ → List ℕ
left_by [] net = net
left_by (c ∷ cs) net = left_by cs (leaves net c)

-- the bytes that a call writes into the room that it is lent, and those of all the calls
abbrev pub writes : List ℕ → Call → List ℕ
writes net (byte mark x room) = take (byte_written net mark x room) (byte_room net mark x room)
writes net (tick samples) = []

abbrev pub written_by : List Call → List ℕ → List ℕ
written_by [] net = []
written_by (c ∷ cs) net = writes net c ++ written_by cs (leaves net c)

-- what a call does to a network if it is not refused, and what a list of calls does to a record's: a refused tick is none (02 P11)
abbrev pub does : Net Module → Call → Event (List AnySample)
does n (byte mark x room) = sent (byte_of x (eqb mark 1) ∷ [])
does n (tick samples) = ticked (samples_for n samples)

abbrev pub done_by : List Call → List ℕ → List (Event (List AnySample))
done_by [] net = []
done_by (c ∷ cs) net = unless (refusals net c) [] (does (net_in slots net) c ∷ []) ++ done_by cs (leaves net c)
