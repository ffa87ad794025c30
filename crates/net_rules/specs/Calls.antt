-- What the calls on a network mean, before their refusals (document 01, "What the boards do", "Numbers given back").
use Rattle.std.specs.Prelude.{ℕ, zero, suc, ◌+◌, ◌*◌, List, [], ◌∷◌, map, Bool, true, false, ◌&&◌, length, replicate, set, get_or, take, drop, eqb, leb, Some, None}
use Rattle.std.proofs.Math.Option.{Option, some, none}
use Rattle.std.proofs.Math.ListN.{get_elem?}
use Rattle.line_receiver.specs.declared.Received.{Received}
use Rattle.line_receiver.specs.Receive.{idle, taken}
use Rattle.line_receiver.specs.Frames.{Byte, frame_in}
use Rattle.module_rules.specs.Kind.{Kind}
use Rattle.module_rules.specs.Slots.{sample_size}
use Rattle.chain_rules.specs.Chain.{Net, flat, said, byte_step, timed}
use Rattle.types_rules.specs.Types.{Module, AnySample, kind, slots, known, type_of, powered, outputs, cause_of, sample_in, in_range}
use Rattle.net_rules.specs.declared.Called.{Called}
use Rattle.net_rules.specs.Record.{record_size, stored, chain_most}

-- setup: an idle receiver and modules as they are at power-up
abbrev pub set_up : List ℕ → Net Module
set_up types = record { receiver = idle; modules = map powered types }

abbrev pub all_known : List ℕ → Bool
all_known [] = true
all_known (t ∷ ts) = known t && all_known ts

-- the record that setup leaves, whatever its bytes were before
unfoldable pub fresh : List ℕ → List ℕ
fresh types = stored slots (set_up types) (replicate record_size 0)

-- 02 P11: the samples that a tick's list has for k places: ten bytes each, in chain order
unfoldable pub samples_in : ℕ → List ℕ → List AnySample
samples_in zero l = []
samples_in (suc k) l = sample_in (take sample_size l) ∷ samples_in k (drop sample_size l)

-- the ten bytes that the list has for place i
abbrev pub ten_at : List ℕ → ℕ → List ℕ
ten_at l i = take sample_size (drop (sample_size * i) l)

-- how long the list is for a chain of k modules
abbrev pub list_size : ℕ → ℕ
list_size k = sample_size * k

-- 02 P11, 13: whether each sample begins with the number of its module's type
unfoldable pub all_typed : List Module → List ℕ → Bool
all_typed [] l = true
all_typed (m ∷ ms) l = eqb (get_or l 0 0) (type_of m) && all_typed ms (drop sample_size l)

-- 02 P11, 14: whether the fields of k samples are all in range
unfoldable pub all_in_range : ℕ → List ℕ → Bool
all_in_range zero l = true
all_in_range (suc k) l = in_range (take sample_size l) && all_in_range k (drop sample_size l)

-- a tick at every module, each with its own sample
abbrev pub tick_step : List AnySample → Net Module → Net Module
tick_step xs n = record { receiver = n.receiver; modules = timed kind xs n.modules }

-- the samples that a tick's list has for a network
abbrev pub samples_for : Net Module → List ℕ → List AnySample
samples_for n l = samples_in (length n.modules) l

-- a byte of the line with its mark
abbrev pub byte_of : ℕ → Bool → Byte
byte_of value mark = record { value = value; mark = mark }

-- 02 P2: bytes of the line, each with its mark, which is set where it is 1
abbrev pub bytes_of : List ℕ → List ℕ → List Byte
bytes_of [] marks = []
bytes_of (x ∷ xs) [] = []
bytes_of (x ∷ xs) (m ∷ ms) = byte_of x (eqb m 1) ∷ bytes_of xs ms

-- 02 P2, 14: whether every mark is 0 or 1
unfoldable pub all_marks : List ℕ → Bool
all_marks [] = true
all_marks (m ∷ ms) = leb m 1 && all_marks ms

-- whether the module at a place is of type t; beyond the chain there is none
abbrev pub is_of : ℕ → Option Module → Bool
is_of t none = false
is_of t (some m) = eqb (type_of m) t

abbrev pub of_type : ℕ → Net Module → ℕ → Bool
of_type t n place = is_of t (get_elem? n.modules place)

-- what the board drives at a place, nothing beyond the chain
abbrev pub outputs_in : Option Module → List ℕ
outputs_in none = []
outputs_in (some m) = outputs m

abbrev pub outputs_at : Net Module → ℕ → List ℕ
outputs_at n place = outputs_in (get_elem? n.modules place)

-- the last cause of the module at a place (02 P1), 0 beyond the chain
abbrev pub cause_in : Option Module → ℕ
cause_in none = 0
cause_in (some m) = cause_of m

abbrev pub cause_at : Net Module → ℕ → ℕ
cause_at n place = cause_in (get_elem? n.modules place)

-- what each place says to a byte: nothing, unless it ends a frame
unfoldable pub spoken_to : {M S : Type 0} → Kind M S → Net M → Byte → List (List ℕ)
spoken_to K n b =
    let t : Received = taken n.receiver b.value b.mark in
    elim t.answer [ None ↦ [] | Some d ↦ said K (frame_in n.receiver d) true n.modules ]

-- the lengths of what is said, put into a list from place i on
unfoldable pub noted : List (List ℕ) → ℕ → List ℕ → List ℕ
noted [] i l = l
noted (w ∷ ws) i l = noted ws (i + 1) (set l i (length w))

-- what the byte call hands back: the receiver's answer, the length of all replies, and of each place's
unfoldable pub called_by : Net Module → Byte → Called
called_by n b = record {
  ended = (taken n.receiver b.value b.mark).answer;
  written = length (flat (byte_step kind n b).replies);
  lengths = noted (spoken_to kind n b) 0 (replicate chain_most 0);
}
