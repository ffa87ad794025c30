-- A reader of the meaning may skip this file: the walk along the slots of a record in the order in which the code goes, one module after another, each
-- from its own slot. That it is the chain's own definition is a theorem (proofs/Exact.antt).
use Rattle.std.specs.Prelude.{ℕ, zero, suc, ◌+◌, List, [], ◌∷◌, Bool, true, cond, ◌&&◌, take, drop, length, replicate, get_or, Option, Some, None}
use Rattle.base_layout.specs.Bytes.{pasted}
use Rattle.line_receiver.specs.declared.Receiver.{Receiver}
use Rattle.line_receiver.specs.Frames.{Frame, frame_in}
use Rattle.module_rules.specs.Touch.{named}
use Rattle.module_rules.specs.Kind.{Kind, executed, replied}
use Rattle.module_rules.specs.Slots.{Slots, slot_size}
use Rattle.chain_rules.specs.Chain.{join}
use Rattle.types_rules.specs.Types.{kind, slots}
use Rattle.net_rules.specs.declared.Called.{Called}
use Rattle.net_rules.specs.declared.Turn.{Turn}
use Rattle.net_rules.specs.declared.Walked.{Walked}
use Rattle.net_rules.specs.Record.{chain_most, count_at, slots_at}
use Rattle.net_rules.specs.Calls.{noted}

module _ {M S : Type 0} (K : Kind M S) (L : Slots M) where
  unfoldable pub module_at : ℕ → List ℕ → M
  module_at at s = L.dec (take slot_size (drop at s))

  -- whether a frame touches the module at place at, its record after the frame, and what it says
  unfoldable pub touched_at : Frame → Bool → ℕ → List ℕ → Bool
  touched_at f enabled at s = enabled && named f.address (K.address (module_at at s))

  unfoldable pub turned : Frame → Bool → ℕ → List ℕ → List ℕ
  turned f enabled at s = cond (touched_at f enabled at s) (pasted at (L.enc (executed K f (module_at at s))) s) s

  unfoldable pub words_at : Frame → Bool → ℕ → List ℕ → List ℕ
  words_at f enabled at s = cond (touched_at f enabled at s) (replied K f (module_at at s)) []

  unfoldable pub low_at : ℕ → List ℕ → Bool
  low_at at s = (K.address (module_at at s)).low

  -- the record, and what each module says, once the frame was handed to the k modules from place at on
  unfoldable pub walked : Frame → Bool → ℕ → ℕ → List ℕ → List ℕ
  walked f enabled zero at s = s
  walked f enabled (suc k) at s = walked f (low_at at s) k (at + slot_size) (turned f enabled at s)

  unfoldable pub speech : Frame → Bool → ℕ → ℕ → List ℕ → List (List ℕ)
  speech f enabled zero at s = []
  speech f enabled (suc k) at s = words_at f enabled at s ∷ speech f (low_at at s) k (at + slot_size) (turned f enabled at s)

  -- one module with another record, and a tick with samples for the modules from place at on
  unfoldable pub changed_at : (M → M) → ℕ → List ℕ → List ℕ
  changed_at g at s = pasted at (L.enc (g (module_at at s))) s

  unfoldable pub ticked : List S → ℕ → List ℕ → List ℕ
  ticked [] at s = s
  ticked (x ∷ xs) at s = ticked xs (at + slot_size) (changed_at (K.tick x) at s)

-- what a turn and a walk of the code hand back
unfoldable pub turn_of : Frame → Bool → ℕ → List ℕ → Turn
turn_of f enabled at s = record { low = low_at kind slots at s; said = length (words_at kind slots f enabled at s) }

unfoldable pub walk_of : Frame → ℕ → List ℕ → Walked
walk_of f n s = record {
  written = length (join (speech kind slots f true n slots_at s));
  lengths = noted (speech kind slots f true n slots_at s) 0 (replicate chain_most 0);
}

-- what the code hands back where a frame ended, by the frame
unfoldable pub ended_of : Frame → ℕ → List ℕ → Called
ended_of f n s = record {
  ended = Some f.damaged;
  written = length (join (speech kind slots f true n slots_at s));
  lengths = noted (speech kind slots f true n slots_at s) 0 (replicate chain_most 0);
}

-- by the receiver's answer: what is said, the record after it, and what the code hands back
unfoldable pub speech_by : Receiver → Option Bool → List ℕ → List (List ℕ)
speech_by r None s = []
speech_by r (Some d) s = speech kind slots (frame_in r d) true (get_or s count_at 0) slots_at s

unfoldable pub walked_by : Receiver → Option Bool → List ℕ → List ℕ
walked_by r None s = s
walked_by r (Some d) s = walked kind slots (frame_in r d) true (get_or s count_at 0) slots_at s

unfoldable pub answered_of : Receiver → Option Bool → List ℕ → Called
answered_of r a s = record {
  ended = a;
  written = length (join (speech_by r a s));
  lengths = noted (speech_by r a s) 0 (replicate chain_most 0);
}
