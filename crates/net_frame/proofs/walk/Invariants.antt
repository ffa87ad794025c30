-- `net_frame::walk` meets its contract. The invariant: the rest of the walk, from the record as it is, gives the whole. Assumes nothing.
use mathlib.Core.Path.{◌≡◌}
use mathlib.Core.Bool.{true}
use Prim.Native.Nat.{◌+◌, ◌*◌, ◌-◌, ◌≤◌}
use lib.ListN.{length, drop, replicate}
use Rattle.base_layout.specs.Bytes.{pasted}
use Rattle.module_rules.specs.Touch.{frame_of}
use Rattle.chain_rules.specs.Chain.{join}
use Rattle.types_rules.specs.Types.{kind, slots}
use Rattle.net_rules.specs.Record.{ok_slots, slots_at, chain_most}
use Rattle.net_rules.specs.Walk.{walked, speech}
use Rattle.net_rules.specs.Calls.{noted}
use Rattle.module_rules.specs.Slots.{slot_size}
use Rattle.module_rules.specs.Owes.{reply_size}
use Rattle.net_frame.proofs.walk.Given as goal

abbrev pub invariant-loop-place : goal.invariant-loop-place
invariant-loop-place l =
    (l.written ≤ reply_size * l.place)
    × (walked kind slots (frame_of l.f) l.enabled (l.n - l.place) (slots_at + slot_size * l.place) l.net ≡ walked kind slots (frame_of l.f) true l.n slots_at l.initial.net)
    × (pasted l.written (join (speech kind slots (frame_of l.f) l.enabled (l.n - l.place) (slots_at + slot_size * l.place) l.net)) l.room ≡ pasted 0 (join (speech kind slots (frame_of l.f) true l.n slots_at l.initial.net)) l.initial.room)
    × (l.written + length (join (speech kind slots (frame_of l.f) l.enabled (l.n - l.place) (slots_at + slot_size * l.place) l.net)) ≡ length (join (speech kind slots (frame_of l.f) true l.n slots_at l.initial.net)))
    × (noted (speech kind slots (frame_of l.f) l.enabled (l.n - l.place) (slots_at + slot_size * l.place) l.net) l.place l.lengths ≡ noted (speech kind slots (frame_of l.f) true l.n slots_at l.initial.net) 0 (replicate chain_most 0))
    × (ok_slots slots (l.n - l.place) (drop (slots_at + slot_size * l.place) l.net) ≡ true)
