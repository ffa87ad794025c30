-- `net_traffic::tick` meets its contract. The invariant: the ticks left, at the record as it is, give the whole. Assumes nothing.
use mathlib.Core.Path.{◌≡◌}
use mathlib.Core.Bool.{true}
use Prim.Native.Nat.{◌+◌, ◌*◌, ◌-◌, ◌≤◌}
use lib.ListN.{length, drop}
use Rattle.module_rules.specs.Slots.{slot_size, sample_size}
use Rattle.types_rules.specs.Types.{kind, slots}
use Rattle.net_rules.specs.Record.{ok_slots, slots_at}
use Rattle.net_rules.specs.Walk.{ticked}
use Rattle.net_rules.specs.Calls.{samples_in}
use Rattle.net_traffic.proofs.tick.Given as goal

abbrev pub invariant-loop-place : goal.invariant-loop-place
invariant-loop-place l =
    (slots_at + l.n * slot_size ≤ length l.net)
    × (ticked kind slots (samples_in (l.n - l.place) (drop (l.place * sample_size) l.samples)) (slots_at + l.place * slot_size) l.net ≡ ticked kind slots (samples_in l.n l.samples) slots_at l.initial.net)
    × (ok_slots slots (l.n - l.place) (drop (slots_at + l.place * slot_size) l.net) ≡ true)
