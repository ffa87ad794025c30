-- `net_record::is_each_typed` meets its contract. The invariant: what the places left say is what they all say. Assumes nothing.
use mathlib.Core.Path.{◌≡◌}
use mathlib.Core.Bool.{true}
use Prim.Native.Nat.{◌+◌, ◌*◌, ◌-◌}
use lib.ListN.{drop}
use Rattle.module_rules.specs.Slots.{slot_size, sample_size}
use Rattle.types_rules.specs.Types.{slots}
use Rattle.net_rules.specs.Record.{modules_in, ok_slots, slots_at}
use Rattle.net_rules.specs.Calls.{all_typed}
use Rattle.net_record.proofs.is_each_typed.Given as goal

abbrev pub invariant-loop-place : goal.invariant-loop-place
invariant-loop-place l =
    (ok_slots slots (l.n - l.place) (drop (slots_at + slot_size * l.place) l.net) ≡ true)
    × (all_typed (modules_in slots (l.n - l.place) (drop (slots_at + slot_size * l.place) l.net)) (drop (sample_size * l.place) l.samples) ≡ all_typed (modules_in slots l.n (drop slots_at l.net)) l.samples)
