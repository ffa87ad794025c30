-- `net_record::is_each_ok` meets its contract. The invariant: what the slots left say is what they all say. Assumes nothing.
use mathlib.Core.Path.{◌≡◌}
use Prim.Native.Nat.{◌+◌, ◌*◌, ◌-◌}
use lib.ListN.{drop}
use Rattle.types_rules.specs.Types.{slots}
use Rattle.net_rules.specs.Record.{ok_slots, slots_at}
use Rattle.module_rules.specs.Slots.{slot_size}
use Rattle.net_record.proofs.is_each_ok.Given as goal

abbrev pub invariant-loop-place : goal.invariant-loop-place
invariant-loop-place l = ok_slots slots (l.n - l.place) (drop (slots_at + slot_size * l.place) l.net) ≡ ok_slots slots l.n (drop slots_at l.net)
