-- `net_record::power_up_each` meets its contract. The invariant: the modules left, put into the record as it is, give the whole. Assumes nothing.
use mathlib.Core.Path.{◌≡◌}
use mathlib.Core.List.{map}
use Prim.Native.Nat.{◌+◌, ◌*◌}
use lib.ListN.{drop}
use Rattle.types_rules.specs.Types.{slots, powered}
use Rattle.net_rules.specs.Record.{put_modules, slots_at}
use Rattle.module_rules.specs.Slots.{slot_size}
use Rattle.net_record.proofs.power_up_each.Given as goal

abbrev pub invariant-loop-place : goal.invariant-loop-place
invariant-loop-place l =
    put_modules slots (map powered (drop l.place l.types)) (slots_at + slot_size * l.place) l.net ≡ put_modules slots (map powered l.types) slots_at l.initial.net
