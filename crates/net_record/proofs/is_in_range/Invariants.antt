-- `net_record::is_in_range` meets its contract. The invariant: what the samples left say is what they all say. Assumes nothing.
use mathlib.Core.Path.{◌≡◌}
use Prim.Native.Nat.{◌*◌, ◌-◌}
use lib.ListN.{drop}
use Rattle.module_rules.specs.Slots.{sample_size}
use Rattle.net_rules.specs.Calls.{all_in_range}
use Rattle.net_record.proofs.is_in_range.Given as goal

abbrev pub invariant-loop-place : goal.invariant-loop-place
invariant-loop-place l = all_in_range (l.n - l.place) (drop (sample_size * l.place) l.samples) ≡ all_in_range l.n l.samples
