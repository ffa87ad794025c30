-- `monitor_file::column_behind` meets its contract. The invariant: no newline stands from the place on. Assumes nothing.
use mathlib.Core.Path.{◌≡◌}
use Prim.Native.Nat.{◌-◌, ◌≤◌}
use lib.ListN.{length, drop}
use Rattle.base_text.specs.Digits.{newline}
use Rattle.text_rules.specs.Promises.{occurs}
use Rattle.monitor_file.proofs.column_behind.Given as goal

abbrev pub invariant-loop-i : goal.invariant-loop-i
invariant-loop-i l = (l.i ≤ length l.text) × (occurs newline (drop l.i l.text) ≡ 0)

abbrev pub decreases-loop-i : goal.decreases-loop-i
decreases-loop-i l = l.i
