-- `text_import::put_records` meets its contract. The invariant: what the characters left come to gives the whole, and so do their records, put where
-- the loop stands, as many as there is room for. Assumes nothing.
use mathlib.Core.Path.{◌≡◌}
use Prim.Native.Nat.{◌*◌, ◌-◌, ◌≤◌}
use lib.ListN.{length, take, drop}
use Rattle.base_layout.specs.Bytes.{pasted}
use Rattle.text_rules.specs.Records.{records}
use Rattle.text_rules.specs.Import.{step, read_from, Fit, stage_of}
use Rattle.text_rules.proofs.Folding.{Midway}
use Rattle.text_import.proofs.put_records.Given as goal

abbrev pub invariant-loop-i : goal.invariant-loop-i
invariant-loop-i l =
    Fit (stage_of l.reader)
    × (l.bytes ≤ l.i)
    × (length l.room ≡ length l.initial.room)
    × Midway step (read_from (stage_of l.initial.reader) l.text) (stage_of l.reader) l.text l.i l.bytes
    × (pasted (3 * l.bytes) (records (take (l.most - l.bytes) (read_from (stage_of l.reader) (drop l.i l.text)).bytes)) l.room
    ≡ pasted 0 (records (take l.most (read_from (stage_of l.initial.reader) l.text).bytes)) l.initial.room)
