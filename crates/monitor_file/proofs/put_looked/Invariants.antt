-- `monitor_file::put_looked` meets its contract. The invariant: what the bytes left come to gives the whole. Assumes nothing.
use Prim.Native.Nat.{◌<◌}
use Rattle.monitor_file.specs.Looking.{look_from, Fit}
use Rattle.monitor_file.proofs.Looking.{Looking}
use Rattle.monitor_file.proofs.put_looked.Given as goal

abbrev pub invariant-loop-i : goal.invariant-loop-i
invariant-loop-i l =
    Fit l.part × (l.column < 16) × Looking (look_from l.initial.part l.file) l.first l.file l.initial.room l.part l.column l.wrote l.i l.room
