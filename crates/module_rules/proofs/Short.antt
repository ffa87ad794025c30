-- A reply has at most two bytes more than its items. Assumes nothing.
use mathlib.Core.List.{List, [], ◌∷◌}
use mathlib.Core.Bool.{Bool, true, false, cond, ◌&&◌}
use Prim.Native.Nat.{ℕ, ◌+◌, ◌%◌, ◌≤◌}
use native.Mathlib.Omega.{arith}
use lib.ListN.{length, length-append}
use lib.Dec.{eqb}
use Rattle.line_receiver.specs.Receive.{total}
use Rattle.line_receiver.specs.Frames.{Frame}
use Rattle.module_rules.specs.declared.Station.{Station}
use Rattle.module_rules.specs.Report.{chosen, report, items_for, reply_of}
use Rattle.module_rules.proofs.Items.{chosen_short}

report_short : (status items : ℕ) (ks xs : List ℕ) → length (report status items ks xs) ≤ total ks + 2
unfolding report
report_short status items ks xs =
    let body : List ℕ = status ∷ chosen items ks xs in
    omega (arith, length-append body (total body % 256 ∷ []), chosen_short items ks xs)

none_or : (t : Bool) (xs : List ℕ) (n : ℕ) → length xs ≤ n → length (cond t [] xs) ≤ n
none_or true xs n h = omega arith
none_or false xs n h = h

pub reply_short : (f : Frame) (s : Station) (status : ℕ) (ks xs : List ℕ) → length (reply_of f s status ks xs) ≤ total ks + 2
unfolding reply_of
reply_short f s status ks xs =
    none_or (eqb f.code 15 && eqb s.cause 0) (report status (items_for f s) ks xs) (total ks + 2) (report_short status (items_for f s) ks xs)
