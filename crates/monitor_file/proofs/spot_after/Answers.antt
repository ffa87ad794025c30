-- `monitor_file::spot_after` meets its contract: the line fits, since the place that it belongs to is near. Assumes nothing.
use mathlib.Core.Path.{sym}
use native.Mathlib.Omega.{arith}
use Rattle.monitor_file.specs.Spots.{spot_after}
use Rattle.monitor_file.proofs.SpotParts.{spot_put, near_after, spot_offset, spot_line, newlines_counted}
use Rattle.monitor_file.proofs.spot_after.Goals as goal

pub overflow_add-result-2 : goal.overflow_add-result-2
overflow_add-result-2 c =
    let s = c in
    let f = s.args.from in
    let t = s.args.text.now in
    omega (arith, c.newlines.ensures, newlines_counted t, spot_line f t, spot_offset f t, (near_after f t s.requires.0).0, s.requires.1)

pub returns : goal.returns
returns c =
    let f = c.args.from in
    let t = c.args.text.now in
    spot_put (spot_after f t) (sym (spot_offset f t)) (omega (arith, spot_line f t, newlines_counted t, c.newlines.ensures)) c.column_behind.ensures
