-- `monitor::ImportingConversion::piece` meets its contract. Assumes nothing.
use Rattle.std.proofs.Common.{◌*◌, arith, sym, ap, subst, take}
use Rattle.std.proofs.Math.Seq.{length-take-le}
use Rattle.text_rules.specs.Import.{stage_of}
use Rattle.monitor_file.specs.declared.Spot.{Spot}
use Rattle.monitor_file.specs.Spots.{Near}
use Rattle.monitor_file.proofs.SpotParts.{near_after, spot_offset}
use Rattle.monitor.proofs.Pieces.{imported}
use Rattle.monitor.proofs.ImportingConversion.piece.Goals as goal

pub overflow_mul-wrote : goal.overflow_mul-wrote
overflow_mul-wrote g c =
    let p = imported (stage_of c.args.self.reader) c.args.text.now c.put_records-read.result c.requires.0.0 c.put_records-read.ensures.came_to in
    omega (arith, p.bytes, c.requires.2)

pub slice_bounds-put-end : goal.slice_bounds-put-end
slice_bounds-put-end g c =
    let p = imported (stage_of c.args.self.reader) c.args.text.now c.put_records-read.result c.requires.0.0 c.put_records-read.ensures.came_to in
    omega (arith, p.bytes, c.requires.2, c.put_records-read.auto.room)

pub slice_bounds-put-end-2 : goal.slice_bounds-put-end-2
slice_bounds-put-end-2 g c =
    let p = imported (stage_of c.args.self.reader) c.args.text.now c.put_records-read.result c.requires.0.0 c.put_records-read.ensures.came_to in
    sym (length-take-le (3 * c.put_records-read.result.bytes) c.put_records-read.new.room (omega (arith, p.bytes, c.requires.2, c.put_records-read.auto.room)))

pub slice_bounds-spot_after-end : goal.slice_bounds-spot_after-end
slice_bounds-spot_after-end g c =
    let p = imported (stage_of c.args.self.reader) c.args.text.now c.put_records-read.result c.requires.0.0 c.put_records-read.ensures.came_to in
    sym (length-take-le c.put_records-read.result.count c.args.text.now p.count)

pub returns : goal.returns
returns g c =
    let p = imported (stage_of c.args.self.reader) c.args.text.now c.put_records-read.result c.requires.0.0 c.put_records-read.ensures.came_to in
    let n = c.put_records-read.result.count in
    let t = take n c.args.text.now in
    let e = c.spot_after-spot.ensures in
    ((p.fit, subst Near (sym e) (near_after c.args.self.spot t c.requires.0.1)), omega (arith, ap (λ (x : Spot). x.offset) e, spot_offset c.args.self.spot t, length-take-le n c.args.text.now p.count, p.count))
