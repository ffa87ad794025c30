-- `monitor::ExportingConversion::piece` meets its contract. Assumes nothing.
use Rattle.std.proofs.Common.{arith}
use Rattle.monitor.proofs.Pieces.{exported}
use Rattle.monitor.proofs.ExportingConversion.piece.Goals as goal

pub overflow_add-next : goal.overflow_add-next
overflow_add-next g c =
    let p = exported c.args.self.part c.args.self.column c.args.file.now c.put_looked-looked.result c.requires.0.0 c.put_looked-looked.ensures.value in
    omega (arith, p.count, c.requires.1)

pub export_end-requires : goal.export_end-requires
export_end-requires g c =
    let p = exported c.args.self.part c.args.self.column c.args.file.now c.put_looked-looked.result c.requires.0.0 c.put_looked-looked.ensures.value in
    (p.fit, omega (arith, p.begun, c.requires.0.2))

pub returns : goal.returns
returns g c =
    let p = exported c.args.self.part c.args.self.column c.args.file.now c.put_looked-looked.result c.requires.0.0 c.put_looked-looked.ensures.value in
    ((p.fit, p.column, omega (arith, p.begun, c.requires.0.2)), omega (arith, p.count))
