-- `replay::run` is safe and ends: before the first byte nothing is gathered. Assumes nothing.
use Rattle.std.proofs.Common.{arith}
use Rattle.base_layout.specs.Bytes.{Bytes}
use Rattle.replay_file.proofs.Fine.{begun}
use Rattle.replay.proofs.run.Goals as goal

pub loop-init : goal.loop-init
loop-init g c =
    let b : Bytes c.args.net.now = λ i. omega (arith, c.type_inv.net i) in
    rw c.start.ensures (
      begun c.args.types.now c.args.samples.now c.args.net.now (record { size = c.requires.0; room = c.requires.1; long = c.requires.2; bytes = b }),
      omega arith,
      omega arith,
      omega arith,
    )
