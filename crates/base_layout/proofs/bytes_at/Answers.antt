-- `base_layout::bytes_at` meets its contract. Assumes nothing.
use Rattle.std.proofs.Common.{rules, arith}
use Rattle.base_layout.proofs.Laws.{read_at_part}
use Rattle.base_layout.proofs.bytes_at.Goals as goal

pub returns : goal.returns
returns g c = rw (read_at_part g.row.N c.args.at c.args.s.now (omega arith)) (search rules)
