-- Both tables: the reader's and the writer's. Assumes nothing.
use Rattle.host_rules.specs.Promises.{Table}
use Rattle.host_rules.proofs.Table.{reader, writer}

pub table : Table
table = (reader, writer)
