-- `monitor_file::begun` meets its contract. Assumes nothing.
use native.Mathlib.Omega.{arith}
use Rattle.replay_file.proofs.Turning.{body_short}
use Rattle.replay_file.specs.Records.{number_of}
use Rattle.monitor_file.proofs.begun.Goals as goal

pub overflow_cast-left : goal.overflow_cast-left
overflow_cast-left c = omega (arith, c.body_len-left.ensures, body_short (number_of c.in-Ok.known))
