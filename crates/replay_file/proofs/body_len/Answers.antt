-- `replay_file::body_len` meets its contract: an unknown kind has no body. Assumes nothing.
use native.Mathlib.Omega.{arith}
use borrow.Author.Tests.{ne_eqb}
use Rattle.replay_file.specs.Records.{body_length}
use Rattle.replay_file.proofs.body_len.Goals as goal

pub returns-in-Err : goal.returns-in-Err
unfolding body_length
returns-in-Err c =
    let k = c.args.kind in
    let h = c.in-Err.ensures in
    rw (ne_eqb k 0 (λ e. omega arith), ne_eqb k 1 (λ e. omega arith), ne_eqb k 2 (λ e. omega arith), ne_eqb k 3 (λ e. omega arith), ne_eqb k 5 (λ e. omega arith))
