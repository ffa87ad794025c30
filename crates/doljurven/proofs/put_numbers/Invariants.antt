-- `doljurven::put_numbers` meets its contract. The invariant: the numbers left, put where the loop is, give the whole. Assumes nothing.
use Rattle.std.proofs.Common.{◌≡◌, ◌+◌, ◌*◌, ◌-◌}
use Rattle.base_layout.specs.Bytes.{pasted}
use Rattle.api_rules.specs.Calls.{numbers_bytes}
use Rattle.doljurven.proofs.put_numbers.Given as goal

abbrev pub invariant-loop-i : goal.invariant-loop-i
invariant-loop-i l = pasted (1 + 4 * l.i) (numbers_bytes (8 - l.i) l.i l.n-items) l.s ≡ pasted 1 (numbers_bytes 8 0 l.n-items) l.initial.s
