-- `servo_calls::tick_found` meets its contract. Assumes nothing.
use native.Mathlib.Omega.{arith}
use Rattle.servo_slot_rules.proofs.Tested.{met_in}
use Rattle.servo_calls.proofs.tick_found.Goals as goal

pub ticked-requires : goal.ticked-requires
ticked-requires c =
    let k = c in
    let a = k in
    rw c.decode-before.ensures (met_in a.args.s.now (λ i. omega (arith, k.slice_known-1.given i)) a.requires.1 a.args.x)
