-- `servo_calls::outputs` meets its contract. Assumes nothing.
use native.Mathlib.Omega.{arith}
use Rattle.servo_slot_rules.specs.Slot.{decode_of}
use Rattle.servo_slot_rules.proofs.Tested.{output_in}
use Rattle.servo_calls.proofs.outputs.Goals as goal

pub outputs-requires : goal.outputs-requires
unfolding decode_of
outputs-requires c =
    let k = c in
    rw c.drive_in.ensures (output_in k.args.s.now (λ i. omega (arith, k.type_inv.s i)) k.requires.1)

pub returns : goal.returns
unfolding decode_of
returns c = rw (c.outputs.ensures, c.drive_in.ensures, c.latched_in-latched.ensures)
