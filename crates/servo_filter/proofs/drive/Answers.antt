-- `servo_filter::drive` meets its contract: each part, and each sum on the way, is small enough for the machine. Assumes nothing.
use Rattle.std.proofs.Common.{◌≡◌, ◌+ℤ◌, to_z, of_z, arith}
use Rattle.std.specs.Int.{w64}
use Rattle.std.proofs.lemmas.Int.{ints, to_z-of_z}
use Rattle.base_integers.proofs.Sizes.{fits}
use Rattle.servo_filter.specs.Filter.{drive}
use Rattle.servo_filter.proofs.Sizes.{Bounded, first_two_most, drive_most}
use Rattle.servo_filter.proofs.drive.Goals as goal
use Rattle.servo_filter.proofs.drive.Goals.{Start}

bounded : (s : Start) → Bounded s.args.g s.args.e s.args.previous s.args.integral 65535 65535 65535 65535
bounded s = record { kp = omega arith; kd = omega arith; ki = omega arith; error = omega arith; previous = omega arith; integral = omega arith }

pub total-requires-clause-sfits : goal.total-requires-clause-sfits
total-requires-clause-sfits c =
    let a = c.args in
    let m = first_two_most a.g a.e a.previous a.integral 65535 65535 65535 65535 (bounded (goal.at.total-requires-clause-sfits c).Start) in
    grind (arith, ints, to_z-of_z)

pub total-requires-clause-sfits_2 : goal.total-requires-clause-sfits_2
unfolding drive
total-requires-clause-sfits_2 c =
    let a = c.args in
    let m = drive_most a.g a.e a.previous a.integral 65535 65535 65535 65535 (bounded (goal.at.total-requires-clause-sfits_2 c).Start) in
    let sum : to_z w64 (of_z w64 c.times.result) +ℤ to_z w64 (of_z w64 c.times-2.result) +ℤ to_z w64 (of_z w64 c.times-3.result)
    ≡ drive a.g a.e a.previous a.integral = grind (arith, ints, to_z-of_z) in
    rw sum (fits _ (omega arith))

pub returns : goal.returns
unfolding drive
returns c = grind (arith, ints, to_z-of_z)
