-- `servo_filter::at_error` meets its contract: off past the limit, else the integral, the drive with it, and the output. Assumes nothing.
use Rattle.std.proofs.Common.{◌≡◌, true, nat_abs, arith}
use lib.Dec.{leb}
use Rattle.std.proofs.lemmas.Int.{ints, to_z-of_z}
use Rattle.servo_filter.specs.Filter.{summed, driven, scaled, limited, filtered}
use Rattle.servo_filter.proofs.Held.{held_most}
use Rattle.servo_filter.proofs.at_error.Goals as goal

pub returns-then-g-unsigned_abs : goal.returns-then-g-unsigned_abs
unfolding filtered
returns-then-g-unsigned_abs c = grind (arith, to_z-of_z)

pub drive-u-requires : goal.drive-u-requires
drive-u-requires c = grind (arith, ints, to_z-of_z, held_most)

pub returns : goal.returns
unfolding filtered
returns c =
    let g = c.args.g in
    let m = c.args.m in
    let e = c.args.e in
    let within : leb (nat_abs e) g.el ≡ true = grind (arith, ints, to_z-of_z) in
    let integral : c.hold-integral.result ≡ summed g m e = grind (arith, ints, to_z-of_z) in
    let u : c.drive-u.result ≡ driven g m e = grind (arith, ints, to_z-of_z) in
    let output : c.limit.result ≡ limited g.ol (scaled (driven g m e)) = grind (arith, to_z-of_z) in
    rw within (grind (arith, ints, to_z-of_z))
