-- `servo_reply::status` meets its contract: a test as a number, times what its bit is worth, is what the bit shows. Assumes nothing.
use Rattle.std.proofs.Common.{◌≡◌, ℕ, ◌*◌, Bool, true, false, arith}
use Rattle.std.specs.Int.{from_bool}
use Rattle.servo_rules.specs.State.{good}
use Rattle.servo_rules.specs.Answers.{done, bit_at, status_of}
use Rattle.servo_reply.proofs.status.Goals as goal

worth : (n : ℕ) (b : Bool) → n * from_bool b ≡ bit_at n b
worth n true = omega arith
worth n false = omega arith

pub returns : goal.returns
unfolding status_of
returns c =
    let r = c.args.r in
    let e = c.cause_bit.ensures in
    let d = worth 1 (done r) in
    omega (arith, worth 4 r.drive.cut, worth 8 (good c.args.x.power), worth 16 r.drive.error, rw c.is_done.ensures at c.from.ensures)
