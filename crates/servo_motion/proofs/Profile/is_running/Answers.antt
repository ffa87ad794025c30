-- `servo_motion::Profile::is_running` meets its contract: without acceleration the first test fails; with it the others are made. Assumes nothing.
use mathlib.Core.Path.{◌≡◌, refl}
use mathlib.Core.Bool.{Bool, not, ◌&&◌}
use Prim.Native.Nat.{ℕ, ◌-◌, ◌^◌, ◌<◌}
use native.Mathlib.Omega.{arith}
use borrow.Author.Tests.{lt-ltb}
use lib.Dec.{eqb, leb}
use lib.IntN.{nat_abs}
use Rattle.std.proofs.lemmas.Int.{ints, to_z-of_z}
use Rattle.servo_motion.specs.declared.Profile.{Profile}
use Rattle.servo_motion.specs.Trapezoid.{stop}
use Rattle.servo_motion.specs.Profile.{left, away, heads, running}
use Rattle.servo_motion.proofs.Apart.{distance_most}
use Rattle.servo_motion.proofs.Profile.is_running.Goals as goal

put-together : (p : Profile) {v x : ℕ} {h t : Bool} → 0 < p.acceleration → v ≡ nat_abs p.speed → h ≡ heads (left p) p.speed
    → t ≡ leb (stop (nat_abs p.speed - p.acceleration) p.acceleration) (nat_abs (left p))
    → x ≡ away p → (leb v p.top && h && t && not (eqb x (2 ^ 31))) ≡ running p
unfolding running
put-together p f e g k w = rw (lt-ltb 0 p.acceleration f, e, g, k, w) refl

pub returns-then-a-eq0 : goal.returns-then-a-eq0
unfolding running
returns-then-a-eq0 c = rw c.if-a-eq0.true refl

pub can_stop-stops-requires : goal.can_stop-stops-requires
can_stop-stops-requires c = let p = c.args.self in (omega arith, omega (arith, ints, distance_most p.goal p.setpoint))

pub returns : goal.returns
returns c =
    put-together c.args.self (omega arith) (grind (arith, ints, to_z-of_z)) (grind (arith, ints, to_z-of_z)) (grind (arith, ints, to_z-of_z))
    (rw c.whole.ensures refl)
