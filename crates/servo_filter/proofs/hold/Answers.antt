-- `servo_filter::hold` meets its contract: holding is the library's clamp. Assumes nothing.
use Rattle.std.proofs.Common.{◌≡◌, ℤ, pos, neg_ℤ, ℕ, arith}
use Rattle.std.proofs.lemmas.Int.{ints, clamps}
use Rattle.std.specs.Int.{int_min, int_max}
use Rattle.base_integers.specs.Whole.{lesser, greater}
use Rattle.servo_filter.specs.Filter.{held}
use Rattle.servo_filter.proofs.hold.Goals as goal

lesser_is : (x y : ℤ) → lesser x y ≡ int_min x y
lesser_is x y = grind (arith, ints)

greater_is : (x y : ℤ) → greater x y ≡ int_max x y
greater_is x y = grind (arith, ints)

held_is : (n : ℕ) (z : ℤ) → held n z ≡ int_max (neg_ℤ (pos n)) (int_min z (pos n))
unfolding held
held_is n z = rw (lesser_is z (pos n)) (greater_is (neg_ℤ (pos n)) (int_min z (pos n)))

pub returns : goal.returns
returns c = grind (arith, ints, clamps, held_is)
