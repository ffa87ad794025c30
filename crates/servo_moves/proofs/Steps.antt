-- Either mode's step keeps a profile moving. Assumes nothing.
use Rattle.servo_motion.specs.declared.Profile.{Profile}
use Rattle.servo_motion.specs.Profile.{stepped, by_trapezoid, by_velocity}
use Rattle.servo_motion.proofs.Runs.{in_range}
use Rattle.servo_moves.specs.Steps.{Moving}

pub trapezoid_kept : (p : Profile) → Moving p → Moving (by_trapezoid p)
unfolding by_trapezoid stepped
trapezoid_kept p m = record { ranged = (in_range p m.ranged).0; force = m.force }

pub velocity_kept : (p : Profile) → Moving p → Moving (by_velocity p)
unfolding by_velocity stepped
velocity_kept p m = record { ranged = (in_range p m.ranged).1; force = m.force }
