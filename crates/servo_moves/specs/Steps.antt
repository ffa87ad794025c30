-- What a walk asks of its step.
use Rattle.std.specs.Prelude.{◌<◌}
use Rattle.servo_motion.specs.declared.Profile.{Profile}
use Rattle.servo_motion.specs.Profile.{Ranged}

-- a profile that either mode can step
pub record Moving (p : Profile) : Type 0 where
  pub ranged : Ranged p
  pub force : 0 < p.acceleration
