-- What a load stores, and that starts, stops and shifts keep the velocity and acceleration that were loaded. Assumes nothing.
use mathlib.Core.Path.{◌≡◌, refl}
use mathlib.Core.Bool.{or-true}
use Rattle.base_integers.specs.Bits.{is_set}
use Rattle.servo_rules.specs.declared.Settings.{Settings}
use Rattle.servo_rules.specs.State.{dropped}
use Rattle.servo_rules.specs.Loads.{way_of, rates_of, loaded, start}
use Rattle.servo_rules.specs.Stops.{drops}
use Rattle.servo_rules.specs.Perform.{reset_position, stopped}
use Rattle.servo_rules.specs.LoadPromises.{Loads, Ways}
use Rattle.servo_rules.proofs.Keeping.{either}

pub loads : Loads
unfolding loaded rates_of start stopped reset_position
loads c m = record {
  does = λ e. rw e refl;
  load = refl;
  profile = refl;
  memory = refl;
  drive = refl;
  velocity = λ e. (rw e refl, rw e refl);
  no_velocity = λ e. (rw e refl, rw e refl);
  acceleration = λ e. (rw e refl, rw e refl);
  no_acceleration = λ e. (rw e refl, rw e refl);
  paced = λ e. rw e (or-true (is_set 1 c.control));
  ramped = λ e. rw e (or-true (is_set 2 c.control));
  used = refl;
  stopping = λ a h x. either (λ (s : Settings). s.rates ≡ m.settings.rates) (drops h) (dropped m.settings) m.settings refl refl;
  shifting = refl;
}

pub ways : Ways
unfolding way_of
ways control = (λ e. rw e refl, λ e g. rw (e, g) refl, λ e g. rw (e, g) refl)
