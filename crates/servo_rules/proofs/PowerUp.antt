-- What a servo is at power-up, field by field. Assumes nothing.
use mathlib.Core.Path.{refl}
use Rattle.servo_rules.specs.declared.Sample.{Sample}
use Rattle.servo_rules.specs.State.{fresh}
use Rattle.servo_rules.specs.Answers.{done, status_of}
use Rattle.servo_rules.specs.Promises.{Blank, PowerUp}

fresh-blank : (x : Sample) → Blank (fresh x)
unfolding done
fresh-blank x = record {
  mode = refl;
  finished = refl;
  error = refl;
  amplifier = refl;
  cut = refl;
  output = refl;
  pulse = refl;
  speed = refl;
  profile = refl;
  integral = refl;
  previous = refl;
  kp = refl;
  kd = refl;
  ki = refl;
  il = refl;
  ol = refl;
  el = refl;
  cl = refl;
  sm = refl;
  homing = (refl, refl);
  waits = refl;
  placed = (refl, refl);
  pulsed = (refl, refl);
  reverse = refl;
  paced = refl;
  ramped = refl;
  velocity = refl;
  acceleration = refl;
  individual = refl;
  group = refl;
  leader = refl;
  low = refl;
  cause = refl;
  items = refl;
  baud = refl;
}

pub power_up_lem : PowerUp
unfolding status_of done
power_up_lem = record {
  blank = fresh-blank _;
  renewed = λ m. fresh-blank m.latched;
  latched = (refl, refl, refl, refl);
  counts = (refl, refl);
  here = refl;
  status = refl;
}
