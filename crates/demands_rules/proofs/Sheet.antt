-- The bench sheet, computed. Assumes nothing.
use mathlib.Core.Path.{refl}
use lib.Count.{ones}
use Rattle.base_integers.specs.Whole.{signed, difference}
use Rattle.line_receiver.specs.Receive.{taken}
use Rattle.line_receiver.specs.Frames.{reads, after}
use Rattle.module_rules.specs.Commands.{asked}
use Rattle.module_rules.specs.Rules.{request, execute}
use Rattle.chain_rules.specs.Chain.{byte_step}
use Rattle.servo_motion.specs.Trapezoid.{terms, stop, pick, greatest, next_speed}
use Rattle.servo_motion.specs.Setpoint.{distance, moved}
use Rattle.servo_motion.specs.Velocity.{toward}
use Rattle.servo_motion.specs.Profile.{trapezoid, stepped, by_trapezoid, by_velocity, speeds}
use Rattle.servo_filter.specs.Filter.{held}
use Rattle.servo_rules.specs.Asks.{load_meant, own}
use Rattle.demands_rules.specs.Meaning.{Sheet}

pub sheet : Sheet
unfolding signed difference taken reads after asked byte_step terms stop pick greatest next_speed distance moved toward trapezoid stepped by_trapezoid by_velocity speeds held ones load_meant own request execute
sheet = (refl, (refl, (refl, (refl, (refl, (refl, (refl, (refl, (refl, (refl, tt))))))))))
