-- What the I/O module's own commands do (document 01, "I/O module").
use Rattle.std.specs.Prelude.{ℕ, Bool, true}
use Rattle.inout_rules.specs.declared.Pins.{Pins}
use Rattle.inout_rules.specs.declared.Io.{Io}
use Rattle.inout_rules.specs.declared.Command.{Command}
use Rattle.inout_rules.specs.declared.Command.TheVariants.{Direction, Pwm, SynchOutput, Output, SynchStore, Timer, SynchInput}
use Rattle.inout_rules.specs.Pins.{blend}
use Rattle.inout_rules.specs.State.{with_pins, with_synch, with_timer, with_capture, read_now}

abbrev pub directed : ℕ → Pins → Pins
directed d p = record { direction = d; register = p.register; pwm1 = p.pwm1; pwm2 = p.pwm2 }

abbrev pub pulsed : ℕ → ℕ → Pins → Pins
pulsed a b p = record { direction = p.direction; register = p.register; pwm1 = a; pwm2 = b }

-- only bits directed as outputs change
abbrev pub output : ℕ → Pins → Pins
output bits p = record { direction = p.direction; register = blend 12 p.direction p.register bits; pwm1 = p.pwm1; pwm2 = p.pwm2 }

-- nothing of this type is 3, not now
abbrev pub can : Command → Io → Bool
can c m = true

abbrev pub perform : Command → Io → Io
perform (Direction d) m = with_pins (directed d m.pins) m
perform (Pwm a b) m = with_pins (pulsed a b m.pins) m
perform SynchOutput m = with_pins (pulsed m.synch.pwm1 m.synch.pwm2 (output m.synch.bits m.pins)) m
perform (Output bits) m = with_pins (output bits m.pins) m
perform (SynchStore bits a b) m = with_synch (record { bits = bits; pwm1 = a; pwm2 = b }) m
perform (Timer t) m = with_timer t m
perform SynchInput m = with_capture (record { inputs = read_now m; counter = m.latched.counter }) m
