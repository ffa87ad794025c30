-- What an I/O module is (document 01, "I/O module"): its power-up, its tick, and a module with a part of it replaced.
use Rattle.std.specs.Prelude.{ℕ}
use Rattle.module_rules.specs.declared.Station.{Station}
use Rattle.module_rules.specs.Touch.{power_up}
use Rattle.inout_rules.specs.declared.Sample.{Sample}
use Rattle.inout_rules.specs.declared.Pins.{Pins}
use Rattle.inout_rules.specs.declared.Synch.{Synch}
use Rattle.inout_rules.specs.declared.Capture.{Capture}
use Rattle.inout_rules.specs.declared.Io.{Io}
use Rattle.inout_rules.specs.Pins.{blend}

-- power-up: all twelve bits inputs, the rest 0; its latched sample is given, since Hard Reset keeps it (02 P11)
abbrev pub fresh : Sample → Io
fresh x = record {
  station = power_up;
  latched = x;
  pins = record { direction = 4095; register = 0; pwm1 = 0; pwm2 = 0 };
  synch = record { bits = 0; pwm1 = 0; pwm2 = 0 };
  timer = 0;
  captured = record { inputs = 0; counter = 0 };
}

abbrev pub no_sample : Sample
no_sample = record { inputs = 0; ad1 = 0; ad2 = 0; ad3 = 0; counter = 0 }

abbrev pub started : Io
started = fresh no_sample

-- a module with one of its parts replaced
abbrev pub with_station : Station → Io → Io
with_station x m = record { station = x; latched = m.latched; pins = m.pins; synch = m.synch; timer = m.timer; captured = m.captured }

abbrev pub with_latched : Sample → Io → Io
with_latched x m = record { station = m.station; latched = x; pins = m.pins; synch = m.synch; timer = m.timer; captured = m.captured }

abbrev pub with_pins : Pins → Io → Io
with_pins p m = record { station = m.station; latched = m.latched; pins = p; synch = m.synch; timer = m.timer; captured = m.captured }

abbrev pub with_synch : Synch → Io → Io
with_synch y m = record { station = m.station; latched = m.latched; pins = m.pins; synch = y; timer = m.timer; captured = m.captured }

abbrev pub with_timer : ℕ → Io → Io
with_timer t m = record { station = m.station; latched = m.latched; pins = m.pins; synch = m.synch; timer = t; captured = m.captured }

abbrev pub with_capture : Capture → Io → Io
with_capture k m = record { station = m.station; latched = m.latched; pins = m.pins; synch = m.synch; timer = m.timer; captured = k }

-- the twelve bits as read now: the sample for inputs, the register for outputs
abbrev pub read_now : Io → ℕ
read_now m = blend 12 m.pins.direction m.latched.inputs m.pins.register

-- 01 I/O module, 02 P11: a tick latches the sample that it is handed
abbrev pub ticked : Sample → Io → Io
ticked x m = with_latched x m
