-- What a step-motor module is (document 02, P3): its power-up, and a module with a part of it replaced.
use Rattle.std.specs.Prelude.{ℕ, Bool, false, not, eqb}
use Rattle.module_rules.specs.declared.Station.{Station}
use Rattle.module_rules.specs.Touch.{power_up}
use Rattle.stepper_rules.specs.declared.Settings.{Settings}
use Rattle.stepper_rules.specs.declared.Load.{Load}
use Rattle.stepper_rules.specs.declared.Motion.{Motion}
use Rattle.stepper_rules.specs.declared.Stepper.{Stepper}

-- no load waits
abbrev pub no_load : Load
no_load = record { waits = false; backward = false; speed = 0; time = 0 }

-- no motion
abbrev pub rest : Motion
rest = record { speed = 0; backward = false; goal = 0; time = 0; ticks = 0; stopping = false }

-- moving is a speed other than 0
abbrev pub is_moving : Motion → Bool
is_moving p = not (eqb p.speed 0)

-- power-up: all 0, so before Set Parameters; Hard Reset makes the same, since no sample is kept
abbrev pub started : Stepper
started = record {
  station = power_up;
  settings = record { amplifier = false; minimum = 0; place = 0; timer = 0 };
  load = no_load;
  motion = rest;
  position = 0;
}

-- a module with some of its parts replaced
abbrev pub with_station : Station → Stepper → Stepper
with_station x m = record { station = x; settings = m.settings; load = m.load; motion = m.motion; position = m.position }

abbrev pub with_settings : Settings → Stepper → Stepper
with_settings s m = record { station = m.station; settings = s; load = m.load; motion = m.motion; position = m.position }

abbrev pub with_load : Load → Stepper → Stepper
with_load l m = record { station = m.station; settings = m.settings; load = l; motion = m.motion; position = m.position }

abbrev pub with_motion : Motion → Stepper → Stepper
with_motion p m = record { station = m.station; settings = m.settings; load = m.load; motion = p; position = m.position }

abbrev pub with_position : ℕ → Stepper → Stepper
with_position x m = record { station = m.station; settings = m.settings; load = m.load; motion = m.motion; position = x }
