-- What a command of both types makes of a station still fits its layout. Assumes nothing.
use Prim.Native.Nat.{ℕ, ◌≤◌, ◌<◌}
use native.Mathlib.Omega.{arith}
use Rattle.module_rules.specs.declared.Station.{Station}
use Rattle.module_rules.specs.declared.Setting.{Setting}
use Rattle.module_rules.specs.declared.Setting.TheVariants.{Assign, Define, Rate, Nothing}
use Rattle.module_rules.specs.Touch.{power_up}
use Rattle.module_rules.specs.Commands.{applied, caused}
use Rattle.module_rules.specs.Slot.{station}

pub power_up_fits : station.codec.fits power_up
power_up_fits = ((omega arith, (omega arith, (tt, tt))), ((omega arith, omega arith), (omega arith, omega arith)))

pub caused_fits : (c : ℕ) → c ≤ 5 → (s : Station) → station.codec.fits s → station.codec.fits (caused c s)
caused_fits c h s t = (t.0, ((omega arith, h), t.1.1))

-- the numbers that a setting stores as they are, which are bytes; a group is taken modulo 128
abbrev pub Sized : Setting → Type 0
Sized (Assign a b) = a < 256
Sized (Define items) = items < 256
Sized (Rate baud) = baud < 256
Sized Nothing = Unit {0}

pub applied_fits : (z : Setting) → Sized z → (s : Station) → station.codec.fits s → station.codec.fits (applied z s)
applied_fits (Assign a b) h s t = ((h, (omega arith, (tt, tt))), t.1)
applied_fits (Define items) h s t = (t.0, (t.1.0, (h, t.1.1.1)))
applied_fits (Rate baud) h s t = (t.0, (t.1.0, (t.1.1.0, h)))
applied_fits Nothing h s t = t
