-- The step-motor modules that a slot can hold, in words. Assumes nothing.
use mathlib.Core.Path.{◌≡◌, ap₂}
use mathlib.Core.List.{[], ◌∷◌}
use mathlib.Core.Bool.{true, ◌&&◌}
use Prim.Native.Nat.{◌^◌, ◌<◌}
use Rattle.base_layout.proofs.Every.{every_hold}
use Rattle.module_rules.specs.Slot.{station}
use Rattle.stepper_rules.specs.declared.Stepper.{Stepper}
use Rattle.stepper_rules.specs.Answers.{shows}
use Rattle.stepper_slot_rules.specs.Slot.{settings, load, steady}
use Rattle.stepper_slot_rules.specs.Promises.{Fits}
use Rattle.stepper_slot_rules.proofs.Steady.{Steady, steady-good, steady_fits, motion_fits}

pub record Good (m : Stepper) : Type 0 where
  pub station : station.codec.fits m.station
  pub shown : shows m.station.items ≡ true
  pub settings : settings.codec.fits m.settings
  pub load : load.codec.fits m.load
  pub motion : Steady m.settings.minimum m.motion
  pub position : m.position < 2 ^ 32

module _ (m : Stepper) where
  pub good : Fits m → Good m
  good t =
      let x = t.0.1 in
      let h = every_hold (shows m.station.items ∷ steady m.settings.minimum m.motion ∷ []) t.1 in
      record {
        station = x.0;
        shown = h.0;
        settings = x.1.0;
        load = x.1.1.0;
        motion = steady-good _ m.motion x.1.1.1.0 h.1.0;
        position = x.1.1.1.1;
      }

  pub fits : Good m → Fits m
  fits g = (
    (tt, (g.station, (g.settings, (g.load, (motion_fits m.settings.minimum m.motion g.motion, g.position))))),
    ap₂ ◌&&◌ g.shown (steady_fits _ m.motion g.motion),
  )
