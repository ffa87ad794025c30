-- The station stands apart from all else that a step-motor module has, and nothing else looks at it. Assumes nothing.
use mathlib.Core.Path.{◌≡◌, refl, ap}
use mathlib.Core.Bool.{Bool, true, false, cond}
use Prim.Native.Nat.{◌+◌}
use Rattle.base_layout.specs.Codec.{bit}
use Rattle.module_rules.specs.declared.Station.{Station}
use Rattle.module_rules.specs.Promises.{Apart, Unseen}
use Rattle.stepper_rules.specs.declared.Order.{Order}
use Rattle.stepper_rules.specs.declared.Order.TheVariants.{LoadTrajectory, Start, SetParameters, Stop}
use Rattle.stepper_rules.specs.declared.Stepper.{Stepper}
use Rattle.stepper_rules.specs.State.{is_moving, with_station}
use Rattle.stepper_rules.specs.Ramp.{ticked}
use Rattle.stepper_rules.specs.Perform.{loaded, starts_now, startable, start, parameters_set, stopped, can, perform}
use Rattle.stepper_rules.specs.Answers.{stepper}

either_blind : (t : Bool) (s : Station) (m n : Stepper) → cond t (with_station s m) (with_station s n) ≡ with_station s (cond t m n)
either_blind true s m n = refl
either_blind false s m n = refl

performs_blind : (c : Order) (s : Station) (m : Stepper) → perform c (with_station s m) ≡ with_station s (perform c m)
unfolding loaded start parameters_set stopped
performs_blind (LoadTrajectory c) s m = either_blind (starts_now c) s (start (loaded c m)) (loaded c m)
performs_blind Start s m = refl
performs_blind (SetParameters v) s m = refl
performs_blind (Stop a h) s m = refl

can_blind : (c : Order) (s : Station) (m : Stepper) → can c (with_station s m) ≡ can c m
unfolding loaded startable
can_blind (LoadTrajectory c) s m = refl
can_blind Start s m = refl
can_blind (SetParameters v) s m = refl
can_blind (Stop a h) s m = refl

pub apart : Apart stepper
unfolding ticked
apart = record {
  put = λ s m. refl;
  again = λ s t m. refl;
  perform = λ c m. ap (λ (n : Stepper). n.station) (performs_blind c m.station m);
  renewed = λ m. refl;
  tick = λ x m. refl;
}

pub unseen : Unseen stepper
unfolding ticked
unseen = record {
  renewed = λ s m. refl;
  can = can_blind;
  perform = performs_blind;
  tick = λ x s m. refl;
  numbers = λ s m. refl;
  outputs = λ s m. refl;
  status = λ s m e. ap (λ (t : Bool). bit (is_moving m.motion) + cond t 0 2) e;
}
