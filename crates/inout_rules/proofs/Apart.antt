-- The station stands apart from all else that an I/O module has, and nothing else looks at it. Assumes nothing.
use mathlib.Core.Path.{◌≡◌, refl, ap}
use mathlib.Core.Bool.{Bool, cond}
use Rattle.module_rules.specs.declared.Station.{Station}
use Rattle.module_rules.specs.Promises.{Apart, Unseen}
use Rattle.inout_rules.specs.declared.Io.{Io}
use Rattle.inout_rules.specs.declared.Command.{Command}
use Rattle.inout_rules.specs.declared.Command.TheVariants.{Direction, Pwm, SynchOutput, Output, SynchStore, Timer, SynchInput}
use Rattle.inout_rules.specs.State.{with_station}
use Rattle.inout_rules.specs.Perform.{perform}
use Rattle.inout_rules.specs.Answers.{inout}

performs_blind : (c : Command) (s : Station) (m : Io) → perform c (with_station s m) ≡ with_station s (perform c m)
performs_blind (Direction d) s m = refl
performs_blind (Pwm a b) s m = refl
performs_blind SynchOutput s m = refl
performs_blind (Output bits) s m = refl
performs_blind (SynchStore bits a b) s m = refl
performs_blind (Timer t) s m = refl
performs_blind SynchInput s m = refl

pub apart : Apart inout
apart = record {
  put = λ s m. refl;
  again = λ s t m. refl;
  perform = λ c m. ap (λ (n : Io). n.station) (performs_blind c m.station m);
  renewed = λ m. refl;
  tick = λ x m. refl;
}

pub unseen : Unseen inout
unseen = record {
  renewed = λ s m. refl;
  can = λ c s m. refl;
  perform = performs_blind;
  tick = λ x s m. refl;
  numbers = λ s m. refl;
  outputs = λ s m. refl;
  status = λ s m e. ap (λ (t : Bool). cond t 0 2) e;
}
