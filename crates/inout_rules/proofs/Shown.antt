-- What a command stores, a sample tells or a reset forgets shows in the record and its replies. Assumes nothing.
use mathlib.Core.Path.{◌≡◌, refl, ap}
use mathlib.Core.Bool.{Bool, true, false, cond}
use Rattle.module_rules.specs.Rules.{Request, malformed, set, reset, wants, settled}
use Rattle.module_rules.specs.Rules as AnyType
use Rattle.module_rules.proofs.Replies as Every
use Rattle.inout_rules.specs.declared.Sample.{Sample}
use Rattle.inout_rules.specs.declared.Io.{Io}
use Rattle.inout_rules.specs.declared.Command.{Command}
use Rattle.inout_rules.specs.declared.Command.TheVariants.{Direction, Pwm, SynchOutput, Output, SynchStore, Timer, SynchInput}
use Rattle.inout_rules.specs.Perform.{perform}
use Rattle.inout_rules.specs.Answers.{inout, with_cause, request}
use Rattle.inout_rules.specs.Promises.{Stores, Sampling, Captures, Driven, Shown, Resets}
use Rattle.inout_rules.proofs.Apart.{apart}

stores : (m : Io) → Stores m
stores m = record {
  direction = λ d. refl;
  register = λ d. refl;
  read_by = λ d. refl;
  pwm = λ a b. (refl, refl);
  apart = λ a b. refl;
  stored = λ bits a b. refl;
  not_yet = λ bits a b. refl;
  then_out = λ bits a b. refl;
  again = refl;
  timer = λ t. refl;
  address = λ a b. refl;
  items = λ b. refl;
  baud = λ b. refl;
  nothing = refl;
}

-- no frame changes the latched sample
performed_keeps : (c : Command) (m : Io) → (perform c m).latched ≡ m.latched
performed_keeps (Direction d) m = refl
performed_keeps (Pwm a b) m = refl
performed_keeps SynchOutput m = refl
performed_keeps (Output bits) m = refl
performed_keeps (SynchStore bits a b) m = refl
performed_keeps (Timer t) m = refl
performed_keeps SynchInput m = refl

settled_keeps : (q : Request Command) (m : Io) → (settled inout q m).latched ≡ m.latched
settled_keeps (malformed x) m = refl
settled_keeps (set s) m = refl
settled_keeps reset m = refl
settled_keeps (wants c) m = performed_keeps c m

frame_keeps : (d : Bool) (q : Request Command) (m : Io) → (cond d (with_cause 1 m) (settled inout q m)).latched ≡ m.latched
frame_keeps true q m = refl
frame_keeps false q m = settled_keeps q m

sampling : (x : Sample) (m : Io) → Sampling x m
unfolding AnyType.execute
sampling x m = record {
  latched = refl;
  kept = λ f alone. frame_keeps f.damaged (request f alone) m;
  undriven = refl;
  shown = refl;
}

captures : (x : Sample) (m : Io) → Captures x m
captures x m = record { inputs = refl; counter = refl; inputs_stay = refl; counter_stays = refl }

pub shown : Shown
shown x m = (stores m, (sampling x m, captures x m))

pub driven : Driven
driven m = refl

pub resets : Resets
resets f alone m d c n =
    let r = Every.resets inout apart f alone m d c n in
    record { whole = r.whole; latched = ap (λ (m : Io). m.latched) r.whole; silent = r.silent }
