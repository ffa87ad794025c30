-- When a load can start, and that it starts once. Assumes nothing.
use mathlib.Core.Path.{◌≡◌, refl, ap, ◌∙◌}
use mathlib.Core.List.{[], ◌∷◌}
use mathlib.Core.Bool.{Bool, false, not, ◌||◌}
use Rattle.base_layout.proofs.Every.{every_hold, hold_every}
use Rattle.module_rules.proofs.Settled.{cause}
use Rattle.servo_rules.specs.declared.Order.{Order}
use Rattle.servo_rules.specs.declared.Order.TheVariants.{ResetPosition, LoadTrajectory, Start, SetGain, Stop, SetHoming, ClearBits}
use Rattle.servo_rules.specs.declared.Servo.{Servo}
use Rattle.servo_rules.specs.State.{ready, idled}
use Rattle.servo_rules.specs.Loads.{loaded, beginning_at, complete_by, complete, startable, to_speed, to_place, start}
use Rattle.servo_rules.specs.Perform.{can, perform}
use Rattle.servo_rules.specs.Answers.{servo, with_cause, execute}
use Rattle.servo_rules.specs.LoadPromises.{Starts, Starting, Twice, StartNow, Begins}
use Rattle.servo_rules.proofs.Readying.{ready_is, is_ready}
use Rattle.servo_rules.proofs.Apart.{apart}

pub starts : Starts
unfolding startable
starts m = (
  λ e.
      let t = every_hold (m.settings.load.waits ∷ complete m ∷ ready m ∷ []) e in
      record { waits = t.0; entire = t.1.0; ready = ready_is m t.1.1.0 },
  λ r. hold_every (m.settings.load.waits ∷ complete m ∷ ready m ∷ []) (r.waits, (r.entire, (is_ready m r.ready, tt))),
)

-- the definition by its name, for the file in which the promise has that name
pub complete_is : (m : Servo) → complete m ≡ complete_by m.settings.load.way m
unfolding complete
complete_is m = refl

-- what nothing waits for cannot start
idle : (m : Servo) → m.settings.load.waits ≡ false → can Start m ≡ false
unfolding startable
idle m e = rw e refl

used_up : (c : Order) (m : Servo) → Starting c → (perform c m).settings.load.waits ≡ false
unfolding start
used_up ResetPosition m h = absurd h
used_up (LoadTrajectory c) m h = rw h refl
used_up Start m h = refl
used_up (SetGain t) m h = absurd h
used_up (Stop a k x) m h = absurd h
used_up (SetHoming b) m h = absurd h
used_up ClearBits m h = absurd h

pub twice : Twice
twice c m s =
    let u = used_up c m s in
    record {
      used = u;
      again = idle (perform c m) u;
      second = λ f g alone other d q t e r.
          let n : execute f alone m ≡ with_cause 0 (perform c m) = (cause servo apart f alone m).executed c d q t in
          (cause servo apart g other (execute f alone m)).not_now Start e r
          (idle (execute f alone m) (ap (λ (k : Servo). k.settings.load.waits) n ∙ u));
    }

pub start_now : StartNow
start_now c m = record {
  now = λ s. rw s refl;
  later = λ s. rw s refl;
  does = λ s. rw s refl;
  kept = λ f alone d q s n. (cause servo apart f alone m).not_now (LoadTrajectory c) d q (ap (λ (t : Bool). not t || startable (loaded c m)) s ∙ n);
}

pub begins : Begins
unfolding start beginning_at idled to_speed to_place
begins m = record {
  pulse = λ e. rw e (refl, refl, refl, refl, refl, refl);
  speed = λ e. rw e (refl, refl, refl, record { setpoint = refl; speed = refl; output = refl; cut = refl; memory = refl });
  move = λ e. rw e (refl, refl, refl, refl, record { setpoint = refl; speed = refl; output = refl; cut = refl; memory = refl });
  from_off = λ e. rw e refl;
  from_on = λ e. rw e refl;
}
