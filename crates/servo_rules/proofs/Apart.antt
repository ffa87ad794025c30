-- A servo's station stands apart from all else that it has, and nothing else looks at it. Assumes nothing.
use mathlib.Core.Path.{◌≡◌, refl, ap, ◌∙◌}
use mathlib.Core.Bool.{Bool, true, false, cond, not, ◌&&◌, ◌||◌}
use Prim.Native.Nat.{◌+◌}
use Rattle.module_rules.specs.declared.Station.{Station}
use Rattle.module_rules.specs.Promises.{Apart, Unseen}
use Rattle.servo_rules.specs.declared.Order.{Order}
use Rattle.servo_rules.specs.declared.Order.TheVariants.{ResetPosition, LoadTrajectory, Start, SetGain, Stop, SetHoming, ClearBits}
use Rattle.servo_rules.specs.declared.Carried.{Carried}
use Rattle.servo_rules.specs.declared.Halt.{Halt}
use Rattle.servo_rules.specs.declared.Halt.TheVariants.{Keep, Release, Abrupt, Smooth, Here}
use Rattle.servo_rules.specs.declared.Way.{Way}
use Rattle.servo_rules.specs.declared.Way.TheVariants.{Pulse, Speed, Move}
use Rattle.servo_rules.specs.declared.Homing.{Homing}
use Rattle.servo_rules.specs.declared.Sample.{Sample}
use Rattle.servo_rules.specs.declared.Servo.{Servo}
use Rattle.servo_rules.specs.State.{position, good, ready, with_station, with_homing}
use Rattle.servo_rules.specs.Loads.{loaded, starts_now, movable, complete_by, complete, startable, start}
use Rattle.servo_rules.specs.Stops.{halted, can_halt}
use Rattle.servo_rules.specs.Homing.{home_at, homing_bits, changed, homing_halt, halted_or, homed}
use Rattle.servo_rules.specs.Perform.{reset_position, stopped, can, perform}
use Rattle.servo_rules.specs.Tick.{driven, met, ticked}
use Rattle.servo_rules.specs.Answers.{done, bit_at, status_of, numbers_of, outputs_from, servo}
use Rattle.servo_rules.specs.HomingPromises.{after_power}
use Rattle.servo_rules.proofs.Meeting.{tick_is}

complete_blind : (w : Way) (s : Station) (m : Servo) → complete_by w (with_station s m) ≡ complete_by w m
unfolding movable
complete_blind Pulse s m = refl
complete_blind Speed s m = refl
complete_blind Move s m = refl

startable_blind : (s : Station) (m : Servo) → startable (with_station s m) ≡ startable m
unfolding startable complete
startable_blind s m = ap (λ (t : Bool). m.settings.load.waits && t && ready m) (complete_blind m.settings.load.way s m)

halt_blind : (h : Halt) (s : Station) (m : Servo) → can_halt h (with_station s m) ≡ can_halt h m
halt_blind Keep s m = refl
halt_blind Release s m = refl
halt_blind Abrupt s m = refl
halt_blind Smooth s m = refl
halt_blind Here s m = refl

can_blind : (c : Order) (s : Station) (m : Servo) → can c (with_station s m) ≡ can c m
unfolding loaded
can_blind ResetPosition s m = refl
can_blind (LoadTrajectory c) s m = ap (λ (t : Bool). not (starts_now c) || t) (startable_blind s (loaded c m))
can_blind Start s m = startable_blind s m
can_blind (SetGain t) s m = refl
can_blind (Stop a h x) s m = halt_blind h s m
can_blind (SetHoming b) s m = refl
can_blind ClearBits s m = refl

load_blind : (t : Bool) (c : Carried) (s : Station) (m : Servo)
    → cond t (start (loaded c (with_station s m))) (loaded c (with_station s m)) ≡ with_station s (cond t (start (loaded c m)) (loaded c m))
unfolding loaded start
load_blind true c s m = refl
load_blind false c s m = refl

order_blind : (c : Order) (s : Station) (m : Servo) → perform c (with_station s m) ≡ with_station s (perform c m)
unfolding reset_position start stopped
order_blind ResetPosition s m = refl
order_blind (LoadTrajectory c) s m = load_blind (starts_now c) c s m
order_blind Start s m = refl
order_blind (SetGain t) s m = refl
order_blind (Stop a h x) s m = refl
order_blind (SetHoming b) s m = refl
order_blind ClearBits s m = refl

-- homing looks at it as little
homed_blind : (t a : Bool) (h : Homing) (s : Station) (k n : Servo)
    → cond t (with_homing h (cond a (with_station s k) (with_station s n))) (with_station s n) ≡ with_station s (cond t (with_homing h (cond a k n)) n)
homed_blind true true h s k n = refl
homed_blind true false h s k n = refl
homed_blind false a h s k n = refl

met_blind : (x : Sample) (s : Station) (m : Servo) → met x (with_station s m) ≡ with_station s (met x m)
unfolding met homed halted_or
met_blind x s m =
    let t : Bool = changed m.homing.byte m.latched.inputs x.inputs in
    let h : Halt = homing_halt m.homing.byte in
    let n : Servo = after_power x m in
    ap (λ (a : Bool). cond t (with_homing (home_at (position n)) (cond a (with_station s (halted h 0 n)) (with_station s n))) (with_station s n))
    (halt_blind h s n)
    ∙ homed_blind t (can_halt h n) (home_at (position n)) s (halted h 0 n) n

pub apart : Apart servo
apart = record {
  put = λ s m. refl;
  again = λ s t m. refl;
  perform = λ c m. ap (λ (n : Servo). n.station) (order_blind c m.station m);
  renewed = λ m. refl;
  tick = λ x m. ap (λ (n : Servo). n.station) (tick_is x m);
}

pub unseen : Unseen servo
unfolding ticked status_of numbers_of outputs_from
unseen = record {
  renewed = λ s m. refl;
  can = can_blind;
  perform = order_blind;
  tick = λ x s m. ap driven (met_blind x s m);
  numbers = λ s m. refl;
  outputs = λ s m. refl;
  status = λ s m e.
      ap (λ (t : Bool).
      bit_at 1 (done m.run)
      + cond t 0 2
      + bit_at 4 m.run.drive.cut
      + bit_at 8 (good m.latched.power)
      + bit_at 16 m.run.drive.error
      + homing_bits m.latched.inputs m.homing) e;
}
