-- What each kind of stop leaves, and when it can be carried out. Assumes nothing.
use mathlib.Core.Path.{◌≡◌, refl}
use mathlib.Core.Bool.{Bool, true, false}
use Prim.Native.Nat.{ℕ}
use Rattle.servo_rules.specs.declared.Halt.{Halt}
use Rattle.servo_rules.specs.declared.Halt.TheVariants.{Keep, Release, Abrupt, Smooth, Here}
use Rattle.servo_rules.specs.declared.Servo.{Servo}
use Rattle.servo_rules.specs.State.{position, servo_off, idled, off}
use Rattle.servo_rules.specs.Loads.{to_speed}
use Rattle.servo_rules.specs.Stops.{holding, smooth}
use Rattle.servo_rules.specs.Perform.{stopped}
use Rattle.servo_rules.specs.StopPromises.{Released, Slows, Stops, StopsNow}
use Rattle.servo_rules.proofs.Readying.{ready_is, is_ready}
use Rattle.servo_rules.proofs.Keeping.{halted_keeps}

module _ (a : Bool) (x : ℕ) (m : Servo) where
  slows : servo_off m.run.drive.mode ≡ false → Slows m.run (stopped a Smooth x m).run
  unfolding stopped smooth to_speed
  slows e = record {
    mode = rw e refl;
    aim = rw e refl;
    acceleration = rw e refl;
    setpoint = rw e refl;
    speed = rw e refl;
    output = rw e refl;
    cut = rw e refl;
    memory = rw e refl;
  }

  slows_off : servo_off m.run.drive.mode ≡ true → Released (stopped a Smooth x m).run
  unfolding stopped smooth off idled
  slows_off e = record { mode = rw e refl; speed = rw e refl; output = rw e refl; pulse = rw e refl; cut = rw e refl; memory = rw e refl }

  released : Released (stopped a Release x m).run
  unfolding stopped off idled
  released = record { mode = refl; speed = refl; output = refl; pulse = refl; cut = refl; memory = refl }

  waits_not : (h : Halt) → (h ≡ Keep → ⊥) → (stopped a h x m).settings.load.waits ≡ false
  unfolding stopped
  waits_not Keep n = absurd (n refl)
  waits_not Release n = refl
  waits_not Abrupt n = refl
  waits_not Smooth n = refl
  waits_not Here n = refl

pub stops : Stops
unfolding stopped holding
stops a x m = record {
  keep = refl;
  release = released a x m;
  abrupt = record { mode = refl; setpoint = refl; speed = refl; output = refl; cut = refl; memory = refl };
  here = record { mode = refl; setpoint = refl; speed = refl; output = refl; cut = refl; memory = refl };
  slow = slows a x m;
  slow_off = slows_off a x m;
  amplifier = λ h. refl;
  error = λ h. (halted_keeps h (position m) x m.run).error;
  waits = waits_not a x m;
}

pub stops_now : StopsNow
stops_now a x m = record {
  abrupt = (ready_is m, is_ready m);
  here = (ready_is m, is_ready m);
  keep = refl;
  release = refl;
  slow = refl;
}
