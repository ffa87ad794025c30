-- No frame raises a speed: it stays as it was, or ends. Assumes nothing.
use Prim.Native.Nat.{ℕ, ◌≤◌, zero-le}
use native.Mathlib.Nat.{le_refl}
use lib.IntN.{pos, nat_abs}
use Rattle.servo_rules.specs.declared.Halt.{Halt}
use Rattle.servo_rules.specs.declared.Halt.TheVariants.{Keep, Release, Abrupt, Smooth, Here}
use Rattle.servo_rules.specs.declared.Order.{Order}
use Rattle.servo_rules.specs.declared.Order.TheVariants.{ResetPosition, LoadTrajectory, Start, SetGain, Stop, SetHoming, ClearBits}
use Rattle.servo_rules.specs.declared.Way.{Way}
use Rattle.servo_rules.specs.declared.Way.TheVariants.{Pulse, Speed, Move}
use Rattle.servo_rules.specs.declared.Settings.{Settings}
use Rattle.servo_rules.specs.declared.Run.{Run}
use Rattle.servo_rules.specs.declared.Servo.{Servo}
use Rattle.servo_rules.specs.State.{position, servo_off, idled, off}
use Rattle.servo_rules.specs.Loads.{loaded, starts_now, to_speed, to_place, started_by, start}
use Rattle.servo_rules.specs.Stops.{holding, smooth, halted_by}
use Rattle.servo_rules.specs.Perform.{shifted, reset_position, stopped, perform}
use Rattle.servo_rules.specs.RestPromises.{NoFrameRaises}
use Rattle.servo_rules.proofs.Keeping.{either}
use Rattle.servo_rules.proofs.Framed.{leaves}

-- a speed no greater in size than that of what ran before
abbrev NoFaster : Run → Run → Type 0
NoFaster r s = nat_abs s.profile.speed ≤ nat_abs r.profile.speed

started_slower : (w : Way) (here : ℕ) (s : Settings) (r : Run) → NoFaster r (started_by w here s r)
unfolding idled to_speed to_place
started_slower Pulse here s r = zero-le
started_slower Speed here s r = le_refl _
started_slower Move here s r = le_refl _

halted_slower : (k : Halt) (here x : ℕ) (r : Run) → NoFaster r (halted_by k here x r)
unfolding off idled holding smooth to_speed
halted_slower Keep here x r = le_refl _
halted_slower Release here x r = zero-le
halted_slower Abrupt here x r = zero-le
halted_slower Smooth here x r =
    either (NoFaster r) (servo_off r.drive.mode) (off r) (to_speed r.profile.setpoint (pos 0) r.profile.acceleration r) zero-le (le_refl _)
halted_slower Here here x r = zero-le

start_slower : (m : Servo) → NoFaster m.run (start m).run
unfolding start
start_slower m = started_slower m.settings.load.way (position m) m.settings m.run

order_slower : (c : Order) (m : Servo) → NoFaster m.run (perform c m).run
unfolding reset_position shifted loaded stopped
order_slower ResetPosition m = le_refl _
order_slower (LoadTrajectory c) m =
    either (λ (n : Servo). NoFaster m.run n.run) (starts_now c) (start (loaded c m)) (loaded c m) (start_slower (loaded c m)) (le_refl _)
order_slower Start m = start_slower m
order_slower (SetGain t) m = le_refl _
order_slower (Stop a k x) m = halted_slower k (position m) x m.run
order_slower (SetHoming b) m = le_refl _
order_slower ClearBits m = le_refl _

pub no_frame_raises : NoFrameRaises
no_frame_raises f alone m = leaves (λ (n : Servo). NoFaster m.run n.run) f alone m (record {
  kept = λ s. le_refl _;
  renewed = λ d q. zero-le;
  performed = λ c d q t. order_slower c m;
})
