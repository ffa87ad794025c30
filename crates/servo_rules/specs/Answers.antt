-- What a servo tells the host and the board (document 01, "Servo": items, status bits, enable line), and the type as a whole.
use Rattle.std.specs.Prelude.{ℕ, ◌+◌, ◌%◌, List, [], ◌∷◌, Bool, true, cond, ◌&&◌, get_or, pos, nat_abs}
use Rattle.std.specs.Int.Signed.{lt_z}
use Rattle.line_receiver.specs.Frames.{Frame}
use Rattle.module_rules.specs.Report.{cause_bit}
use Rattle.module_rules.specs.Rules as AnyType
use Rattle.base_integers.specs.Whole.{same, less, word}
use Rattle.servo_motion.specs.Profile.{left}
use Rattle.servo_rules.specs.declared.Sample.{Sample}
use Rattle.servo_filter.specs.declared.Memory.{Memory}
use Rattle.servo_rules.specs.declared.Counts.{Counts}
use Rattle.servo_rules.specs.declared.Mode.{Mode}
use Rattle.servo_rules.specs.declared.Mode.TheVariants.{Off, Pwm, Hold, Velocity, Trapezoid}
use Rattle.servo_rules.specs.declared.Drive.{Drive}
use Rattle.servo_rules.specs.declared.Run.{Run}
use Rattle.servo_rules.specs.declared.Homing.{Homing}
use Rattle.servo_rules.specs.declared.Servo.{Servo}
use Rattle.servo_rules.specs.declared.Order.{Order}
use Rattle.servo_rules.specs.Asks.{own}
use Rattle.servo_rules.specs.State.{position_at, good, with_station, fresh, started}
use Rattle.servo_rules.specs.Loads.{at_rest}
use Rattle.servo_rules.specs.Homing.{homing_bits}
use Rattle.servo_rules.specs.Perform.{can, perform}
use Rattle.servo_rules.specs.Tick.{ticked}

-- 01 Servo: its type's number, and the version above it
abbrev pub type_number : ℕ
type_number = 0

abbrev pub type_and_version : ℕ
type_and_version = 2560

-- 01 Tick, Move done: off, PWM, holding; goal speed reached; no distance and no speed left
abbrev pub done_by : Mode → Run → Bool
done_by Off r = true
done_by Pwm r = true
done_by Hold r = true
done_by Velocity r = same r.profile.speed r.profile.aim
done_by Trapezoid r = same (left r.profile) (pos 0) && at_rest r

unfoldable pub done : Run → Bool
done r = done_by r.drive.mode r

abbrev pub bit_at : ℕ → Bool → ℕ
bit_at n b = cond b n 0

-- 01 Servo, Status bits; 02 P5, P8: 0 move done, 1 cause not 0, 2 the last filter tick was cut, 3 power good, 4 position error, 5 to 7 homing's
unfoldable pub status_of : ℕ → Sample → Run → Homing → ℕ
status_of cause x r h =
    bit_at 1 (done r)
    + cause_bit cause
    + bit_at 4 r.drive.cut
    + bit_at 8 (good x.power)
    + bit_at 16 r.drive.error
    + homing_bits x.inputs h

abbrev pub status : Servo → ℕ
status m = status_of m.station.cause m.latched m.run m.homing

-- 01 Servo, Items 0 to 7; 02 P8: position, A/D, last tick's change, 0, home, type and version, previous error, 0; and how many bytes each has
unfoldable pub numbers_of : Sample → Counts → Memory → Homing → List ℕ
numbers_of x k y h =
    position_at x k
    ∷ x.ad
    ∷ less (position_at x k) k.last % 65536
    ∷ 0
    ∷ h.home
    ∷ type_and_version
    ∷ word y.previous % 65536
    ∷ 0
    ∷ []

abbrev pub numbers : Servo → List ℕ
numbers m = numbers_of m.latched m.counts m.run.memory m.homing

abbrev pub sizes : List ℕ
sizes = 4 ∷ 1 ∷ 2 ∷ 1 ∷ 4 ∷ 2 ∷ 2 ∷ 1 ∷ []

-- 01 Filter, Enable line: amplifier bit and power 1
abbrev pub enabled : ℕ → Drive → Bool
enabled power d = d.amplifier && good power

-- what the board drives: the output's size, 1 if it is below 0, the enable line; five bytes of 0
unfoldable pub outputs_from : ℕ → Drive → List ℕ
outputs_from power d =
    nat_abs d.output
    ∷ bit_at 1 (lt_z d.output (pos 0))
    ∷ bit_at 1 (enabled power d)
    ∷ 0
    ∷ 0
    ∷ 0
    ∷ 0
    ∷ 0
    ∷ []

abbrev pub outputs_of : Servo → List ℕ
outputs_of m = outputs_from m.latched.power m.run.drive

-- the byte of the enable line there
abbrev pub enable_line : Servo → ℕ
enable_line m = get_or (outputs_of m) 2 0

-- the servo as a module type
abbrev pub servo : AnyType.Rules Servo Sample Order
servo = record {
  number = type_number;
  station = λ m. m.station;
  with_station = with_station;
  started = started;
  renewed = λ m. fresh m.latched;
  own = own;
  can = can;
  perform = perform;
  tick = ticked;
  shows = λ b. true;
  status = status;
  sizes = sizes;
  numbers = numbers;
  outputs = outputs_of;
}

-- what follows for it as for every type
abbrev pub request : Frame → Bool → AnyType.Request Order
request = AnyType.request servo

abbrev pub with_cause : ℕ → Servo → Servo
with_cause = AnyType.with_cause servo

abbrev pub execute : Frame → Bool → Servo → Servo
execute = AnyType.execute servo

abbrev pub reply : Frame → Servo → List ℕ
reply = AnyType.reply servo
