-- What is promised of a servo's loads and starts. Each is proved under its name, with small letters, in proofs/.
use Rattle.std.specs.Prelude.{◌≡◌, ◌⊎◌, ◌↔◌, ℕ, ◌^◌, ◌<◌, Bool, true, false, pos}
use Rattle.base_integers.specs.Bits.{is_set}
use Rattle.base_integers.specs.Whole.{less}
use Rattle.line_receiver.specs.Frames.{Frame}
use Rattle.module_rules.specs.Rules.{wants}
use Rattle.servo_motion.specs.Setpoint.{whole, fraction}
use Rattle.servo_filter.specs.Filter.{blank}
use Rattle.servo_rules.specs.declared.Carried.{Carried}
use Rattle.servo_rules.specs.declared.Halt.{Halt}
use Rattle.servo_rules.specs.declared.Order.{Order}
use Rattle.servo_rules.specs.declared.Order.TheVariants.{ResetPosition, LoadTrajectory, Start, SetGain, Stop, SetHoming, ClearBits}
use Rattle.servo_rules.specs.declared.Mode.{Mode}
use Rattle.servo_rules.specs.declared.Mode.TheVariants.{Off, Pwm, Velocity, Trapezoid}
use Rattle.servo_rules.specs.declared.Way.{Way}
use Rattle.servo_rules.specs.declared.Way.TheVariants.{Pulse, Speed, Move}
use Rattle.servo_rules.specs.declared.Servo.{Servo}
use Rattle.servo_rules.specs.State.{position, setpoint_at, servo_off}
use Rattle.servo_rules.specs.Loads.{way_of, load_of, loaded, starts_now, beginning, complete, startable, signed_by, start}
use Rattle.servo_rules.specs.Perform.{reset_position, stopped, can, perform}
use Rattle.servo_rules.specs.Answers.{request, with_cause, execute}

-- power is good and the error bit is clear
abbrev pub Ready : Servo → Type 0
Ready m = (m.latched.power ≡ 1) × (m.run.drive.error ≡ false)

-- Start can be carried out exactly if a load waits, it is complete, power is 1 and the error bit is clear (01 Start).
pub record Startable (m : Servo) : Type 0 where
  pub waits : m.settings.load.waits ≡ true
  pub entire : complete m ≡ true
  pub ready : Ready m

abbrev pub Starts : Type 0
Starts = (m : Servo) → (can Start m ≡ true → Startable m) × (Startable m → can Start m ≡ true)

-- A load is complete: in PWM mode if it carried PWM; in velocity mode if velocity and acceleration have been loaded; a trapezoid also needs
-- a position, a velocity above 0, no speed now, and a goal not 2 ^ 31 counts away (01 Start).
pub record Movable (m : Servo) : Type 0 where
  pub paced : m.settings.rates.paced ≡ true
  pub ramped : m.settings.rates.ramped ≡ true
  pub placed : m.settings.load.placed ≡ true
  pub fast : 0 < m.settings.rates.velocity
  pub still : m.run.profile.speed ≡ pos 0
  pub near : less m.settings.load.place (whole (beginning m)) ≡ 2 ^ 31 → ⊥

abbrev pub Completes : Way → Servo → Type 0
Completes Pulse m = m.settings.load.pulsed ≡ true
Completes Speed m = (m.settings.rates.paced ≡ true) × (m.settings.rates.ramped ≡ true)
Completes Move m = Movable m

abbrev pub Complete : Type 0
Complete =
    (m : Servo)
    → (complete m ≡ true → Completes m.settings.load.way m) × (Completes m.settings.load.way m → complete m ≡ true)

-- the orders that start: Start, and a load with bit 7
abbrev pub Starting : Order → Type 0
Starting ResetPosition = ⊥
Starting (LoadTrajectory c) = starts_now c ≡ true
Starting Start = Unit {0}
Starting (SetGain t) = ⊥
Starting (Stop a h x) = ⊥
Starting (SetHoming b) = ⊥
Starting ClearBits = ⊥

-- A load starts once: after an executed start nothing waits, and a Start that follows is not now.
pub record OneStart (c : Order) (m : Servo) : Type 0 where
  pub used : (perform c m).settings.load.waits ≡ false
  pub again : can Start (perform c m) ≡ false
  pub second : (f g : Frame) (alone apart : Bool)
      → f.damaged ≡ false → request f alone ≡ wants c → can c m ≡ true
      → g.damaged ≡ false → request g apart ≡ wants Start
      → execute g apart (execute f alone m) ≡ with_cause 3 (execute f alone m)

abbrev pub Twice : Type 0
Twice = (c : Order) (m : Servo) → Starting c → OneStart c m

-- A load with bit 7 is carried out exactly if it could start were it waiting, else nothing is kept; any other is always carried out (01 Load
-- Trajectory).
pub record StartsNow (c : Carried) (m : Servo) : Type 0 where
  pub now : starts_now c ≡ true → can (LoadTrajectory c) m ≡ startable (loaded c m)
  pub later : starts_now c ≡ false → can (LoadTrajectory c) m ≡ true
  pub does : starts_now c ≡ true → perform (LoadTrajectory c) m ≡ start (loaded c m)
  pub kept : (f : Frame) (alone : Bool)
      → f.damaged ≡ false → request f alone ≡ wants (LoadTrajectory c)
      → starts_now c ≡ true → startable (loaded c m) ≡ false
      → execute f alone m ≡ with_cause 3 m

abbrev pub StartNow : Type 0
StartNow = (c : Carried) (m : Servo) → StartsNow c m

-- An executed load without bit 7 replaces the waiting one, and what runs goes on as it did; the velocity and the acceleration that it carries
-- are stored, absent ones keep the numbers of earlier loads, used or dropped, and both stay loaded (01 Load Trajectory).
pub record Loading (c : Carried) (m : Servo) : Type 0 where
  pub does : starts_now c ≡ false → perform (LoadTrajectory c) m ≡ loaded c m
  pub load : (loaded c m).settings.load ≡ load_of c
  pub profile : (loaded c m).run.profile ≡ m.run.profile
  pub memory : (loaded c m).run.memory ≡ m.run.memory
  pub drive : (loaded c m).run.drive ≡ m.run.drive
  pub velocity : is_set 1 c.control ≡ true
      → ((loaded c m).settings.rates.velocity ≡ c.velocity) × ((loaded c m).settings.rates.paced ≡ true)
  pub no_velocity : is_set 1 c.control ≡ false
      → ((loaded c m).settings.rates.velocity ≡ m.settings.rates.velocity) × ((loaded c m).settings.rates.paced ≡ m.settings.rates.paced)
  pub acceleration : is_set 2 c.control ≡ true
      → ((loaded c m).settings.rates.acceleration ≡ c.acceleration) × ((loaded c m).settings.rates.ramped ≡ true)
  pub no_acceleration : is_set 2 c.control ≡ false
      → ((loaded c m).settings.rates.acceleration ≡ m.settings.rates.acceleration)
      × ((loaded c m).settings.rates.ramped ≡ m.settings.rates.ramped)
  pub paced : m.settings.rates.paced ≡ true → (loaded c m).settings.rates.paced ≡ true
  pub ramped : m.settings.rates.ramped ≡ true → (loaded c m).settings.rates.ramped ≡ true
  pub used : (start m).settings.rates ≡ m.settings.rates
  pub stopping : (a : Bool) (h : Halt) (x : ℕ) → (stopped a h x m).settings.rates ≡ m.settings.rates
  pub shifting : (reset_position m).settings.rates ≡ m.settings.rates

abbrev pub Loads : Type 0
Loads = (c : Carried) (m : Servo) → Loading c m

-- A control byte's mode: PWM with bit 4 clear, else velocity mode with bit 5, else a trapezoid (01 Load Trajectory).
abbrev pub Ways : Type 0
Ways =
    (control : ℕ)
    → (is_set 4 control ≡ false → way_of control ≡ Pulse)
    × (is_set 4 control ≡ true → is_set 5 control ≡ true → way_of control ≡ Speed)
    × (is_set 4 control ≡ true → is_set 5 control ≡ false → way_of control ≡ Move)

-- What counts as servo off: off and PWM, and no other mode (01 Start).
abbrev pub OffModes : Type 0
OffModes = (k : Mode) → (servo_off k ≡ true) ↔ ((k ≡ Off) ⊎ (k ≡ Pwm))

-- A setpoint that is put at a position has that whole part and no fraction (01 Tick).
abbrev pub PutAt : Type 0
PutAt = (x : ℕ) → (whole (setpoint_at x) ≡ x) × (fraction (setpoint_at x) ≡ 0)

-- what a start leaves as it was: all that runs but the setpoint
pub record Carries (before m : Servo) : Type 0 where
  pub setpoint : m.run.profile.setpoint ≡ beginning before
  pub speed : m.run.profile.speed ≡ before.run.profile.speed
  pub output : m.run.drive.output ≡ before.run.drive.output
  pub cut : m.run.drive.cut ≡ before.run.drive.cut
  pub memory : m.run.memory ≡ before.run.memory

-- What a start begins, by the load's mode: PWM with no output until the tick, and speed, integral, previous error and cut bit 0; a profile toward the
-- loaded speed with its sign, or toward the loaded position, with the loaded numbers, from the position if the servo was off (01 Start).
pub record Begun (m : Servo) : Type 0 where
  pub pulse : m.settings.load.way ≡ Pulse
      → ((start m).run.drive.mode ≡ Pwm)
      × ((start m).run.drive.pulse ≡ signed_by m.settings.load.reverse m.settings.load.pulse)
      × ((start m).run.drive.output ≡ pos 0)
      × ((start m).run.profile.speed ≡ pos 0)
      × ((start m).run.memory ≡ blank)
      × ((start m).run.drive.cut ≡ false)
  pub speed : m.settings.load.way ≡ Speed
      → ((start m).run.drive.mode ≡ Velocity)
      × ((start m).run.profile.aim ≡ signed_by m.settings.load.reverse m.settings.rates.velocity)
      × ((start m).run.profile.acceleration ≡ m.settings.rates.acceleration)
      × Carries m (start m)
  pub move : m.settings.load.way ≡ Move
      → ((start m).run.drive.mode ≡ Trapezoid)
      × ((start m).run.profile.goal ≡ m.settings.load.place)
      × ((start m).run.profile.acceleration ≡ m.settings.rates.acceleration)
      × ((start m).run.profile.top ≡ m.settings.rates.velocity)
      × Carries m (start m)
  pub from_off : servo_off m.run.drive.mode ≡ true → beginning m ≡ setpoint_at (position m)
  pub from_on : servo_off m.run.drive.mode ≡ false → beginning m ≡ m.run.profile.setpoint

abbrev pub Begins : Type 0
Begins = (m : Servo) → Begun m
