-- What is promised of a servo's ticks and of what only they change. Each is proved under its name, with small letters, in proofs/.
use Rattle.std.specs.Prelude.{◌≡◌, ◌⊎◌, ◌≤◌, ◌<◌, Bool, true, false, get_or, ℤ, pos, nat_abs}
use Rattle.base_integers.specs.Bits.{is_set}
use Rattle.base_integers.specs.Whole.{difference}
use Rattle.line_receiver.specs.Frames.{Frame}
use Rattle.module_rules.specs.Rules.{reset, wants}
use Rattle.servo_motion.specs.Setpoint.{whole, moved}
use Rattle.servo_filter.specs.Filter.{held, summed, driven, scaled, output}
use Rattle.servo_rules.specs.declared.Order.{Order}
use Rattle.servo_rules.specs.declared.Order.TheVariants.{ClearBits}
use Rattle.servo_rules.specs.declared.Sample.{Sample}
use Rattle.servo_rules.specs.declared.Mode.TheVariants.{Off, Pwm, Hold, Velocity, Trapezoid}
use Rattle.servo_rules.specs.declared.Servo.{Servo}
use Rattle.servo_rules.specs.State.{position_at, position, servo_off, started, with_run, erring}
use Rattle.servo_rules.specs.Perform.{perform}
use Rattle.servo_rules.specs.Tick.{advanced, followed_at, met, ticked}
use Rattle.servo_rules.specs.Answers.{enable_line, servo, request, execute}
use Rattle.servo_rules.specs.StopPromises.{Released}

-- the following error that a tick's filter sees, of what it meets after power and homing: at the new setpoint and the new position
abbrev pub followed : Sample → Servo → ℤ
followed x m = followed_at (position_at x m.counts) (met x m).run

-- the u that the filter works out of it, a 256th of that, and what of it is put out
abbrev pub driven_to : Sample → Servo → ℤ
driven_to x m = driven m.settings.tuning.gains (met x m).run.memory (followed x m)

abbrev pub reaching : Sample → Servo → ℤ
reaching x m = scaled (driven_to x m)

abbrev pub worked : Sample → Servo → ℤ
worked x m = output m.settings.tuning.gains.ol (driven_to x m)

-- n has stored this integral and this cut bit
abbrev pub Winds : ℤ → Bool → Servo → Type 0
Winds integral cut n = (n.run.memory.integral ≡ integral) × (n.run.drive.cut ≡ cut)

-- n is m after a tick with the sample x in which profile and filter ran: the filter's output is put out at power 1; a tick that OL does not cut stores the new integral,
-- one that it cuts the former one, at whatever power (01 Tick, Filter; 02 P5)
pub record Runs (x : Sample) (m n : Servo) : Type 0 where
  pub profile : n.run.profile ≡ advanced (met x m).run
  pub previous : n.run.memory.previous ≡ followed x m
  pub mode : n.run.drive.mode ≡ (met x m).run.drive.mode
  pub error : n.run.drive.error ≡ (met x m).run.drive.error
  pub output : x.power ≡ 1 → n.run.drive.output ≡ worked x m
  pub plain : nat_abs (reaching x m) ≤ m.settings.tuning.gains.ol
      → Winds (summed m.settings.tuning.gains (met x m).run.memory (followed x m)) false n
  pub cut : m.settings.tuning.gains.ol < nat_abs (reaching x m) → Winds (met x m).run.memory.integral true n

-- A tick latches its sample and keeps the position before it; station, tuning and rates never change in it (01 Tick). What it meets after power and
-- homing is told in HomingPromises: without a stop of homing's, at any power but 0, that is what ran before the tick.
pub record Ticking (x : Sample) (m : Servo) : Type 0 where
  pub latched : (ticked x m).latched ≡ x
  pub last : (ticked x m).counts.last ≡ position m
  pub offset : (ticked x m).counts.offset ≡ m.counts.offset
  pub station : (ticked x m).station ≡ m.station
  pub tuning : (ticked x m).settings.tuning ≡ m.settings.tuning
  pub rates : (ticked x m).settings.rates ≡ m.settings.rates
  -- power 0 ends in off
  pub low : x.power ≡ 0 → Released (ticked x m).run
  -- no power but 1 has an output
  pub unpowered : (x.power ≡ 1 → ⊥) → (m.run.drive.mode ≡ Off → m.run.drive.output ≡ pos 0)
      → (ticked x m).run.drive.output ≡ pos 0
  -- off: it stays as homing leaves it
  pub off : (met x m).run.drive.mode ≡ Off → ticked x m ≡ met x m
  -- PWM stays as it is, and at power 1 the loaded value is put out, held to OL
  pub pulse : (met x m).run.drive.mode ≡ Pwm
      → ((ticked x m).run.profile ≡ (met x m).run.profile)
      × ((ticked x m).run.memory ≡ (met x m).run.memory)
      × ((ticked x m).run.drive.mode ≡ Pwm)
      × ((ticked x m).run.drive.pulse ≡ (met x m).run.drive.pulse)
      × (x.power ≡ 1 → (ticked x m).run.drive.output ≡ held m.settings.tuning.gains.ol (met x m).run.drive.pulse)
      × ((ticked x m).run.drive.cut ≡ (met x m).run.drive.cut)
  -- a following error above EL sets the error bit and ends in off
  pub trip : servo_off (met x m).run.drive.mode ≡ false
      → m.settings.tuning.gains.el < nat_abs (followed x m)
      → Released (ticked x m).run × ((ticked x m).run.drive.error ≡ true)
  -- with any other the profile makes its step, and the filter its own
  pub runs : servo_off (met x m).run.drive.mode ≡ false
      → nat_abs (followed x m) ≤ m.settings.tuning.gains.el
      → Runs x m (ticked x m)

abbrev pub Ticks : Type 0
Ticks = (x : Sample) (m : Servo) → Ticking x m

-- n is m after a profile's and a filter's step that left the servo on: the setpoint has moved by the new speed, and in a hold neither has changed; the
-- error of the new setpoint and the new position is within EL, and is the next previous error
pub record StillOn (m n : Servo) : Type 0 where
  pub mode : n.run.drive.mode ≡ m.run.drive.mode
  pub goes : (m.run.drive.mode ≡ Velocity) ⊎ (m.run.drive.mode ≡ Trapezoid)
      → n.run.profile.setpoint ≡ moved m.run.profile.setpoint n.run.profile.speed
  pub holds : m.run.drive.mode ≡ Hold
      → (n.run.profile.setpoint ≡ m.run.profile.setpoint) × (n.run.profile.speed ≡ m.run.profile.speed)
  pub previous : n.run.memory.previous ≡ difference (whole n.run.profile.setpoint) (position n)
  pub within : nat_abs n.run.memory.previous ≤ m.settings.tuning.gains.el

-- So it is after every tick that leaves the servo on, of what it met (01 Tick, Filter).
abbrev pub GoesOn : Type 0
GoesOn = (x : Sample) (m : Servo) → servo_off (ticked x m).run.drive.mode ≡ false → StillOn (met x m) (ticked x m)

-- Between ticks only going off and a PWM start change the output, and then to 0 (01 Filter).
abbrev pub Between : Type 0
Between =
    (f : Frame) (alone : Bool) (m : Servo)
    → ((execute f alone m).run.drive.output ≡ m.run.drive.output)
    ⊎ (((execute f alone m).run.drive.output ≡ pos 0) × (servo_off (execute f alone m).run.drive.mode ≡ true))

-- A motor is driven only at power 1 and not in off: so at power-up, and every frame and tick keeps it.
pub record Silent (m : Servo) : Type 0 where
  pub off : m.run.drive.mode ≡ Off → m.run.drive.output ≡ pos 0
  pub unpowered : (m.latched.power ≡ 1 → ⊥) → m.run.drive.output ≡ pos 0

pub record DrivenOnly : Type 0 where
  pub power : Silent started
  pub frame : (f : Frame) (alone : Bool) (m : Servo) → Silent m → Silent (execute f alone m)
  pub tick : (x : Sample) (m : Servo) → Silent m → Silent (ticked x m)

-- Only Hard Reset and a following error above EL set the error bit, and only Clear Bits clears it (01 Servo).
pub record ErrorBit : Type 0 where
  pub order : (c : Order) (m : Servo) → (c ≡ ClearBits → ⊥) → (perform c m).run.drive.error ≡ m.run.drive.error
  pub frame : (f : Frame) (alone : Bool) (m : Servo)
      → (f.damaged ≡ false → request f alone ≡ reset → ⊥)
      → (f.damaged ≡ false → request f alone ≡ wants ClearBits → ⊥)
      → (execute f alone m).run.drive.error ≡ m.run.drive.error
  pub reset : (m : Servo) → (servo.renewed m).run.drive.error ≡ true
  pub clear : (m : Servo) → perform ClearBits m ≡ with_run (erring false m.run) m
  pub tick : (x : Sample) (m : Servo)
      → ((ticked x m).run.drive.error ≡ m.run.drive.error)
      ⊎ (((ticked x m).run.drive.error ≡ true) × (m.settings.tuning.gains.el < nat_abs (followed x m)))

-- 01 Stop, Hard Reset: the frames that set or clear the amplifier bit where they are executed
abbrev pub Switches : Frame → Type 0
Switches f = (f.code ≡ 7) ⊎ (f.code ≡ 15)

-- An executed Stop puts the amplifier bit to its bit 0, an executed Hard Reset clears it, and no other frame changes it. No tick does, at whatever
-- power, so the enable line after a tick is the bit before it and the power that the tick latched (01 Stop, Enable line; 02 P4).
pub record AmplifierBit : Type 0 where
  pub stop : (f : Frame) (alone : Bool) (m : Servo)
      → f.damaged ≡ false
      → f.code ≡ 7
      → (execute f alone m).station.cause ≡ 0
      → (execute f alone m).run.drive.amplifier ≡ is_set 0 (get_or f.content 0 0)
  pub reset : (f : Frame) (alone : Bool) (m : Servo)
      → f.damaged ≡ false
      → f.code ≡ 15
      → (execute f alone m).station.cause ≡ 0
      → (execute f alone m).run.drive.amplifier ≡ false
  pub frame : (f : Frame) (alone : Bool) (m : Servo)
      → (f.damaged ≡ false → (execute f alone m).station.cause ≡ 0 → Switches f → ⊥)
      → (execute f alone m).run.drive.amplifier ≡ m.run.drive.amplifier
  pub tick : (x : Sample) (m : Servo) → (ticked x m).run.drive.amplifier ≡ m.run.drive.amplifier
  pub high : (x : Sample) (m : Servo) → m.run.drive.amplifier ≡ true → x.power ≡ 1 → enable_line (ticked x m) ≡ 1
  pub unset : (x : Sample) (m : Servo) → m.run.drive.amplifier ≡ false → enable_line (ticked x m) ≡ 0
  pub unpowered : (x : Sample) (m : Servo) → (x.power ≡ 1 → ⊥) → enable_line (ticked x m) ≡ 0
