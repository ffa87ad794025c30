-- What a servo in a slot satisfies beyond the ranges of its bytes (document 01, "Numbers given back", the list for 16; document 02, P5 and P8).
use Rattle.std.specs.Prelude.{Bool, not, ◌&&◌, ◌||◌, ℕ, eqb, leb, pos, nat_abs}
use Rattle.base_integers.specs.Whole.{same}
use Rattle.servo_motion.specs.declared.Profile.{Profile}
use Rattle.servo_motion.specs.Profile.{fastest, running}
use Rattle.servo_filter.specs.declared.Memory.{Memory}
use Rattle.servo_rules.specs.declared.Rates.{Rates}
use Rattle.servo_rules.specs.declared.Mode.{Mode}
use Rattle.servo_rules.specs.declared.Mode.TheVariants.{Off, Pwm, Hold, Velocity, Trapezoid}
use Rattle.servo_rules.specs.declared.Drive.{Drive}
use Rattle.servo_rules.specs.declared.Run.{Run}
use Rattle.servo_rules.specs.declared.Servo.{Servo}
use Rattle.servo_rules.specs.Homing.{good_byte}

-- loaded velocity and acceleration are at most the greatest; an acceleration that was loaded is not 0
unfoldable pub rates_fit : Rates → Bool
rates_fit r = leb r.velocity fastest && leb r.acceleration fastest && (not r.ramped || leb 1 r.acceleration)

-- the integral within 32,767 whatever IL is, the previous error within 16,383
unfoldable pub memory_fits : Memory → Bool
memory_fits y = leb (nat_abs y.integral) 32767 && leb (nat_abs y.previous) 16383

-- PWM value and output within 255
unfoldable pub drive_fits : Drive → Bool
drive_fits d = leb (nat_abs d.pulse) 255 && leb (nat_abs d.output) 255

-- 02 P8: no byte of Set Homing, or a good one
unfoldable pub homing_fits : ℕ → Bool
homing_fits b = eqb b 0 || good_byte b

-- the memory that off leaves
unfoldable pub emptied : Memory → Bool
emptied y = same y.integral (pos 0) && same y.previous (pos 0)

abbrev pub silent : Drive → Bool
silent d = same d.output (pos 0)

abbrev pub unpulsed : Drive → Bool
unpulsed d = same d.pulse (pos 0)

abbrev pub uncut : Drive → Bool
uncut d = not d.cut

abbrev pub still : Profile → Bool
still p = same p.speed (pos 0)

-- what every mode but off needs: a clear error bit, and power that is not low
abbrev pub live : ℕ → Drive → Bool
live power d = not d.error && not (eqb power 0)

-- each mode's own conditions; a trapezoid goes toward a goal that is not half the range away, and can still stop within the distance left
abbrev pub mode_fits : Mode → ℕ → Run → Bool
mode_fits Off power r = still r.profile && silent r.drive && emptied r.memory && unpulsed r.drive && uncut r.drive
mode_fits Pwm power r = still r.profile && emptied r.memory && live power r.drive && uncut r.drive
mode_fits Hold power r = still r.profile && unpulsed r.drive && live power r.drive
mode_fits Velocity power r = unpulsed r.drive && live power r.drive
mode_fits Trapezoid power r = unpulsed r.drive && live power r.drive && running r.profile

-- without good power there is no output
unfoldable pub sound_at : ℕ → Run → Bool
sound_at power r = (eqb power 1 || silent r.drive) && mode_fits r.drive.mode power r

unfoldable pub sound : Servo → Bool
sound m = sound_at m.latched.power m.run
