-- How a servo stands in a slot: its parts one after another, of which the first is its type.
use Rattle.std.specs.Prelude.{◌≡◌, refl, ℕ, zero, suc, ◌+◌, ◌≤◌, List, Bool, ℤ}
use Rattle.std.proofs.Common.{arith}
use Rattle.base_layout.specs.Codec.{ok_in}
use Rattle.base_layout.proofs.Shape.{Shape, byte, number, capped, topped, whole, flag, one_of, stamp, such, ◌then◌, shaped}
use Rattle.module_rules.specs.declared.Station.{Station}
use Rattle.module_rules.specs.Slot.{station}
use Rattle.module_rules.specs.Slots.{Slots, own_at}
use Rattle.servo_motion.specs.declared.Profile.{Profile}
use Rattle.servo_motion.specs.Profile.{in_range}
use Rattle.servo_filter.specs.declared.Gains.{Gains}
use Rattle.servo_filter.specs.declared.Memory.{Memory}
use Rattle.servo_rules.specs.declared.Tuning.{Tuning}
use Rattle.servo_rules.specs.declared.Sample.{Sample}
use Rattle.servo_rules.specs.declared.Counts.{Counts}
use Rattle.servo_rules.specs.declared.Way.{Way}
use Rattle.servo_rules.specs.declared.Way.TheVariants.{Pulse, Speed, Move}
use Rattle.servo_rules.specs.declared.Load.{Load}
use Rattle.servo_rules.specs.declared.Rates.{Rates}
use Rattle.servo_rules.specs.declared.Mode.{Mode}
use Rattle.servo_rules.specs.declared.Mode.TheVariants.{Off, Pwm, Hold, Velocity, Trapezoid}
use Rattle.servo_rules.specs.declared.Drive.{Drive}
use Rattle.servo_rules.specs.declared.Settings.{Settings}
use Rattle.servo_rules.specs.declared.Run.{Run}
use Rattle.servo_rules.specs.declared.Homing.{Homing}
use Rattle.servo_rules.specs.declared.Servo.{Servo}
use Rattle.servo_rules.specs.Answers.{type_number}
use Rattle.servo_slot_rules.specs.List.{rates_fit, memory_fits, drive_fits, homing_fits, sound}

-- the numbers of the ways and of the modes
abbrev pub way_byte : Way → ℕ
way_byte Pulse = 0
way_byte Speed = 1
way_byte Move = 2

abbrev pub way_in : ℕ → Way
way_in zero = Pulse
way_in (suc zero) = Speed
way_in (suc (suc n)) = Move

abbrev pub mode_byte : Mode → ℕ
mode_byte Off = 0
mode_byte Pwm = 1
mode_byte Hold = 2
mode_byte Velocity = 3
mode_byte Trapezoid = 4

abbrev pub mode_in : ℕ → Mode
mode_in zero = Off
mode_in (suc zero) = Pwm
mode_in (suc (suc zero)) = Hold
mode_in (suc (suc (suc zero))) = Velocity
mode_in (suc (suc (suc (suc n)))) = Trapezoid

pub way_most : (x : Way) → way_byte x ≤ 2
way_most Pulse = omega arith
way_most Speed = omega arith
way_most Move = omega arith

pub way_back : (x : Way) → way_in (way_byte x) ≡ x
way_back Pulse = refl
way_back Speed = refl
way_back Move = refl

pub way_there : (n : ℕ) → n ≤ 2 → way_byte (way_in n) ≡ n
way_there zero h = refl
way_there (suc zero) h = refl
way_there (suc (suc zero)) h = refl
way_there (suc (suc (suc n))) h = absurd (omega arith)

pub mode_most : (x : Mode) → mode_byte x ≤ 4
mode_most Off = omega arith
mode_most Pwm = omega arith
mode_most Hold = omega arith
mode_most Velocity = omega arith
mode_most Trapezoid = omega arith

pub mode-back : (x : Mode) → mode_in (mode_byte x) ≡ x
mode-back Off = refl
mode-back Pwm = refl
mode-back Hold = refl
mode-back Velocity = refl
mode-back Trapezoid = refl

pub mode_there : (n : ℕ) → n ≤ 4 → mode_byte (mode_in n) ≡ n
mode_there zero h = refl
mode_there (suc zero) h = refl
mode_there (suc (suc zero)) h = refl
mode_there (suc (suc (suc zero))) h = refl
mode_there (suc (suc (suc (suc zero)))) h = refl
mode_there (suc (suc (suc (suc (suc n))))) h = absurd (omega arith)

abbrev pub way : Shape Way
way = one_of 2 (omega arith) way_byte way_in way_most way_back way_there

abbrev pub mode : Shape Mode
mode = one_of 4 (omega arith) mode_byte mode_in mode_most mode-back mode_there

-- the parts of each struct in the order of the slot, and the struct of its parts; a sample stands so in a tick's list, too
abbrev pub sample_parts : Sample → ℕ × (ℕ × (ℕ × ℕ))
sample_parts x = (x.power, (x.ad, (x.raw, x.inputs)))

abbrev pub sample_of : ℕ × (ℕ × (ℕ × ℕ)) → Sample
sample_of t = record { raw = t.1.1.0; power = t.0; ad = t.1.0; inputs = t.1.1.1 }

abbrev pub counts_parts : Counts → ℕ × ℕ
counts_parts x = (x.offset, x.last)

abbrev pub counts_of : ℕ × ℕ → Counts
counts_of t = record { offset = t.0; last = t.1 }

abbrev pub gains_parts : Gains → ℕ × (ℕ × (ℕ × (ℕ × (ℕ × ℕ))))
gains_parts g = (g.kp, (g.kd, (g.ki, (g.il, (g.ol, g.el)))))

abbrev pub gains_of : ℕ × (ℕ × (ℕ × (ℕ × (ℕ × ℕ)))) → Gains
gains_of t = record { kp = t.0; kd = t.1.0; ki = t.1.1.0; il = t.1.1.1.0; ol = t.1.1.1.1.0; el = t.1.1.1.1.1 }

abbrev pub tuning_parts : Tuning → Gains × (ℕ × ℕ)
tuning_parts x = (x.gains, (x.cl, x.sm))

abbrev pub tuning_of : Gains × (ℕ × ℕ) → Tuning
tuning_of t = record { gains = t.0; cl = t.1.0; sm = t.1.1 }

abbrev pub rates_parts : Rates → ℕ × (ℕ × (Bool × Bool))
rates_parts r = (r.velocity, (r.acceleration, (r.paced, r.ramped)))

abbrev pub rates_of : ℕ × (ℕ × (Bool × Bool)) → Rates
rates_of t = record { velocity = t.0; acceleration = t.1.0; paced = t.1.1.0; ramped = t.1.1.1 }

abbrev pub load_parts : Load → Bool × (Way × (Bool × (ℕ × (Bool × (ℕ × Bool)))))
load_parts l = (l.waits, (l.way, (l.placed, (l.place, (l.pulsed, (l.pulse, l.reverse))))))

abbrev pub load_of : Bool × (Way × (Bool × (ℕ × (Bool × (ℕ × Bool))))) → Load
load_of t = record {
  waits = t.0;
  way = t.1.0;
  placed = t.1.1.0;
  place = t.1.1.1.0;
  pulsed = t.1.1.1.1.0;
  pulse = t.1.1.1.1.1.0;
  reverse = t.1.1.1.1.1.1;
}

abbrev pub settings_parts : Settings → Tuning × (Rates × Load)
settings_parts x = (x.tuning, (x.rates, x.load))

abbrev pub settings_of : Tuning × (Rates × Load) → Settings
settings_of t = record { tuning = t.0; rates = t.1.0; load = t.1.1 }

abbrev pub profile_parts : Profile → ℕ × (ℤ × (ℕ × (ℤ × (ℕ × ℕ))))
profile_parts p = (p.setpoint, (p.speed, (p.goal, (p.aim, (p.acceleration, p.top)))))

abbrev pub profile_of : ℕ × (ℤ × (ℕ × (ℤ × (ℕ × ℕ)))) → Profile
profile_of t = record { setpoint = t.0; speed = t.1.0; goal = t.1.1.0; aim = t.1.1.1.0; acceleration = t.1.1.1.1.0; top = t.1.1.1.1.1 }

abbrev pub memory_parts : Memory → ℤ × ℤ
memory_parts y = (y.integral, y.previous)

abbrev pub memory_of : ℤ × ℤ → Memory
memory_of t = record { integral = t.0; previous = t.1 }

abbrev pub drive_parts : Drive → Mode × (ℤ × (ℤ × (Bool × (Bool × Bool))))
drive_parts d = (d.mode, (d.pulse, (d.output, (d.error, (d.amplifier, d.cut)))))

abbrev pub drive_of : Mode × (ℤ × (ℤ × (Bool × (Bool × Bool)))) → Drive
drive_of t = record {
  mode = t.0;
  pulse = t.1.0;
  output = t.1.1.0;
  error = t.1.1.1.0;
  amplifier = t.1.1.1.1.0;
  cut = t.1.1.1.1.1;
}

abbrev pub run_parts : Run → Profile × (Memory × Drive)
run_parts r = (r.profile, (r.memory, r.drive))

abbrev pub run_of : Profile × (Memory × Drive) → Run
run_of t = record { profile = t.0; memory = t.1.0; drive = t.1.1 }

abbrev pub homing_parts : Homing → ℕ × ℕ
homing_parts h = (h.home, h.byte)

abbrev pub homing_of : ℕ × ℕ → Homing
homing_of t = record { home = t.0; byte = t.1 }

abbrev pub Parts : Type 0
Parts = Unit {0} × (Station × (Sample × (Counts × (Settings × (Run × Homing)))))

abbrev pub servo_parts : Servo → Parts
servo_parts m = (tt, (m.station, (m.latched, (m.counts, (m.settings, (m.run, m.homing))))))

abbrev pub servo_of : Parts → Servo
servo_of t = record {
  station = t.1.0;
  latched = t.1.1.0;
  counts = t.1.1.1.0;
  settings = t.1.1.1.1.0;
  run = t.1.1.1.1.1.0;
  homing = t.1.1.1.1.1.1;
}

-- power is 0 to 2, the limit inputs 0 to 3
abbrev pub sample : Shape Sample
sample = shaped sample_of sample_parts (λ t. refl) (λ x. refl) (capped 2 then byte then number 4 then capped 3)

abbrev pub counts : Shape Counts
counts = shaped counts_of counts_parts (λ t. refl) (λ x. refl) (number 4 then number 4)

-- gains and IL below 32,768, EL below 16,384
abbrev pub gains : Shape Gains
gains = shaped gains_of gains_parts (λ t. refl) (λ g. refl) (topped 127 then topped 127 then topped 127 then topped 127 then byte then topped 63)

abbrev pub tuning : Shape Tuning
tuning = shaped tuning_of tuning_parts (λ t. refl) (λ x. refl) (gains then byte then byte)

abbrev pub rates : Shape Rates
rates = such rates_fit (shaped rates_of rates_parts (λ t. refl) (λ r. refl) (number 4 then number 4 then flag then flag))

abbrev pub load : Shape Load
load = shaped load_of load_parts (λ t. refl) (λ l. refl) (flag then way then flag then number 4 then flag then byte then flag)

abbrev pub settings : Shape Settings
settings = shaped settings_of settings_parts (λ t. refl) (λ x. refl) (tuning then rates then load)

abbrev pub profile : Shape Profile
profile = such in_range (shaped profile_of profile_parts (λ t. refl) (λ p. refl) (number 6 then whole then number 4 then whole then number 4 then number 4))

abbrev pub memory : Shape Memory
memory = such memory_fits (shaped memory_of memory_parts (λ t. refl) (λ y. refl) (whole then whole))

abbrev pub drive : Shape Drive
drive = such drive_fits (shaped drive_of drive_parts (λ t. refl) (λ d. refl) (mode then whole then whole then flag then flag then flag))

abbrev pub run : Shape Run
run = shaped run_of run_parts (λ t. refl) (λ r. refl) (profile then memory then drive)

-- the byte of Set Homing, or 0 where homing is not in progress
abbrev pub homing : Shape Homing
homing = shaped homing_of homing_parts (λ t. refl) (λ h. refl) (number 4 then such homing_fits byte)

abbrev pub slot : Shape Servo
slot =
    such sound
    (shaped servo_of servo_parts (λ t. refl) (λ m. refl)
    (stamp type_number (omega arith) then station then sample then counts then settings then run then homing))

-- where each part begins: after the parts before it
abbrev pub latched_at : ℕ
latched_at = own_at

abbrev pub counts_at : ℕ
counts_at = latched_at + sample.codec.size

abbrev pub tuning_at : ℕ
tuning_at = counts_at + counts.codec.size

abbrev pub rates_at : ℕ
rates_at = tuning_at + tuning.codec.size

abbrev pub load_at : ℕ
load_at = rates_at + rates.codec.size

abbrev pub profile_at : ℕ
profile_at = load_at + load.codec.size

abbrev pub memory_at : ℕ
memory_at = profile_at + profile.codec.size

abbrev pub drive_at : ℕ
drive_at = memory_at + memory.codec.size

abbrev pub homing_at : ℕ
homing_at = drive_at + drive.codec.size

-- the places of single fields: power and inputs; the upper bytes of gains and limits; flags, way and mode; homing's byte; what a tick changes of a
-- profile
abbrev pub power_at : ℕ
power_at = latched_at

abbrev pub inputs_at : ℕ
inputs_at = latched_at + 6

abbrev pub kp_top_at : ℕ
kp_top_at = tuning_at + 1

abbrev pub kd_top_at : ℕ
kd_top_at = kp_top_at + 2

abbrev pub ki_top_at : ℕ
ki_top_at = kd_top_at + 2

abbrev pub il_top_at : ℕ
il_top_at = ki_top_at + 2

abbrev pub el_top_at : ℕ
el_top_at = il_top_at + 3

abbrev pub paced_at : ℕ
paced_at = rates_at + 8

abbrev pub ramped_at : ℕ
ramped_at = paced_at + 1

abbrev pub waits_at : ℕ
waits_at = load_at

abbrev pub way_at : ℕ
way_at = waits_at + 1

abbrev pub placed_at : ℕ
placed_at = way_at + 1

abbrev pub pulsed_at : ℕ
pulsed_at = placed_at + 5

abbrev pub reverse_at : ℕ
reverse_at = pulsed_at + 2

abbrev pub mode_at : ℕ
mode_at = drive_at

abbrev pub error_at : ℕ
error_at = mode_at + 9

abbrev pub amplifier_at : ℕ
amplifier_at = error_at + 1

abbrev pub cut_at : ℕ
cut_at = amplifier_at + 1

abbrev pub byte_at : ℕ
byte_at = homing_at + 4

abbrev pub last_at : ℕ
last_at = counts_at + 4

abbrev pub speed_at : ℕ
speed_at = profile_at + 6

-- how many bytes of a slot a servo has
abbrev pub servo_size : ℕ
servo_size = homing_at + homing.codec.size

-- a servo's bytes, the servo in a slot, and whether a slot is valid
unfoldable pub encode_of : Servo → List ℕ
encode_of m = slot.codec.enc m

unfoldable pub decode_of : List ℕ → Servo
decode_of s = slot.codec.dec 0 s

unfoldable pub ok_of : List ℕ → Bool
ok_of s = ok_in slot.codec s

abbrev pub slots : Slots Servo
slots = record { enc = encode_of; dec = decode_of; ok = ok_of; fits = slot.codec.fits }
