-- What is promised of homing (document 02, P8). Each is proved under its name, with small letters, in proofs/.
use Rattle.std.specs.Prelude.{◌≡◌, ◌⊎◌, ◌↔◌, ℕ, ◌+◌, ◌≤◌, ◌<◌, List, [], ◌∷◌, Bool, true, false, length, get_or}
use Rattle.base_integers.specs.Bits.{bit, is_set}
use Rattle.base_integers.specs.Whole.{less}
use Rattle.line_receiver.specs.Frames.{Frame}
use Rattle.servo_rules.specs.declared.Halt.{Halt}
use Rattle.servo_rules.specs.declared.Halt.TheVariants.{Keep, Release, Abrupt, Smooth}
use Rattle.servo_rules.specs.declared.Order.TheVariants.{Stop}
use Rattle.servo_rules.specs.declared.Sample.{Sample}
use Rattle.servo_rules.specs.declared.Mode.TheVariants.{Hold}
use Rattle.servo_rules.specs.declared.Servo.{Servo}
use Rattle.servo_rules.specs.State.{position, setpoint_at, servo_off, no_homing, no_load, with_homing}
use Rattle.servo_rules.specs.Stops.{halted}
use Rattle.servo_rules.specs.Homing.{good_byte, home_at, changed, homing_halt}
use Rattle.servo_rules.specs.Perform.{can, perform}
use Rattle.servo_rules.specs.Tick.{latching, powering, driven, met, ticked}
use Rattle.servo_rules.specs.Answers.{with_cause, execute}

-- one of these
abbrev pub Among : List ℕ → ℕ → Type 0
Among [] b = ⊥
Among (x ∷ xs) b = (b ≡ x) ⊎ Among xs b

-- what makes a byte good, bit by bit
pub record GoodBits (b : ℕ) : Type 0 where
  pub watches : (bit 0 b ≡ 1) ⊎ (bit 1 b ≡ 1)
  pub stops : bit 2 b + bit 4 b + bit 5 b ≤ 1
  pub others : (bit 3 b ≡ 0) × (b < 64)

-- The good bytes: by their bits, and all twelve.
pub record GoodBytes : Type 0 where
  pub bits : (b : ℕ) → (good_byte b ≡ true) ↔ GoodBits b
  pub twelve : (b : ℕ)
      → (good_byte b ≡ true)
      ↔ Among (0x01 ∷ 0x02 ∷ 0x03 ∷ 0x05 ∷ 0x06 ∷ 0x07 ∷ 0x11 ∷ 0x12 ∷ 0x13 ∷ 0x21 ∷ 0x22 ∷ 0x23 ∷ []) b

-- Set Homing with one good byte stores it at any servo, whatever runs, at any power, homing or not; with any other byte, or another number of them,
-- it stores nothing. It is never refused as not now.
pub record StoresHoming (f : Frame) (alone : Bool) (m : Servo) : Type 0 where
  pub taken : (b : ℕ) → f.content ≡ b ∷ [] → good_byte b ≡ true
      → execute f alone m ≡ with_cause 0 (with_homing (record { home = m.homing.home; byte = b }) m)
  pub value : (b : ℕ) → f.content ≡ b ∷ [] → good_byte b ≡ false → execute f alone m ≡ with_cause 5 m
  pub count : (length f.content ≡ 1 → ⊥) → execute f alone m ≡ with_cause 2 m

abbrev pub SetsHoming : Type 0
SetsHoming = (f : Frame) (alone : Bool) (m : Servo) → f.damaged ≡ false → f.code ≡ 9 → StoresHoming f alone m

-- Of all frames only an executed Set Homing, Reset Position or Hard Reset changes home or homing: the first stores its byte, the second makes home
-- relative to the position and leaves homing, the third ends it with home 0.
pub record HomingFrames (f : Frame) (alone : Bool) (m : Servo) : Type 0 where
  pub set : f.code ≡ 9 → (execute f alone m).station.cause ≡ 0 → (execute f alone m).homing ≡ record { home = m.homing.home; byte = get_or f.content 0 0 }
  pub shift : f.code ≡ 0 → (execute f alone m).station.cause ≡ 0 → (execute f alone m).homing ≡ record { home = less m.homing.home (position m); byte = m.homing.byte }
  pub reset : f.code ≡ 15 → (execute f alone m).station.cause ≡ 0 → (execute f alone m).homing ≡ record { home = 0; byte = 0 }
  pub others : ((execute f alone m).station.cause ≡ 0 → (f.code ≡ 0) ⊎ ((f.code ≡ 9) ⊎ (f.code ≡ 15)) → ⊥)
      → (execute f alone m).homing ≡ m.homing

abbrev pub OnlyByThese : Type 0
OnlyByThese = (f : Frame) (alone : Bool) (m : Servo) → f.damaged ≡ false → HomingFrames f alone m

-- the inputs that a byte watches are alike: bit 0 watches limit 1, bit 1 limit 2
abbrev pub Alike : ℕ → ℕ → ℕ → Type 0
Alike b x y = (is_set 0 b ≡ true → bit 0 x ≡ bit 0 y) × (is_set 1 b ≡ true → bit 1 x ≡ bit 1 y)

-- ticks one after another
abbrev pub ticked_by : List Sample → Servo → Servo
ticked_by [] m = m
ticked_by (x ∷ xs) m = ticked_by xs (ticked x m)

-- all of them
abbrev pub All : (Sample → Type 0) → List Sample → Type 0
All P [] = Unit {0}
All P (x ∷ xs) = P x × All P xs

-- From the command on, as long as every watched input is what it was then: any number of ticks leave homing on and home alone. The first tick where one
-- is not stores the position of that very tick and ends it, whatever the mode, the power and the error bit.
pub record FromCommand (b : ℕ) (m : Servo) (xs : List Sample) : Type 0 where
  pub goes_on : (ticked_by xs m).homing ≡ m.homing
  pub finds : (x : Sample) → (Alike b m.latched.inputs x.inputs → ⊥)
      → (ticked x (ticked_by xs m)).homing ≡ record { home = position (ticked x (ticked_by xs m)); byte = 0 }

abbrev pub FindsHome : Type 0
FindsHome =
    (b : ℕ) (m : Servo) (xs : List Sample) → m.homing.byte ≡ b → All (λ x. Alike b m.latched.inputs x.inputs) xs → FromCommand b m xs

-- a tick with the sample x finds a change at m; the servo after latch and power
abbrev pub Finds : Sample → Servo → Type 0
Finds x m = changed m.homing.byte m.latched.inputs x.inputs ≡ true

abbrev pub after_power : Sample → Servo → Servo
after_power x m = powering (latching x m)

-- a tick's stop of homing's acts: the byte asks for this kind of stop, and that Stop would not be refused as not now
pub record Acts (h : Halt) (x : Sample) (m : Servo) : Type 0 where
  pub found : Finds x m
  pub asked : homing_halt m.homing.byte ≡ h
  pub stops : h ≡ Keep → ⊥
  pub now : (a : Bool) → can (Stop a h 0) (after_power x m) ≡ true

abbrev pub Unstopped : Sample → Servo → Type 0
Unstopped x m = (h : Halt) → Acts h x m → ⊥

-- holding the position that it has
pub record HeldHere (m : Servo) : Type 0 where
  pub mode : m.run.drive.mode ≡ Hold
  pub setpoint : m.run.profile.setpoint ≡ setpoint_at (position m)

-- Where a stop acts, profile and filter run on what Stop's bit of that kind leaves after latch and power, and it drops a waiting load. Where none acts,
-- the tick is that of a servo that is not homing, but for home and homing; so what it meets at any power but 0 is what ran, and a waiting load waits on.
pub record HomingTick (x : Sample) (m : Servo) : Type 0 where
  pub stop : (h : Halt) → Acts h x m → ticked x m ≡ driven (with_homing (home_at (position (after_power x m))) (halted h 0 (after_power x m)))
  pub drops : (h : Halt) → Acts h x m → (ticked x m).settings.load ≡ no_load
  pub plain : Unstopped x m → ticked x m ≡ with_homing (ticked x m).homing (ticked x (with_homing no_homing m))
  pub runs : Unstopped x m → (x.power ≡ 0 → ⊥) → (met x m).run ≡ m.run
  pub load : Unstopped x m → (ticked x m).settings.load ≡ m.settings.load
  -- an abrupt one ends in holding the position of that very tick, whatever ran
  pub holds : Acts Abrupt x m → HeldHere (ticked x m)
  -- one or the other
  pub either : ((h : Halt) × Acts h x m) ⊎ Unstopped x m

abbrev pub HomingTicks : Type 0
HomingTicks = (x : Sample) (m : Servo) → HomingTick x m

-- The stop is the command's own effect, with the amplifier bit that there is; which kind, by the byte's bits.
pub record HomingStops : Type 0 where
  pub command : (h : Halt) (x : ℕ) (m : Servo) → perform (Stop m.run.drive.amplifier h x) m ≡ halted h x m
  pub release : (b : ℕ) → bit 2 b ≡ 1 → homing_halt b ≡ Release
  pub abrupt : (b : ℕ) → good_byte b ≡ true → bit 4 b ≡ 1 → homing_halt b ≡ Abrupt
  pub smooth : (b : ℕ) → good_byte b ≡ true → bit 5 b ≡ 1 → homing_halt b ≡ Smooth
  pub none : (b : ℕ) → bit 2 b ≡ 0 → bit 4 b ≡ 0 → bit 5 b ≡ 0 → homing_halt b ≡ Keep

-- Homing begins no motion: a tick turns a servo on only by homing's abrupt stop, and then it holds the position of that very tick.
abbrev pub TickTurnsOn : Type 0
TickTurnsOn =
    (x : Sample) (m : Servo) → servo_off m.run.drive.mode ≡ true → servo_off (ticked x m).run.drive.mode ≡ false
    → Acts Abrupt x m × HeldHere (ticked x m)
