-- Demand 1 from the bytes: what moves is what was sent. Nothing is said here of what a servo keeps of its loads, only of frames and their bytes,
-- whom they touched, whether they were executed, and what the servo does. It is proved in proofs/ as `what_moves_was_sent`.
use Rattle.std.specs.Prelude.{◌≡◌, ◌⊎◌, ℕ, zero, suc, ◌+◌, ◌*◌, ◌%◌, ◌^◌, ◌<◌, ◌≤◌, List, cond, ℤ, pos, neg_ℤ, nat_abs, length, get_or}
use Rattle.base_integers.specs.Bits.{bit, is_set}
use Rattle.base_layout.specs.Bytes.{of_le, read_at}
use Rattle.line_receiver.specs.Frames.{Frame}
use Rattle.servo_motion.specs.Setpoint.{whole}
use Rattle.servo_rules.specs.declared.Halt.{Halt}
use Rattle.servo_rules.specs.declared.Halt.TheVariants.{Abrupt}
use Rattle.servo_rules.specs.declared.Mode.TheVariants.{Pwm, Hold, Velocity, Trapezoid}
use Rattle.servo_rules.specs.declared.Servo.{Servo}
use Rattle.servo_rules.specs.Carried.{needed}
use Rattle.types_rules.specs.Table.{servo}
use Rattle.api_rules.specs.Table.{setup_table}
use Rattle.api_rules.specs.Calls.{setup_record}
use Rattle.api_rules.specs.Promises.{Passes}
use Rattle.demands_history_rules.specs.Calls.{Call, AllHanded}
use Rattle.demands_rules.specs.Motion.{Moves}
use Rattle.demands_rules.specs.Loaded as AnyType
use Rattle.demands_rules.specs.Loaded.{control, Has, Lacks}
use Rattle.demands_rules.specs.ServoPlace.{Stands, Executed, Homed, None, Since}

-- 01 Load Trajectory: behind the control byte come four bytes for each of bits 0 to 2 that is set, and one for bit 3. How many bytes stand ahead of
-- the number of bit k, and that number: 0 position, 1 velocity, 2 acceleration; the PWM byte is behind all three
abbrev pub ahead : ℕ → Frame → ℕ
ahead zero f = 1
ahead (suc k) f = ahead k f + 4 * bit k (control f)

abbrev pub number_in : ℕ → Frame → ℕ
number_in k f = of_le (read_at 4 (ahead k f) f.content)

abbrev pub pulse_in : Frame → ℕ
pulse_in f = get_or f.content (ahead 3 f) 0

-- a number with bit 6 as its sign
abbrev pub signed_in : Frame → ℕ → ℤ
signed_in f n = cond (is_set 6 (control f)) (neg_ℤ (pos n)) (pos n)

-- a Load of as many data bytes as its control byte asks for; a Stop with one of bits 1 to 4
abbrev pub WholeLoad : Frame → Type 0
WholeLoad = AnyType.WholeLoad needed

abbrev pub Halts : Frame → Type 0
Halts f = (f.code ≡ 7) × (Has 1 f ⊎ (Has 2 f ⊎ (Has 3 f ⊎ Has 4 f)))

-- what drops a waiting load or takes its place: Reset Position, Load, Start, Hard Reset, such a Stop
abbrev pub Drops : Frame → Type 0
Drops f = (f.code ≡ 0) ⊎ ((f.code ≡ 4) ⊎ ((f.code ≡ 5) ⊎ ((f.code ≡ 15) ⊎ Halts f)))

-- a position in the encoder's own counts, which Reset Position leaves; and where a Stop with bit 2, or with bit 4, holds the servo that it met
abbrev pub encoder : Servo → ℕ → ℕ
encoder m x = (x + m.counts.offset) % 2 ^ 32

abbrev pub HeldAt : Servo → Frame → ℕ → Type 0
HeldAt m f x = (Has 2 f × (x ≡ m.latched.raw)) ⊎ (Has 4 f × (length f.content ≡ 5) × (x ≡ encoder m (number_in 0 f)))

module _ (net : List ℕ) (cs : List Call) (i : ℕ) where
  -- the whole Load f was executed here, and no frame such as P since; it is the last of them that carried the number of bit k
  abbrev pub Loaded : (Frame → Type 0) → Frame → ℕ → Type 0
  Loaded = AnyType.Loaded servo needed net cs i

  abbrev pub Given : ℕ → Frame → ℕ → Type 0
  Given = AnyType.Given servo needed net cs i

  -- call s started the Load f, which nothing had dropped; and since then Is holds of the servo before the start, the Load and the servo
  abbrev pub Started : Frame → ℕ → Type 0
  Started = AnyType.Started servo needed Drops net cs i

  abbrev pub Began : ℕ → ℕ → (Frame → Type 0) → (Servo → Frame → Servo → Type 0) → Type 0
  Began = AnyType.Began servo needed Drops net cs i

  -- with a velocity v and an acceleration a, each of the last Load up to the start that carried it
  abbrev pub Paced : ℕ → (Frame → Type 0) → (Frame → Frame → Servo → Frame → Servo → Type 0) → Type 0
  Paced n Bits Is = (s : ℕ) × (v : Frame) × (a : Frame) × Given 1 v (suc s) × Given 2 a (suc s) × Began s n Bits (Is v a)

  -- A trapezoid goes to the four position bytes of its Load, in the encoder's counts.
  abbrev pub MoveSent : ℕ → Type 0
  MoveSent n = Paced n (λ f. Has 4 f × Lacks 5 f × Has 0 f) (λ v a before f m.
      (m.run.drive.mode ≡ Trapezoid) × (encoder m m.run.profile.goal ≡ encoder before (number_in 0 f))
      × (m.run.profile.top ≡ number_in 1 v) × (m.run.profile.acceleration ≡ number_in 2 a))

  -- Velocity mode goes to the velocity, with the started Load's bit 6 as its sign.
  abbrev pub SpeedSent : ℕ → Type 0
  SpeedSent n = Paced n (λ f. Has 4 f × Has 5 f) (λ v a before f m.
      (m.run.drive.mode ≡ Velocity) × (m.run.profile.aim ≡ signed_in f (number_in 1 v)) × (m.run.profile.acceleration ≡ number_in 2 a))

  -- PWM is the byte of its Load, with bit 6 as its sign.
  abbrev pub PulseSent : ℕ → Type 0
  PulseSent n = (s : ℕ) × Began s n (λ f. Lacks 4 f × Has 3 f) (λ before f m. (m.run.drive.mode ≡ Pwm) × (m.run.drive.pulse ≡ signed_in f (pulse_in f)))

  -- A speed left on the way to speed 0: there was such a start, and since the last frame executed here, or the last stop of homing's, the speed's size
  -- has not grown.
  abbrev pub SlowingSent : ℕ → Servo → Type 0
  SlowingSent n k =
      ((s : ℕ) × Began s n (Has 4) (λ before f m. (m.run.drive.mode ≡ Velocity) ⊎ (m.run.drive.mode ≡ Trapezoid)))
      × ((j : ℕ) (m : Servo) → j ≤ n → Stands net cs i j m → ((x : ℕ) (f : Frame) → j ≤ x → x < n → Executed net cs i x f → ⊥)
      → ((x : ℕ) (h : Halt) → j ≤ x → x < n → Homed net cs i h x → ⊥)
      → nat_abs k.run.profile.speed ≤ nat_abs m.run.profile.speed)

  -- A hold: the last executed Stop with one of bits 1 to 4 had bit 2 or 4, and since then the servo holds what that Stop said.
  pub record HoldSent (n : ℕ) : Type 0 where
    pub by : ℕ
    pub stop : Frame
    pub executed : Executed net cs i by stop
    pub code : stop.code ≡ 7
    pub before : Servo
    pub stood : Stands net cs i by before
    pub earlier : by < n
    pub last : None net cs i Halts by n
    pub since : Since net cs i by n (λ m. (m.run.drive.mode ≡ Hold) × HeldAt before stop (encoder m (whole m.run.profile.setpoint)))

  -- 02 P8: the Set Homing f was executed here among the first n calls, and since then neither another nor a Hard Reset
  pub record HomingSent (f : Frame) (n : ℕ) : Type 0 where
    pub by : ℕ
    pub earlier : by < n
    pub executed : Executed net cs i by f
    pub code : f.code ≡ 9
    pub last : None net cs i (λ g. (g.code ≡ 9) ⊎ (g.code ≡ 15)) by n

  -- A hold that no Stop has sent: a Set Homing with bit 4 was sent, a tick found its switch, and since then the servo holds the encoder's count of that
  -- very tick.
  pub record HoldHomed (n : ℕ) : Type 0 where
    pub by : ℕ
    pub homed : Homed net cs i Abrupt by
    pub asked : Frame
    pub sent : HomingSent asked by
    pub bit : Has 4 asked
    pub earlier : by < n
    pub last : None net cs i Halts by n
    pub since : Since net cs i by n (λ m. (m.run.drive.mode ≡ Hold) × (encoder m (whole m.run.profile.setpoint) ≡ homed.sample.raw))

  -- what the servo k does after n calls, and what was sent for it
  pub record WasSent (n : ℕ) (k : Servo) : Type 0 where
    pub move : k.run.drive.mode ≡ Trapezoid → MoveSent n
    pub speed : k.run.drive.mode ≡ Velocity → (k.run.profile.aim ≡ pos 0 → ⊥) → SpeedSent n
    pub slowing : k.run.drive.mode ≡ Velocity → k.run.profile.aim ≡ pos 0 → (k.run.profile.speed ≡ pos 0 → ⊥) → SlowingSent n k
    pub pulse : k.run.drive.mode ≡ Pwm → PulseSent n
    pub hold : k.run.drive.mode ≡ Hold → HoldSent n ⊎ HoldHomed n

-- From setup, through any calls: what moves is in a mode that moves, and what moves or holds was sent.
abbrev pub WhatMovesWasSent : Type 0
WhatMovesWasSent =
    (net types : List ℕ) (cs : List Call) (i n : ℕ) (k : Servo) → Passes (setup_table net types) → AllHanded cs → n ≤ length cs
    → Stands (setup_record net types) cs i n k
    → (Moves k → (k.run.drive.mode ≡ Pwm) ⊎ ((k.run.drive.mode ≡ Velocity) ⊎ (k.run.drive.mode ≡ Trapezoid)))
    × WasSent (setup_record net types) cs i n k
