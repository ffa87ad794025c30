-- Demand 1 from the bytes, of a step-motor module (document 02, P3): what moves is what was sent. Nothing is said here of what a module keeps of its
-- loads, only of frames and their bytes, whether they were executed, and what the module does. It is proved in proofs/ as `what_moves_was_sent`.
use Rattle.std.specs.Prelude.{◌≡◌, ◌⊎◌, ℕ, ◌+◌, ◌*◌, ◌<◌, ◌≤◌, List, true, false, length, get_or}
use Rattle.base_integers.specs.Bits.{bit, is_set}
use Rattle.line_receiver.specs.Frames.{Frame}
use Rattle.stepper_rules.specs.declared.Stepper.{Stepper}
use Rattle.stepper_rules.specs.Carried.{needed}
use Rattle.stepper_rules.specs.RampPromises.{greater}
use Rattle.types_rules.specs.Table.{stepper}
use Rattle.api_rules.specs.Table.{setup_table}
use Rattle.api_rules.specs.Calls.{setup_record}
use Rattle.api_rules.specs.Promises.{Passes}
use Rattle.demands_history_rules.specs.Calls.{Call, AllHanded}
use Rattle.demands_rules.specs.Place.{Stands, Executed, None, Since}
use Rattle.demands_rules.specs.Loaded.{control, Has, Began}
use Rattle.demands_stepper_rules.specs.Motion.{Moves}

-- 02 P3, Load Trajectory: behind the control byte come four bytes of a position with bit 0, the speed with bit 1, the acceleration time with bit 2
abbrev pub speed_in : Frame → ℕ
speed_in f = get_or f.content (1 + 4 * bit 0 (control f)) 0

abbrev pub time_in : Frame → ℕ
time_in f = get_or f.content (1 + 4 * bit 0 (control f) + bit 1 (control f)) 0

-- 02 P3: Set Parameters, five data bytes; the second is the minimum speed
abbrev pub SetsMinimum : Frame → Type 0
SetsMinimum f = (f.code ≡ 6) × (length f.content ≡ 5)

abbrev pub minimum_in : Frame → ℕ
minimum_in f = get_or f.content 1 0

-- 02 P3: a Stop with bit 2, abrupt, or bit 3, smooth; and a smooth one
abbrev pub Halts : Frame → Type 0
Halts f = (f.code ≡ 7) × (Has 2 f ⊎ Has 3 f)

abbrev pub SlowsDown : Frame → Type 0
SlowsDown f = (f.code ≡ 7) × Has 3 f

-- 02 P3: what drops a waiting load or takes its place: Load, Start, Hard Reset, such a Stop
abbrev pub Drops : Frame → Type 0
Drops f = (f.code ≡ 4) ⊎ ((f.code ≡ 5) ⊎ ((f.code ≡ 15) ⊎ Halts f))

-- What the module m does, since the Load f was started at the module before: it moves in the direction of f's bit 4, with f's acceleration time and
-- the minimum that there was; its goal is f's speed, or the minimum if that is greater, and while it stops smoothly the minimum.
pub record Goes (before : Stepper) (f : Frame) (m : Stepper) : Type 0 where
  pub moves : Moves m
  pub way : m.motion.backward ≡ is_set 4 (control f)
  pub time : m.motion.time ≡ time_in f
  pub minimum : m.settings.minimum ≡ before.settings.minimum
  pub goal : m.motion.stopping ≡ false → m.motion.goal ≡ greater (speed_in f) before.settings.minimum
  pub slowing : m.motion.stopping ≡ true → m.motion.goal ≡ before.settings.minimum

module _ (net : List ℕ) (cs : List Call) (i : ℕ) where
  -- a smooth Stop was executed here by a call after call s and before call j
  pub record Slowed (s j : ℕ) : Type 0 where
    pub by : ℕ
    pub stop : Frame
    pub later : s < by
    pub earlier : by < j
    pub executed : Executed stepper net cs i by stop
    pub smooth : SlowsDown stop

  -- the module stops smoothly exactly if it was told to since call s
  pub record Stopping (s j : ℕ) (m : Stepper) : Type 0 where
    pub goes : m.motion.stopping ≡ false → None stepper net cs i SlowsDown s j
    pub slows : m.motion.stopping ≡ true → Slowed s j

  -- Motion: some call started a Load that carried speed and acceleration time itself, and after each call since, the module does what it says, or
  -- what a smooth Stop since said.
  pub record MotionSent (n : ℕ) : Type 0 where
    pub by : ℕ
    pub began : Began stepper needed Drops net cs i by n (λ f. Has 1 f × Has 2 f) Goes
    pub stopping : (j : ℕ) (m : Stepper) → by < j → j ≤ n → Stands stepper net cs i j m → Stopping by j m

  -- A minimum: it is the second byte of an executed Set Parameters, and is so after each call since.
  pub record MinimumSent (n minimum : ℕ) : Type 0 where
    pub by : ℕ
    pub parameters : Frame
    pub executed : Executed stepper net cs i by parameters
    pub sets : SetsMinimum parameters
    pub byte : minimum ≡ minimum_in parameters
    pub earlier : by < n
    pub since : Since stepper net cs i by n (λ m. m.settings.minimum ≡ minimum)

-- From setup, through any calls: what moves was sent, and has a minimum; and a minimum that there is was sent.
abbrev pub WhatMovesWasSent : Type 0
WhatMovesWasSent =
    (net types : List ℕ) (cs : List Call) (i n : ℕ) (k : Stepper) → Passes (setup_table net types) → AllHanded cs → n ≤ length cs
    → Stands stepper (setup_record net types) cs i n k
    → (Moves k → MotionSent (setup_record net types) cs i n × (k.settings.minimum ≡ 0 → ⊥))
    × ((k.settings.minimum ≡ 0 → ⊥) → MinimumSent (setup_record net types) cs i n k.settings.minimum)
