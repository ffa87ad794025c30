-- Demand 2: frames, replies, inputs, speeds and outputs are those of document 01. Each promise is proved under its name, with small letters, in proofs/.
use Rattle.std.specs.Prelude.{◌≡◌, ℕ, ◌-◌, ◌^◌, ◌<◌, ◌≤◌, List, [], ◌∷◌, true, false, pos, negsuc, nat_abs, length, take, replicate}
use Rattle.base_layout.specs.Bytes.{Bytes, le, of_le}
use Rattle.line_receiver.specs.Receive.{idle}
use Rattle.line_receiver.specs.Frames.{Frame, ended, reads, clean, after}
use Rattle.line_receiver.specs.Promises as Line
use Rattle.module_rules.specs.Promises.{Replied}
use Rattle.chain_rules.specs.Chain.{Net, addresses, handed, said, replies_from, Outcome, taking}
use Rattle.inout_rules.specs.Promises.{ReadValue, Shown}
use Rattle.servo_motion.specs.declared.Profile.{Profile}
use Rattle.servo_motion.specs.Profile.{left, by_trapezoid, by_velocity, speeds}
use Rattle.servo_motion.specs.Promises.{Asked, Running, Toward}
use Rattle.servo_filter.specs.Filter.{output}
use Rattle.servo_filter.specs.Promises as Filter
use Rattle.servo_rules.specs.Carried.{needed}
use Rattle.servo_rules.specs.declared.Mode.TheVariants.{Off, Velocity, Trapezoid}
use Rattle.servo_rules.specs.declared.Sample.{Sample}
use Rattle.servo_rules.specs.declared.Servo.{Servo}
use Rattle.servo_rules.specs.State.{started}
use Rattle.servo_rules.specs.Answers.{execute}
use Rattle.servo_rules.specs.Tick.{met, ticked}
use Rattle.servo_rules.specs.Promises.{Samples, ItemsAre}
use Rattle.servo_rules.specs.StopPromises.{Released}
use Rattle.servo_rules.specs.TickPromises.{GoesOn}
use Rattle.servo_rules.specs.RestPromises.{NoFrameRaises}
use Rattle.servo_slot_rules.specs.Promises.{Fits}
use Rattle.stepper_rules.specs.FramePromises as Stepper
use Rattle.stepper_rules.specs.RampPromises as Ramp
use Rattle.types_rules.specs.Table.{ModuleType, rules_of}
use Rattle.types_rules.specs.Types.{Module, kind}
use Rattle.net_rules.specs.Calls.{set_up}
use Rattle.host_rules.specs.Writing.{written_of, room_after}
use Rattle.api_rules.specs.Promises.{StatusRead}

-- an undamaged frame
abbrev pub frame : ℕ → ℕ → List ℕ → Frame
frame address code ds = record { address = address; code = code; content = ds; damaged = false }

-- a frame has been handed along the chain: each module that it touches has executed it and, if it replies, replied
abbrev pub handed_along : Frame → Net Module → Outcome Module
handed_along f n =
    record { net = record { receiver = idle; modules = handed kind f true n.modules }; replies = replies_from 0 (said kind f true n.modules) }

-- What the host writes is what a module reads: the writer's bytes, without marks, to an idle receiver.
abbrev pub ReadBack : Type 0
ReadBack =
    (n : Net Module) (address code : ℕ) (ds room : List ℕ)
    → n.receiver ≡ idle → (written_of address code ds room).number ≡ 0
    → taking kind (clean (take (written_of address code ds room).len (room_after address code ds room))) n
    ≡ handed_along (frame address code ds) n

-- A tick and the profile: from p to q, by the mode that the tick meets after power and homing, and the mode after it. After a smooth stop of homing's
-- the commanded speed is 0 (02 P8).
pub record Speeds (x : Sample) (m : Servo) (p q : Profile) : Type 0 where
  -- velocity mode goes toward the commanded speed by at most the acceleration, and never past it
  pub velocity : (met x m).run.drive.mode ≡ Velocity → (ticked x m).run.drive.mode ≡ Velocity → Toward p.acceleration p.aim p.speed q.speed
  -- a trapezoid's speed is the greatest that the text allows, so never above the commanded one, and it can still stop within what is left
  pub trapezoid : (met x m).run.drive.mode ≡ Trapezoid → (ticked x m).run.drive.mode ≡ Trapezoid
      → Asked p.acceleration p.top (nat_abs (left p)) (nat_abs p.speed) (nat_abs q.speed) × Running q
  -- where a tick ends in off, by low power, too large an error or homing, speed and output are 0
  pub off : (m.run.drive.mode ≡ Off → ⊥) → (ticked x m).run.drive.mode ≡ Off → Released (ticked x m).run

-- The whole of demand 2 beside the exact contracts of the calls (crate doljurven).
pub record Meaning : Type 0 where
  pub read_back : ReadBack
  -- nothing but a written frame is undamaged, a marked byte or another last byte damages it where it is, sixteen nulls end in idle
  pub only_written : Line.Only
  pub marked : Line.Marked
  pub nulls : Line.Nulls
  -- the status reader takes apart what a module of any type replies
  pub status_read : StatusRead
  -- inputs: an I/O module's bits are read from the latched sample where they are directed as inputs and from the register where as outputs; a tick
  -- latches the sample that it hands over, and no frame changes it; a reply shows what is latched then, item by item, of the record after the frame
  pub read_value : ReadValue
  pub inout_shown : Shown
  pub servo_shown : Samples
  pub items : ItemsAre
  pub replied : (t : ModuleType) → Replied (rules_of t)
  -- no frame raises a speed: only a tick does, and the setpoint moves by that speed, in either mode
  pub no_frame_raises : NoFrameRaises
  pub goes_on : GoesOn
  pub speeds : (x : Sample) (m : Servo) → Fits m → Speeds x m (met x m).run.profile (ticked x m).run.profile
  -- the motor's output is within OL; on the same memory it is what document 01 puts out, cut or not; u is within 2,684,141,572, which it reaches
  pub output : (x : Sample) (m : Servo) → Fits m → nat_abs (ticked x m).run.drive.output ≤ m.settings.tuning.gains.ol
  pub as_the_base : Filter.OnlyTheIntegral
  pub largest : Filter.Largest
  pub reached : Filter.Reached
  -- a step-motor module (02 P3): what its loads, starts, stops and parameters do, and what it tells; its speed goes one unit at each T-th tick and
  -- never past its goal, which is the commanded speed, or the minimum if that is greater; each ramp in closed form; the position moves by the new speed
  pub stepper_loads : Stepper.Loading
  pub stepper_obeys : Stepper.Obeys
  pub stepper_tells : Stepper.Told
  pub never_past : Ramp.NeverPast
  pub climb : Ramp.Climb
  pub fall : Ramp.Fall
  pub slow_down : Ramp.SlowDown
  pub stepper_ticks : Ramp.Ticking
  -- least significant byte first, for any number of bytes, there and back
  pub bytes : (k x : ℕ) → x < 256 ^ k → of_le (le k x) ≡ x
  pub numbers : (bs : List ℕ) → Bytes bs → le (length bs) (of_le bs) ≡ bs

-- The bench sheet. A case: what is worked out, and what the sheet says.
pub data Case : Type 1 where
  gives : {A : Type 0} → A → A → Case

abbrev pub Holds : List Case → Type 0
Holds [] = Unit {0}
Holds (gives x y ∷ cs) = (x ≡ y) × Holds cs

-- a trapezoid at rest with acceleration a, greatest speed top and less than a count, d, left; velocity mode from 5 to -5
abbrev pub resting : ℕ → ℕ → ℕ → Profile
resting a top d = record { setpoint = 65536 - d; speed = pos 0; goal = 1; aim = pos 0; acceleration = a; top = top }

abbrev pub reversing : Profile
reversing = record { setpoint = 0; speed = pos 5; goal = 0; aim = negsuc 4; acceleration = 2; top = 0 }

-- Every case holds: (a) and (b) read undamaged; (c) address 1, group 255, member; (d) header and sixteen nulls; (e) 0x97 needs 13, and with
-- the nine data bytes of command 0x94 is cause 2; (f), (g) speeds of a trapezoid; (h) of velocity mode; (i) u -255 and -256.
abbrev pub Sheet : Type 0
Sheet = Holds (
    gives (reads (clean (0xAA ∷ 0x01 ∷ 0x17 ∷ 0x02 ∷ 0x1A ∷ [])) idle) (ended (frame 1 7 (2 ∷ [])) idle [])
    ∷ gives (reads (clean (0xAA ∷ 0x01 ∷ 0x57 ∷ 0x11 ∷ 0x64 ∷ 0 ∷ 0 ∷ 0 ∷ 0xCD ∷ [])) idle) (ended (frame 1 7 (0x11 ∷ 0x64 ∷ 0 ∷ 0 ∷ 0 ∷ [])) idle [])
    ∷ gives (addresses kind (taking kind (clean (0xAA ∷ 0x00 ∷ 0x21 ∷ 0x01 ∷ 0xFF ∷ 0x21 ∷ [])) (set_up (2 ∷ []))).net.modules)
    (record { individual = 1; group = 255; leader = false; low = true } ∷ [])
    ∷ gives (after (clean (0xAA ∷ replicate 16 0)) idle) idle
    ∷ gives (needed 0x97) 13
    ∷ gives (execute (frame 0 4 (0x97 ∷ replicate 8 0)) true started).station.cause 2
    ∷ gives (speeds 5 by_trapezoid (resting 2 5 12)) (pos 2 ∷ pos 4 ∷ pos 4 ∷ pos 2 ∷ pos 0 ∷ [])
    ∷ gives (speeds 5 by_trapezoid (resting 2 5 11)) (pos 2 ∷ pos 4 ∷ pos 3 ∷ pos 2 ∷ pos 0 ∷ [])
    ∷ gives (speeds 5 by_velocity reversing) (pos 3 ∷ pos 1 ∷ negsuc 0 ∷ negsuc 2 ∷ negsuc 4 ∷ [])
    ∷ gives (output 255 (negsuc 254) ∷ output 255 (negsuc 255) ∷ []) (pos 0 ∷ negsuc 0 ∷ [])
    ∷ [])
