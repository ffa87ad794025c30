-- A homing run on the line (document 02, P8): through any calls, from the command on to the switch. It is proved in proofs/ as `homes_on_the_line`.
use Rattle.std.specs.Prelude.{◌≡◌, ◌⊎◌, ℕ, List}
use Rattle.base_layout.specs.Bytes.{Bytes}
use Rattle.line_receiver.specs.Frames.{Frame}
use Rattle.servo_rules.specs.declared.Sample.{Sample}
use Rattle.servo_rules.specs.declared.Servo.{Servo}
use Rattle.servo_rules.specs.State.{position}
use Rattle.servo_rules.specs.HomingPromises.{Alike}
use Rattle.types_rules.specs.Table.{servo}
use Rattle.api_rules.specs.Table.{tick_table}
use Rattle.api_rules.specs.Promises.{Passes, ValidRecord}
use Rattle.demands_history_rules.specs.Calls.{Call, tick, AllHanded, leaves, left_by}
use Rattle.demands_rules.specs.Place.{UndisturbedBy}
use Rattle.demands_rules.specs.ServoPlace.{At, servo_sample_at}
use Rattle.demands_rules.specs.Sent.{encoder}

-- what begins homing anew, or ends it, where it is executed: Set Homing, Hard Reset
abbrev pub Rearms : Frame → Type 0
Rearms f = (f.code ≡ 9) ⊎ (f.code ≡ 15)

-- homing goes on with the byte b, and home is where it was on the encoder
pub record Searching (b : ℕ) (s k : Servo) : Type 0 where
  pub byte : k.homing.byte ≡ b
  pub home : encoder k k.homing.home ≡ encoder s s.homing.home

-- homing has ended, and home is the position of the tick that was handed x, on the encoder its raw count
pub record FoundBy (x : Sample) (k : Servo) : Type 0 where
  pub byte : k.homing.byte ≡ 0
  pub home : k.homing.home ≡ position k
  pub count : encoder k k.homing.home ≡ x.raw

-- The servo s at place i is homing with the byte b. Through any calls in which no other Set Homing and no Hard Reset is executed there, and each tick
-- there has the watched inputs as they are at s, homing goes on: polls, starts, stops, trips, power dips, Reset Position and refused ticks may come. The
-- tick after them that has a watched input otherwise finds home.
abbrev pub HomesOnTheLine : Type 0
HomesOnTheLine =
    (net : List ℕ) (cs : List Call) (i b : ℕ) (s k : Servo)
    → ValidRecord net → AllHanded cs → At net i s → s.homing.byte ≡ b
    → UndisturbedBy servo Rearms (λ x m. Alike b s.latched.inputs x.inputs) net cs i → At (left_by cs net) i k
    → Searching b s k
    × ((samples : List ℕ) (n : Servo) → Bytes samples → Passes (tick_table (left_by cs net) samples)
    → (Alike b s.latched.inputs (servo_sample_at samples i).inputs → ⊥)
    → At (leaves (left_by cs net) (tick samples)) i n → FoundBy (servo_sample_at samples i) n)
