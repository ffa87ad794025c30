-- The mill's question of a servo: what Question.antt asks of any type, with what a servo has ready. Each promise is proved under its name in proofs/.
use Rattle.std.specs.Prelude.{◌≡◌, ◌⊎◌, Bool, false}
use Rattle.line_receiver.specs.Frames.{Frame}
use Rattle.servo_rules.specs.declared.Servo.{Servo}
use Rattle.servo_rules.specs.Carried.{needed}
use Rattle.servo_rules.specs.Loads.{complete}
use Rattle.servo_rules.specs.Answers.{with_cause, execute}
use Rattle.types_rules.specs.Table.{servo}
use Rattle.demands_rules.specs.Motion.{Starts}
use Rattle.demands_rules.specs.Question as AnyType
use Rattle.demands_rules.specs.Question.{IsStart}

-- the ways that a servo misses a load, and what a missed one leaves
abbrev pub Missed : Bool → Frame → Type 0
Missed = AnyType.Missed needed

abbrev pub MissedTells : Type 0
MissedTells = AnyType.MissedTells servo needed

-- no complete load waits: none at all, or one that is incomplete
abbrev pub NoneReady : Servo → Type 0
NoneReady m = (m.settings.load.waits ≡ false) ⊎ (complete m ≡ false)

-- no load waits at all
abbrev pub NoLoad : Servo → Type 0
NoLoad m = m.settings.load.waits ≡ false

-- It does not go: at one servo, on the line, and in any time.
abbrev pub Question : Type 0
Question = AnyType.Question servo needed NoneReady

abbrev pub QuestionOnTheLine : Type 0
QuestionOnTheLine = AnyType.QuestionOnTheLine servo needed NoneReady

abbrev pub QuestionInTime : Type 0
QuestionInTime = AnyType.QuestionInTime servo needed NoLoad

-- Twice: after any of the three starts a Start is 3 and changes nothing else.
abbrev pub Twice : Type 0
Twice =
    (m : Servo) (f g : Frame) (alone apart : Bool) → Starts f alone m → IsStart g
    → execute g apart (execute f alone m) ≡ with_cause 3 (execute f alone m)
