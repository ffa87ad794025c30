-- The mill's question of a step-motor module (document 02, P3): what Question.antt of demands_rules asks of any type, with what a step-motor module
-- has ready. Each promise is proved under its name, with small letters, in proofs/.
use Rattle.std.specs.Prelude.{◌≡◌, ◌⊎◌, Bool, false}
use Rattle.line_receiver.specs.Frames.{Frame}
use Rattle.stepper_rules.specs.declared.Stepper.{Stepper}
use Rattle.stepper_rules.specs.Carried.{needed}
use Rattle.stepper_rules.specs.Answers.{with_cause, execute}
use Rattle.types_rules.specs.Table.{stepper}
use Rattle.demands_rules.specs.Question as AnyType
use Rattle.demands_rules.specs.Buffers as Buffers
use Rattle.demands_rules.specs.Question.{IsStart}
use Rattle.demands_stepper_rules.specs.Motion.{Starts}

-- what a missed load leaves
abbrev pub MissedTells : Type 0
MissedTells = AnyType.MissedTells stepper needed

-- 02 P3: no start can be: no load waits, or it lacks the speed or the acceleration time, or Set Parameters is not done
abbrev pub NoneReady : Stepper → Type 0
NoneReady m = (m.load.waits ≡ false) ⊎ ((m.load.speed ≡ 0) ⊎ ((m.load.time ≡ 0) ⊎ (m.settings.minimum ≡ 0)))

-- no load waits at all
abbrev pub NoLoad : Stepper → Type 0
NoLoad m = m.load.waits ≡ false

-- It does not go: at one module, on the line, by the buffer (02 P2), and in any time.
abbrev pub Question : Type 0
Question = AnyType.Question stepper needed NoneReady

abbrev pub QuestionOnTheLine : Type 0
QuestionOnTheLine = AnyType.QuestionOnTheLine stepper needed NoneReady

abbrev pub QuestionInBuffers : Type 0
QuestionInBuffers = Buffers.QuestionInBuffers stepper needed NoneReady

abbrev pub QuestionInTime : Type 0
QuestionInTime = AnyType.QuestionInTime stepper needed NoLoad

-- Twice: after either start a Start is 3 and changes nothing else.
abbrev pub Twice : Type 0
Twice =
    (m : Stepper) (f g : Frame) (alone apart : Bool) → Starts f alone m → IsStart g
    → execute g apart (execute f alone m) ≡ with_cause 3 (execute f alone m)
