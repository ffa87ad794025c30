-- The mill's question of a step-motor module. Assumes nothing.
use mathlib.Core.Path.{◌≡◌, refl, ap}
use mathlib.Core.Bool.{Bool, true, false, false≢true}
use mathlib.Core.Logic.{inl, inr}
use native.Mathlib.Omega.{arith}
use borrow.Author.Tests.{eq-eqb, ne_eqb}
use lib.ListN.{length, get_or}
use Rattle.line_receiver.specs.Frames.{Frame}
use Rattle.module_rules.specs.declared.Fault.TheVariants.{Count}
use Rattle.module_rules.specs.Commands.{asked}
use Rattle.module_rules.specs.Rules as Rules
use Rattle.module_rules.specs.Rules.{malformed, wants}
use Rattle.stepper_rules.specs.declared.Order.TheVariants.{Start}
use Rattle.stepper_rules.specs.declared.Stepper.{Stepper}
use Rattle.stepper_rules.specs.Carried.{needed}
use Rattle.stepper_rules.specs.Asks.{load_meant, own}
use Rattle.stepper_rules.specs.Ramp.{ticked}
use Rattle.stepper_rules.specs.Perform.{startable, start}
use Rattle.stepper_rules.specs.Answers.{request, execute}
use Rattle.stepper_rules.specs.FramePromises.{Startable}
use Rattle.stepper_rules.proofs.Starting.{was_startable}
use Rattle.types_rules.specs.Table.{stepper}
use Rattle.demands_rules.specs.Question.{Loading}
use Rattle.demands_rules.proofs.Question as AnyType
use Rattle.demands_rules.proofs.OnTheLine as Line
use Rattle.demands_rules.proofs.Buffers.{question_of_any_type}
use Rattle.demands_rules.proofs.InTime as Time
use Rattle.demands_stepper_rules.specs.Question.{MissedTells, NoneReady, NoLoad, Question, QuestionOnTheLine, QuestionInBuffers, QuestionInTime, Twice}
use Rattle.demands_stepper_rules.proofs.Starting.{begins}

-- a load with another count than its control byte asks for has a wrong count; code 5 without data asks for a start
short_asks : (f : Frame) (alone : Bool) → f.code ≡ 4 → (length f.content ≡ needed (get_or f.content 0 0) → ⊥) → request f alone ≡ malformed Count
unfolding Rules.request asked own load_meant
short_asks f alone c n = rw (c, ne_eqb _ _ n) refl

start_asks : (f : Frame) (alone : Bool) → f.code ≡ 5 → length f.content ≡ 0 → request f alone ≡ wants Start
unfolding Rules.request asked own
start_asks f alone c n = rw (c, eq-eqb _ _ n) refl

-- without a complete load, or before Set Parameters, no Start can be carried out
unready : (m : Stepper) → NoneReady m → startable m ≡ false
unready m n = at (startable m) refl
  where
    has-not : Startable m → NoneReady m → ⊥
    has-not s (inl e) = false≢true cc
    has-not s (inr (inl e)) = omega (arith, s.speed)
    has-not s (inr (inr (inl e))) = omega (arith, s.time)
    has-not s (inr (inr (inr e))) = omega (arith, s.known)

    at : (t : Bool) → startable m ≡ t → startable m ≡ false
    at true e = absurd (has-not (was_startable m e) n)
    at false e = e

-- what a step-motor module hands in
loads : Loading stepper needed NoneReady NoLoad
unfolding ticked
loads = record {
  start = Start;
  miscounted = short_asks;
  asks = start_asks;
  unready = unready;
  none = λ m e. inl e;
  tick = λ x m e. e;
}

pub missed_tells : MissedTells
missed_tells = AnyType.missed_tells stepper needed NoneReady NoLoad loads

pub question : Question
question = AnyType.question stepper needed NoneReady NoLoad loads

pub question_on_the_line : QuestionOnTheLine
question_on_the_line = Line.question_on_the_line stepper needed NoneReady NoLoad loads

pub question_in_buffers : QuestionInBuffers
question_in_buffers = question_of_any_type stepper needed NoneReady NoLoad loads

pub question_in_time : QuestionInTime
question_in_time = Time.question_in_time stepper needed NoneReady NoLoad loads

pub twice : Twice
unfolding start
twice m f g alone apart s t =
    let k : Stepper = execute f alone m in
    let (l, e) = begins f alone m s in
    AnyType.start_refused stepper needed NoneReady NoLoad loads k k g apart (λ c. refl) (inl (ap (λ (k : Stepper). k.load.waits) e)) t
