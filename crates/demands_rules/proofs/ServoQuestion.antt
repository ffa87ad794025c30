-- The mill's question of a servo. Assumes nothing.
use mathlib.Core.Path.{◌≡◌, refl, ap, ◌∙◌}
use mathlib.Core.Bool.{Bool, false, ◌&&◌, and-false}
use mathlib.Core.Logic.{◌⊎◌, inl, inr}
use Rattle.servo_rules.specs.declared.Halt.{Halt}
use Rattle.servo_rules.specs.declared.Halt.TheVariants.{Here}
use Rattle.servo_rules.specs.declared.Load.{Load}
use Rattle.servo_rules.specs.declared.Sample.{Sample}
use Rattle.servo_rules.specs.declared.Order.TheVariants.{LoadTrajectory, Start, Stop}
use Rattle.servo_rules.specs.declared.Servo.{Servo}
use Rattle.servo_rules.specs.Carried.{needed}
use Rattle.servo_rules.specs.State.{ready}
use Rattle.servo_rules.specs.Loads.{complete, startable, loaded}
use Rattle.servo_rules.specs.Perform.{perform}
use Rattle.servo_rules.specs.Tick.{ticked}
use Rattle.servo_rules.specs.Answers.{with_cause, execute}
use Rattle.servo_rules.specs.HomingPromises.{Acts, Unstopped}
use Rattle.servo_rules.proofs.FindingHome.{homing_ticks}
use Rattle.servo_rules.proofs.Starting.{starts, start_now, twice as twice-from}
use Rattle.servo_rules.proofs.Stopping.{stops, stops_now}
use Rattle.types_rules.specs.Table.{servo}
use Rattle.types_rules.proofs.Promised.{every_type}
use Rattle.demands_rules.specs.Motion.{by_start, by_load, of_load, by_stop_here}
use Rattle.demands_rules.specs.Question.{Loading}
use Rattle.demands_rules.specs.ServoQuestion.{MissedTells, NoLoad, NoneReady, Question, QuestionOnTheLine, QuestionInTime, Twice}
use Rattle.demands_rules.proofs.Reading.{start_asks, short_asks, not_keep}
use Rattle.demands_rules.proofs.Question as AnyType
use Rattle.demands_rules.proofs.OnTheLine as Line
use Rattle.demands_rules.proofs.InTime as Time

-- without a complete load no Start can be carried out
unready : (m : Servo) → NoneReady m → startable m ≡ false
unfolding startable
unready m (inl e) = ap (λ (t : Bool). t && complete m && ready m) e
unready m (inr e) =
    ap (λ (t : Bool). m.settings.load.waits && t && ready m) e ∙ ap (λ (t : Bool). t && ready m) (and-false m.settings.load.waits)

-- what a servo hands in
pub loads : Loading servo needed NoneReady NoLoad
loads = record {
  start = Start;
  miscounted = short_asks;
  asks = start_asks;
  unready = unready;
  none = λ m e. inl e;
  tick = λ x m e. by x m e (homing_ticks x m).either;
}
  where
    by : (x : Sample) (m : Servo) → NoLoad m → ((h : Halt) × Acts h x m) ⊎ Unstopped x m → NoLoad (ticked x m)
    by x m e (inl (h, a)) = ap (λ (l : Load). l.waits) ((homing_ticks x m).drops h a)
    by x m e (inr u) = ap (λ (l : Load). l.waits) ((homing_ticks x m).load u) ∙ e

pub missed_tells : MissedTells
missed_tells = AnyType.missed_tells servo needed NoneReady NoLoad loads

pub question : Question
question = AnyType.question servo needed NoneReady NoLoad loads

pub question_on_the_line : QuestionOnTheLine
question_on_the_line = Line.question_on_the_line servo needed NoneReady NoLoad loads

pub question_in_time : QuestionInTime
question_in_time = Time.question_in_time servo needed NoneReady NoLoad loads

pub twice : Twice
twice m f g alone apart (of_load (by_start a s)) t =
    (twice-from Start m tt).second f g alone apart a.undamaged a.order ((starts m).1 s) t.0 (start_asks g apart t.1 t.2)
twice m f g alone apart (of_load (by_load c a e s)) t =
    (twice-from (LoadTrajectory c) m e).second f g alone apart a.undamaged a.order ((start_now c m).now e ∙ (starts (loaded c m)).1 s) t.0 (start_asks g apart t.1 t.2)
twice m f g alone apart (by_stop_here a x h r) t =
    let k : Servo = execute f alone m in
    let e : k ≡ with_cause 0 (perform (Stop a Here x) m) = ((every_type servo).cause f alone m).executed (Stop a Here x) h.undamaged h.order ((stops_now a x m).here.1 r) in
    AnyType.start_refused servo needed NoneReady NoLoad loads k k g apart (λ c. refl)
    (inl (ap (λ (k : Servo). k.settings.load.waits) e ∙ (stops a x m).waits Here (not_keep Here refl)))
    t
