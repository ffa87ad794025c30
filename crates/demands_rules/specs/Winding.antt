-- An output at its limit (document 02, P5): through any calls, while each tick is cut, the integral stays what it was. Each promise is proved under its
-- name, with small letters, in proofs/.
use Rattle.std.specs.Prelude.{◌≡◌, ℕ, suc, ◌-◌, ◌^◌, List, [], ◌∷◌, ◌++◌, true}
use Rattle.line_receiver.specs.Frames.{Frame, clean, written}
use Rattle.chain_rules.specs.Chain.{flat, taking}
use Rattle.servo_rules.specs.declared.Sample.{Sample}
use Rattle.servo_rules.specs.declared.Servo.{Servo}
use Rattle.servo_rules.specs.Answers.{type_number}
use Rattle.servo_rules.specs.CutPromises.{Blanks}
use Rattle.types_rules.specs.Types.{kind}
use Rattle.net_rules.specs.Calls.{set_up}
use Rattle.api_rules.specs.Promises.{ValidRecord}
use Rattle.demands_history_rules.specs.Events.{run}
use Rattle.demands_history_rules.specs.Calls.{Call, AllHanded, left_by}
use Rattle.demands_rules.specs.ServoPlace.{At, Stands, Executed, Ticked}
use Rattle.demands_rules.specs.Meaning.{gives, Holds}
use Rattle.demands_rules.specs.Dip.{History, sending, tick_at_count, tick_at, pulsing, driven_after}

-- The mill's promise, from any valid record: through any calls, however many ticks are among them, if each of those ticks that is done leaves the cut bit at
-- place i and no frame is executed there that blanks the filter's memory, the integral after them is what it was before. Polls, gains set
-- anew, moves started and frames for others may come between.
abbrev pub WindsUpNoMore : Type 0
WindsUpNoMore =
    (net : List ℕ) (cs : List Call) (i : ℕ) (m k : Servo)
    → ValidRecord net → AllHanded cs → At net i m → At (left_by cs net) i k
    → ((j : ℕ) (x : Sample) (s : Servo) → Ticked net cs i j x → Stands net cs i (suc j) s → s.run.drive.cut ≡ true)
    → ((j : ℕ) (f : Frame) (s : Servo) → Stands net cs i j s → Executed net cs i j f → Blanks s f → ⊥)
    → k.run.memory.integral ≡ m.run.memory.integral

-- ---- a carriage against a block, by the tick, computed

-- a tick at power 1 that finds the carriage so many counts behind where it is held, and one so many ahead
abbrev pub behind : ℕ → History
behind n = tick_at_count 1 (2 ^ 32 - n)

abbrev pub ahead : ℕ → History
ahead n = tick_at_count 1 n

-- Set Gain with Ki alone, of one output for each count of the integral; IL as two bytes, and OL
abbrev pub integrating : List ℕ → ℕ → History
integrating il ol = sending 6 (0 ∷ 0 ∷ 0 ∷ 0 ∷ 0 ∷ 1 ∷ il ++ ol ∷ 0 ∷ 0xFF ∷ 0x3F ∷ 1 ∷ 0 ∷ 1 ∷ [])

-- a servo alone on the line that is held at count 0 with OL 10 and the greatest IL: power 1, Clear Bits, the gains, an abrupt Stop
abbrev pub holding : History
holding = tick_at 1 ++ sending 11 [] ++ integrating (0xFF ∷ 0x7F ∷ []) 10 ++ sending 7 (5 ∷ [])

-- a block pushes it 6 counts back for four ticks; the first works 6 out, the others 12, which is cut
abbrev pub blocked : History
blocked = holding ++ behind 6 ++ behind 6 ++ behind 6 ++ behind 6

-- what a servo answers to No Op after a history: its status byte, and the sum of that
abbrev pub answer_after : History → List ℕ
answer_after h = flat (taking kind (clean (written 0 14 [])) (run kind h (set_up (type_number ∷ []))).net).replies

-- What the board drives (the output's size, 1 if it is below 0, the enable line) and what the servo answers, tick by tick. The block leaves the integral
-- at 6, so that at 6 counts ahead 0 is put out, where the base's filter had wound up to 24 and still put out 10; so it is on the other side. At the limit
-- nothing is cut. At power 2 nothing is put out, and all else is as at power 1.
abbrev pub Blocked : Type 0
Blocked = Holds (
    gives (driven_after (holding ++ behind 6)) (6 ∷ 0 ∷ 1 ∷ [])
    ∷ gives (answer_after (holding ++ behind 6)) (9 ∷ 9 ∷ [])
    ∷ gives (driven_after blocked) (10 ∷ 0 ∷ 1 ∷ [])
    ∷ gives (answer_after blocked) (13 ∷ 13 ∷ [])
    ∷ gives (driven_after (blocked ++ ahead 6)) (0 ∷ 0 ∷ 1 ∷ [])
    ∷ gives (answer_after (blocked ++ ahead 6)) (9 ∷ 9 ∷ [])
    ∷ gives (driven_after (holding ++ ahead 6 ++ ahead 6)) (10 ∷ 1 ∷ 1 ∷ [])
    ∷ gives (driven_after (holding ++ ahead 6 ++ ahead 6 ++ behind 6)) (0 ∷ 0 ∷ 1 ∷ [])
    ∷ gives (driven_after (holding ++ behind 10)) (10 ∷ 0 ∷ 1 ∷ [])
    ∷ gives (answer_after (holding ++ behind 10)) (9 ∷ 9 ∷ [])
    ∷ gives (driven_after (blocked ++ tick_at_count 2 (2 ^ 32 - 6))) (0 ∷ 0 ∷ 0 ∷ [])
    ∷ gives (answer_after (blocked ++ tick_at_count 2 (2 ^ 32 - 6))) (5 ∷ 5 ∷ [])
    ∷ gives (driven_after (blocked ++ tick_at_count 2 (2 ^ 32 - 6) ++ ahead 6)) (0 ∷ 0 ∷ 1 ∷ [])
    ∷ [])

-- The bit after a blocked tick, by what comes then: off by a Stop, off by low power, a PWM start, and PWM held to OL clear it; an abrupt Stop, gains set
-- anew and Reset Position leave it until the next tick.
abbrev pub Clears : Type 0
Clears = Holds (
    gives (answer_after (blocked ++ sending 7 (3 ∷ []))) (9 ∷ 9 ∷ [])
    ∷ gives (answer_after (blocked ++ tick_at 0)) (1 ∷ 1 ∷ [])
    ∷ gives (answer_after (blocked ++ pulsing)) (9 ∷ 9 ∷ [])
    ∷ gives (driven_after (blocked ++ pulsing ++ tick_at 1)) (10 ∷ 0 ∷ 1 ∷ [])
    ∷ gives (answer_after (blocked ++ pulsing ++ tick_at 1)) (9 ∷ 9 ∷ [])
    ∷ gives (answer_after (blocked ++ sending 7 (5 ∷ []))) (13 ∷ 13 ∷ [])
    ∷ gives (answer_after (blocked ++ integrating (0 ∷ 0 ∷ []) 255)) (13 ∷ 13 ∷ [])
    ∷ gives (answer_after (blocked ++ sending 0 [])) (13 ∷ 13 ∷ [])
    ∷ [])

-- An integral of 100; then IL 10 and OL 0, with which a tick at 0 counts is cut and leaves 100; then OL 255, with which a tick at 5 counts ahead holds
-- 95 to 10 and puts that out.
abbrev pub wound : History
wound = holding ++ integrating (0xFF ∷ 0x7F ∷ []) 255 ++ behind 100

abbrev pub Lowered : Type 0
Lowered = Holds (
    gives (driven_after wound) (100 ∷ 0 ∷ 1 ∷ [])
    ∷ gives (driven_after (wound ++ integrating (10 ∷ 0 ∷ []) 0 ++ ahead 0)) (0 ∷ 0 ∷ 1 ∷ [])
    ∷ gives (answer_after (wound ++ integrating (10 ∷ 0 ∷ []) 0 ++ ahead 0)) (13 ∷ 13 ∷ [])
    ∷ gives (driven_after (wound ++ integrating (10 ∷ 0 ∷ []) 0 ++ ahead 0 ++ integrating (10 ∷ 0 ∷ []) 255 ++ ahead 5)) (10 ∷ 0 ∷ 1 ∷ [])
    ∷ [])
