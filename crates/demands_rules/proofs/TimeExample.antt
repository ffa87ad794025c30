-- Beside the mill's question in any time: a history that meets what it asks for, computed. A short load and a Start for a servo at power-up, with
-- ticks between their bytes. Assumes nothing.
use mathlib.Core.Path.{◌≡◌, refl, sym, ap, ◌∙◌}
use mathlib.Core.List.{List, [], ◌∷◌, ◌++◌}
use mathlib.Core.Bool.{Bool, true, false, not, ◌&&◌, ◌||◌, false≢true}
use Prim.Native.Nat.{ℕ, ◌<◌}
use native.Mathlib.Omega.{arith}
use borrow.Author.Tests.{eqb-true, eqb-false}
use lib.Count.{ones}
use lib.ListN.{length, get_or, take}
use lib.Dec.{eqb}
use Rattle.std.specs.Prelude.{Some}
use Rattle.line_receiver.specs.Receive.{taken}
use Rattle.line_receiver.specs.Frames.{Byte, Frame, frame_in, clean, written, values}
use Rattle.module_rules.specs.Commands.{asked}
use Rattle.module_rules.specs.Rules as AnyType
use Rattle.chain_rules.specs.Chain.{Net, addresses, touched, byte_step}
use Rattle.servo_rules.specs.Carried.{needed}
use Rattle.servo_rules.specs.Asks.{load_meant, own}
use Rattle.servo_rules.specs.State.{started}
use Rattle.servo_rules.specs.Homing.{changed, homed}
use Rattle.servo_rules.specs.Tick.{by_power, ticked, met}
use Rattle.servo_rules.specs.Answers.{with_cause}
use Rattle.types_rules.specs.Types.{Module, kind, slots}
use Rattle.net_rules.specs.Record.{net_in}
use Rattle.net_rules.specs.Calls.{set_up, samples_in}
use Rattle.api_rules.specs.Promises.{ValidRecord}
use Rattle.demands_history_rules.specs.Calls.{Call, byte, tick, AllHanded}
use Rattle.demands_rules.specs.Place.{after, Touched}
use Rattle.demands_rules.specs.ServoPlace.{Stands, through_time}
use Rattle.demands_rules.specs.Question.{damaged, short}
use Rattle.demands_rules.specs.ServoQuestion.{Missed}
use Rattle.demands_rules.proofs.Examples.{types, lent, room, valid, held, lone, enough, at_power_up}
use Rattle.demands_rules.proofs.OnTheLine.{small, byte_goes}
use Rattle.demands_rules.proofs.Placing.{valid-after}
use Rattle.demands_rules.proofs.Computing.{Lone, AllOpen, through, net-after, all_pass, passes_at, ends_such, ends-such, spread, spread_open, spread_handed}
use Rattle.demands_rules.proofs.ServoQuestion.{question_in_time}

-- a frame that is a missed load wherever it comes
abbrev is_missed : Frame → Bool
is_missed f = f.damaged || (eqb f.code 4 && not (eqb (length f.content) (needed (get_or f.content 0 0))))

is_missed_lem : (f : Frame) → is_missed f ≡ true → Missed true f
is_missed_lem f e = at f.damaged (eqb f.code 4) (eqb (length f.content) (needed (get_or f.content 0 0))) refl refl refl e
  where
    at : (d c n : Bool) → f.damaged ≡ d → eqb f.code 4 ≡ c → eqb (length f.content) (needed (get_or f.content 0 0)) ≡ n
        → (d || (c && not n)) ≡ true → Missed true f
    at true c n p q r e = damaged p
    at false true false p q r e = short (eqb-true _ _ q) (eqb-false _ _ r)
    at false true true p q r e = absurd (false≢true e)
    at false false n p q r e = absurd (false≢true e)

-- each call ends nothing, or a missed load
abbrev ends : Net Module → Call → Bool
ends n (byte mark x room) = ends_such is_missed n mark x
ends n (tick samples) = true

missed_by : (cs : List Call) (net : List ℕ) (i k j : ℕ) (f : Frame) → ValidRecord net → Lone net → AllHanded cs → AllOpen cs
    → j < k → all_pass ends k cs (net_in slots net) ≡ true → Touched net cs i j f → Missed true f
missed_by cs net i k j f v one h o l e x =
    is_missed_lem f
    (ends-such is_missed (net_in slots (after net cs i j)) x.mark x.value f
    (passes_at ends cs net k j (byte x.mark x.value x.room) v one h o l e x.call) x.ended x.frame)

-- ---- the short load, whose last four bytes never come, and the Start, a tick behind each byte

abbrev line : List Byte
line = clean (written 0 4 (0x17 ∷ 0xE8 ∷ 3 ∷ 0 ∷ 0 ∷ 100 ∷ 0 ∷ 0 ∷ 0 ∷ []) ++ written 0 5 [])

abbrev cs : List Call
cs = spread 0 room line

-- the Start ends with call 32, and all that ends before it is the short load
quiet : all_pass ends 32 cs (set_up types) ≡ true
unfolding samples_in taken byte_step AnyType.execute AnyType.request asked own load_meant ticked by_power ones met homed changed
quiet = refl

abbrev go : Frame
go = record { address = 0; code = 5; content = []; damaged = false }

before-start : net_in slots (after lent cs 0 32) ≡ through (spread 0 room (take 16 line)) (set_up types)
before-start =
    net-after (spread 0 room (take 16 line)) lent valid lone (spread_handed 0 refl room (take 16 line) (small (values (take 16 line)) refl)) (spread_open 0 refl room enough (take 16 line))
    ∙ ap (through (spread 0 room (take 16 line))) held

reads_go : (frame_in (through (spread 0 room (take 16 line)) (set_up types)).receiver false ≡ go)
    × ((taken (through (spread 0 room (take 16 line)) (set_up types)).receiver 5 false).answer ≡ Some false)
    × (touched true 0 (addresses kind (through (spread 0 room (take 16 line)) (set_up types)).modules) 0 ≡ true)
unfolding samples_in taken byte_step AnyType.execute AnyType.request asked own load_meant ticked by_power ones met homed changed
reads_go = (refl, refl, refl)

start_touches : Touched lent cs 0 32 go
start_touches = record {
  mark = 0;
  value = 5;
  room = room;
  call = refl;
  done = byte_goes (after lent cs 0 32) room (record { value = 5; mark = false }) (valid-after lent cs 0 32 valid are_handed (omega arith)).0 enough;
  ended = ap (λ (n : Net Module). (taken n.receiver 5 false).answer) before-start ∙ reads_go.1;
  frame = sym (ap (λ (n : Net Module). frame_in n.receiver false) before-start ∙ reads_go.0);
  touches = ap (λ (n : Net Module). touched true 0 (addresses kind n.modules) 0) before-start ∙ reads_go.2;
}
  where
    are_handed : AllHanded cs
    are_handed = spread_handed 0 refl room line (small (values line) refl)

-- so the carriage stays, and the Start is 3, whatever the ticks made of the servo
pub carriage_stays_in_time : Stands lent cs 0 33 (with_cause 3 (through_time lent 0 (take 32 cs) started))
carriage_stays_in_time =
    question_in_time lent cs 0 32 started go valid (spread_handed 0 refl room line (small (values line) refl)) at_power_up refl start_touches (refl, refl, refl)
    (λ j f l x. missed_by cs lent 0 32 j f valid lone (spread_handed 0 refl room line (small (values line) refl)) (spread_open 0 refl room enough line) l (ap (all_pass ends 32 cs) held ∙ quiet) x)
