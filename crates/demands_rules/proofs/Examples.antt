-- Beside the theorems of demands 1 and 2: servos, frames, calls and records that meet what they ask for, computed. Assumes nothing.
use mathlib.Core.Path.{◌≡◌, refl, sym, ap, ap₂, ◌∙◌}
use mathlib.Core.Logic.{inl, inr}
use mathlib.Core.List.{List, [], ◌∷◌, ◌++◌, append-nil}
use mathlib.Core.Bool.{true, false}
use mathlib.Core.Option.{some}
use Prim.Native.Nat.{ℕ, ◌+◌, ◌≤◌}
use native.Mathlib.Nat.{le_refl}
use native.Mathlib.Omega.{arith}
use lib.Count.{ones}
use lib.Seq.{take_all}
use lib.ListN.{length, replicate, length-replicate, get_elem?}
use lib.IntN.{ℤ, pos, nat_abs}
use Rattle.base_integers.specs.Whole.{same, signed, difference}
use Rattle.line_receiver.specs.Receive.{taken}
use Rattle.line_receiver.specs.Frames.{Byte, Frame, reads, clean, written, values, AreBytes}
use Rattle.module_rules.specs.Commands.{asked}
use Rattle.module_rules.specs.Rules as AnyType
use Rattle.chain_rules.specs.Chain.{Net, addresses, touched, byte_step, Outcome}
use Rattle.servo_motion.specs.Trapezoid.{terms, stop, pick, greatest, next_speed}
use Rattle.servo_motion.specs.Setpoint.{distance, moved}
use Rattle.servo_motion.specs.Velocity.{toward}
use Rattle.servo_motion.specs.Profile.{trapezoid, stepped, by_trapezoid, by_velocity}
use Rattle.servo_filter.specs.Filter as Filter
use Rattle.servo_rules.specs.declared.Mode.TheVariants.{Pwm, Velocity, Trapezoid}
use Rattle.servo_rules.specs.declared.Servo.{Servo}
use Rattle.servo_rules.specs.Carried.{needed, carried_in, in_range}
use Rattle.servo_rules.specs.Asks.{load_meant, halt_of, stop_meant, own}
use Rattle.servo_rules.specs.State.{started, idled}
use Rattle.servo_rules.specs.Loads.{way_of, load_of, rates_of, loaded, beginning_at, movable, complete, startable, signed_by, to_speed, to_place, start}
use Rattle.servo_rules.specs.Stops.{holding}
use Rattle.servo_rules.specs.Perform.{stopped}
use Rattle.servo_rules.specs.Homing.{changed, homed}
use Rattle.servo_rules.specs.Tick.{advanced, servoed, by_power, ticked, met}
use Rattle.servo_rules.specs.Answers.{type_number, with_cause, execute}
use Rattle.servo_rules.specs.RestPromises.{following}
use Rattle.servo_slot_rules.specs.Promises.{Fits}
use Rattle.servo_slot_rules.proofs.Within.{kept}
use Rattle.types_rules.specs.Table.{servo}
use Rattle.types_rules.specs.Types.{Module, AnySample, kind, slots}
use Rattle.net_rules.specs.Record.{record_size, room_size, net_in}
use Rattle.net_rules.specs.Calls.{set_up, samples_in, samples_for}
use Rattle.host_rules.specs.Writing.{written_of}
use Rattle.api_rules.specs.Table.{setup_table}
use Rattle.api_rules.specs.Calls.{setup_record}
use Rattle.api_rules.specs.Promises.{Passes, Refuses, ValidRecord}
use Rattle.demands_history_rules.specs.Events.{Event, sent, run, singly, Reads}
use Rattle.demands_history_rules.specs.Events as Events
use Rattle.demands_history_rules.specs.Calls.{Call, byte, tick, AllHanded, refusals, leaves, left_by, done_by}
use Rattle.demands_history_rules.proofs.Singly.{run-singly}
use Rattle.demands_history_rules.proofs.Calls.{call_kept}
use Rattle.demands_rules.specs.Motion.{Moves, AtRest, moving, bound, Begins, out, put, turned_on, Starts, StartedBy}
use Rattle.demands_rules.specs.ServoPlace.{At}
use Rattle.demands_rules.specs.Question.{short, fed}
use Rattle.demands_rules.proofs.Calls.{from_setup, any_calls, done-passed}
use Rattle.demands_rules.specs.Sent.{MoveSent, PulseSent, WasSent}
use Rattle.demands_rules.proofs.Motion.{resting_rests, frame_starts}
use Rattle.demands_rules.proofs.Sent.{what_moves_was_sent}
use Rattle.demands_rules.proofs.EveryCall.{every_call, never}
use Rattle.demands_rules.proofs.OnTheLine.{small, fed-handed, fed-done}
use Rattle.demands_rules.proofs.ServoQuestion.{question_on_the_line}
use Rattle.net_rules.proofs.Types.{types as types_of}
use Rattle.demands_rules.proofs.Computing.{Lone, at_power, tick_goes, power_bytes}

-- ---- a servo and frames for it

abbrev undamaged : ℕ → List ℕ → Frame
undamaged code ds = record { address = 0; code = code; content = ds; damaged = false }

-- a servo that has seen power 1 and a Clear Bits: it could start, if a load waited
abbrev pub lit : Servo
lit = ticked (record { raw = 0; power = 1; ad = 0; inputs = 0 }) started

abbrev awake : Servo
awake = execute (undamaged 11 []) true lit

-- a Load of PWM 100, and one that starts now; a Load, start now, of velocity 100 and acceleration 100; one of position 1,000, and the same
-- without its last four bytes; Start; Stop Here at 100
abbrev pulse : Frame
pulse = undamaged 4 (0x08 ∷ 100 ∷ [])

abbrev pulse_now : Frame
pulse_now = undamaged 4 (0x88 ∷ 100 ∷ [])

abbrev speed : Frame
speed = undamaged 4 (0xB6 ∷ 100 ∷ 0 ∷ 0 ∷ 0 ∷ 100 ∷ 0 ∷ 0 ∷ 0 ∷ [])

abbrev move : Frame
move = undamaged 4 (0x17 ∷ 0xE8 ∷ 3 ∷ 0 ∷ 0 ∷ 100 ∷ 0 ∷ 0 ∷ 0 ∷ 100 ∷ 0 ∷ 0 ∷ 0 ∷ [])

abbrev cut : Frame
cut = undamaged 4 (0x17 ∷ 0xE8 ∷ 3 ∷ 0 ∷ 0 ∷ 100 ∷ 0 ∷ 0 ∷ 0 ∷ [])

abbrev go : Frame
go = undamaged 5 []

abbrev here : Frame
here = undamaged 7 (16 ∷ 100 ∷ 0 ∷ 0 ∷ 0 ∷ [])

-- no speed and no PWM value
still : (m : Servo) → m.run.profile.speed ≡ pos 0 → m.run.drive.pulse ≡ pos 0 → Moves m → ⊥
still m e q (inl n) = n e
still m e q (inr n) = n q

some_number : (n : ℕ) (z : ℤ) → z ≡ pos (n + 1) → z ≡ pos 0 → ⊥
some_number n z e q = let h : n + 1 ≡ 0 = ap nat_abs (sym e ∙ q) in omega arith

awake_fits : Fits awake
awake_fits =
    kept.frame (undamaged 11 []) true _ (λ i. omega arith)
    (kept.tick _ _ ((omega arith, omega arith), (omega arith, omega arith)) kept.power)

rests : AtRest awake
unfolding AnyType.execute AnyType.request asked own ticked by_power distance difference signed met homed changed
rests = resting_rests awake (record { speed = refl; pulse = refl; aim = λ e. refl; goal = λ e. refl })

-- each of the three begins motion
pub by_start_lem : Begins (execute pulse true awake) (execute go true (execute pulse true awake))
unfolding AnyType.execute AnyType.request asked own ticked by_power load_meant carried_in in_range loaded load_of way_of startable complete start idled signed_by ones met homed changed
by_start_lem = out (moving (still (execute pulse true awake) refl refl) (inr (some_number 99 _ refl)))

pub by_load_lem : Begins awake (execute speed true awake)
unfolding AnyType.execute AnyType.request asked own ticked load_meant carried_in in_range loaded load_of rates_of way_of startable complete start to_speed signed_by ones by_power met homed changed
by_load_lem = out (bound rests.1 (inl (refl, some_number 99 _ refl)))

pub by_stop-here : Begins awake (execute here true awake)
unfolding AnyType.execute AnyType.request asked own ticked by_power stop_meant halt_of stopped holding difference signed ones met homed changed
by_stop-here =
    let e : following (execute here true awake) ≡ pos 100 = refl in
    put (some_number 99 _ e) (some_number 99 _ e)

pub by_turning_on : Begins awake (execute here true awake)
unfolding AnyType.execute AnyType.request asked own ticked by_power stop_meant halt_of stopped holding difference signed ones met homed changed
by_turning_on = turned_on refl refl (some_number 99 _ refl)

pub starts : Starts speed true awake
starts = frame_starts speed true awake awake_fits by_load_lem

-- the speed laws of both modes speak of ticks that there are
pub climbs : ((execute speed true awake).run.drive.mode ≡ Velocity) × ((ticked (record { raw = 0; power = 1; ad = 0; inputs = 0 }) (execute speed true awake)).run.drive.mode ≡ Velocity) × Moves (ticked (record { raw = 0; power = 1; ad = 0; inputs = 0 }) (execute speed true awake))
unfolding AnyType.execute AnyType.request asked own ticked by_power load_meant carried_in in_range loaded load_of rates_of way_of startable complete start beginning_at to_speed signed_by ones servoed advanced by_velocity stepped moved toward difference signed Filter.held Filter.drive Filter.limited Filter.filtered met homed changed
climbs = (refl, refl, inl (some_number 99 _ refl))

pub travels : ((execute go true (execute move true awake)).run.drive.mode ≡ Trapezoid) × ((ticked (record { raw = 0; power = 1; ad = 0; inputs = 0 }) (execute go true (execute move true awake))).run.drive.mode ≡ Trapezoid)
unfolding AnyType.execute AnyType.request asked own ticked by_power load_meant carried_in in_range loaded load_of rates_of way_of startable complete movable same start beginning_at to_place distance difference signed ones servoed advanced by_trapezoid trapezoid stepped moved Filter.held Filter.drive Filter.limited Filter.filtered terms stop pick greatest next_speed met homed changed
travels = (refl, refl)

-- ---- a record of one servo

abbrev pub types : List ℕ
types = type_number ∷ []

abbrev pub zeros : List ℕ
zeros = replicate record_size 0

abbrev pub lent : List ℕ
lent = setup_record zeros types

abbrev pub room : List ℕ
room = replicate room_size 0

pub set_up_lem : Passes (setup_table zeros types)
set_up_lem = refl

pub valid : ValidRecord lent
valid = (from_setup zeros types set_up_lem).0

pub held : net_in slots lent ≡ set_up types
held = (from_setup zeros types set_up_lem).1

pub enough : room_size ≤ length room
enough = omega (arith, length-replicate {A = ℕ} room_size 0)

pub at_power_up : At lent 0 started
at_power_up = ap (λ (n : Net Module). get_elem? n.modules 0) held

-- a byte with mark 2 is refused
pub refuses : Refuses (refusals lent (byte 2 0 room))
refuses e = let z : ◌≡◌ {A = ℕ} 14 0 = sym (rw valid.0 refl) ∙ e in omega arith

-- ---- the mill's question: the short load and the Start

not_thirteen : 9 ≡ needed 23 → ⊥
unfolding ones
not_thirteen e = let z : ◌≡◌ {A = ℕ} 9 13 = e in omega arith

abbrev cut_bytes : List Byte
cut_bytes = clean (written 0 4 cut.content)

abbrev go_bytes : List Byte
go_bytes = clean (written 0 5 [])

cut-reads : Reads cut_bytes cut
unfolding reads taken
cut-reads = refl

go_reads : Reads go_bytes go
unfolding reads taken
go_reads = refl

pub carriage_stays : At (left_by (fed room (cut_bytes ++ go_bytes)) lent) 0 (with_cause 3 started)
carriage_stays =
    question_on_the_line lent room 0 started cut_bytes go_bytes cut go valid enough (small (values (cut_bytes ++ go_bytes)) refl)
    (ap (λ (n : Net Module). n.receiver) held)
    at_power_up
    (inl refl)
    cut-reads
    refl
    (short refl not_thirteen)
    go_reads
    (refl, refl, refl)
    (ap (λ (n : Net Module). touched true 0 (addresses kind n.modules) 0) held)

-- ---- histories of calls that end in motion: a tick with good power, and then the bytes of Clear Bits and of orders

abbrev pub lone : Lone lent
lone = ap (λ (n : Net Module). types_of n.modules) held

abbrev pub calls : List Byte → List Call
calls orders = tick (at_power 1) ∷ fed room orders

abbrev pub happens : List Byte → List (Event (List AnySample))
happens orders = Events.ticked ((servo, record { raw = 0; power = 1; ad = 0; inputs = 0 }) ∷ []) ∷ sent orders ∷ []

-- the list that the tick is handed
handed_in_lem : samples_for (net_in slots lent) (at_power 1) ≡ (servo, record { raw = 0; power = 1; ad = 0; inputs = 0 }) ∷ []
unfolding samples_in
handed_in_lem = ap (λ (n : Net Module). samples_for n (at_power 1)) held

module _ (orders : List Byte) (small : AreBytes (values orders)) where
  pub are_handed : AllHanded (calls orders)
  are_handed = (power_bytes 1 refl, fed-handed room orders small)

  all_done : done_by (calls orders) lent ≡ singly (happens orders)
  all_done =
      let t : Call = tick (at_power 1) in
      done-passed t (fed room orders) lent (tick_goes 1 refl lent valid lone)
      ∙ ap₂ (λ (xs : List AnySample) (l : List (Event (List AnySample))). Events.ticked xs ∷ l) handed_in_lem
      (fed-done room orders (leaves lent t) enough (call_kept lent t (power_bytes 1 refl) valid) small ∙ sym (append-nil _))

  -- the network that the record holds then, and the servo that the orders make
  pub ends_with : net_in slots (left_by (calls orders) lent) ≡ (run kind (happens orders) (set_up types)).net
  ends_with =
      (any_calls lent (calls orders) valid are_handed).network
      ∙ ap (λ (l : List (Event (List AnySample))). (run kind l (net_in slots lent)).net) all_done
      ∙ ap (λ (o : Outcome Module). o.net) (run-singly kind (happens orders) (net_in slots lent))
      ∙ ap (λ (n : Net Module). (run kind (happens orders) n).net) held

  ends_in : (gone : Servo) → get_elem? (run kind (happens orders) (set_up types)).net.modules 0 ≡ some (servo, gone) → At (left_by (calls orders) lent) 0 gone
  ends_in gone goes = ap (λ (n : Net Module). get_elem? n.modules 0) ends_with ∙ goes

  -- and what it does then was sent
  sent_for : (gone : Servo) → At (left_by (calls orders) lent) 0 gone → WasSent lent (calls orders) 0 (length (calls orders)) gone
  sent_for gone e =
      (what_moves_was_sent zeros types (calls orders) 0 (length (calls orders)) gone set_up_lem are_handed (le_refl (length (calls orders)))
      (ap (λ (cs : List Call). get_elem? (net_in slots (left_by cs lent)).modules 0) (take_all (length (calls orders)) (calls orders) (le_refl (length (calls orders)))) ∙ e)
      ).1

-- a Load of PWM that starts now; a Load of a position, velocity and acceleration, and Start
abbrev pulse_orders : List Byte
pulse_orders = clean (written 0 11 [] ++ written 0 4 pulse_now.content)

abbrev move_orders : List Byte
move_orders = clean (written 0 11 [] ++ (written 0 4 move.content ++ written 0 5 []))

pulse_bytes : AreBytes (values pulse_orders)
pulse_bytes = small (values pulse_orders) refl

move_bytes : AreBytes (values move_orders)
move_bytes = small (values move_orders) refl

abbrev gone : Servo
gone = execute pulse_now true awake

abbrev sent_off : Servo
sent_off = execute go true (execute move true awake)

pub ends_moving : At (left_by (calls pulse_orders) lent) 0 gone
unfolding taken byte_step AnyType.execute AnyType.request asked own ticked by_power met homed changed
ends_moving = ends_in pulse_orders pulse_bytes gone refl

pub ends_bound : At (left_by (calls move_orders) lent) 0 sent_off
unfolding taken byte_step AnyType.execute AnyType.request asked own ticked load_meant ones in_range carried_in loaded by_power met homed changed
ends_bound = ends_in move_orders move_bytes sent_off refl

gone_moves : Moves gone
unfolding AnyType.execute AnyType.request asked own ticked load_meant carried_in in_range loaded load_of way_of startable complete start idled signed_by ones by_power met homed changed
gone_moves = inr (some_number 99 _ refl)

started_rests : AtRest started
started_rests = every_call.setup zeros types 0 started set_up_lem at_power_up

pub was_started : StartedBy (calls pulse_orders) lent 0
was_started =
    never lent (calls pulse_orders) 0 started gone valid (are_handed pulse_orders pulse_bytes) at_power_up ends_moving started_rests
    (λ r. r.0 gone_moves)

-- and what it does was sent: the PWM byte, and the position
gone_pulses : gone.run.drive.mode ≡ Pwm
unfolding AnyType.execute AnyType.request asked own ticked load_meant carried_in in_range loaded load_of way_of startable complete start idled signed_by ones by_power met homed changed
gone_pulses = refl

pub was_sent : PulseSent lent (calls pulse_orders) 0 (length (calls pulse_orders))
was_sent = (sent_for pulse_orders pulse_bytes gone ends_moving).pulse gone_pulses

pub was_sent_there : MoveSent lent (calls move_orders) 0 (length (calls move_orders))
was_sent_there = (sent_for move_orders move_bytes sent_off ends_bound).move travels.0

-- ---- a frame that the host can write

pub is_written : (written_of 0 4 cut.content room).number ≡ 0
unfolding written_of
is_written = refl
