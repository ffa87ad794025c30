-- Not by being dead: a history in two orders, in which a servo and an I/O module execute, store, drive and reply; computed, and by demand 3,
-- whose hypotheses it meets. Assumes nothing.
use mathlib.Core.Path.{◌≡◌, refl, sym, ap, ◌∙◌}
use Prim.Native.Nat.{ℕ, zero, suc, ◌<◌, ◌≤◌}
use native.Mathlib.Omega.{arith}
use mathlib.Core.List.{List, [], ◌∷◌, ◌++◌}
use mathlib.Core.Bool.{true, false}
use mathlib.Core.Logic.{inl, inr}
use mathlib.Core.Option.{Option, some, none}
use lib.Count.{ones}
use lib.ListN.{length, get_elem?, replicate, length-replicate}
use Rattle.line_receiver.specs.Receive.{idle, taken}
use Rattle.line_receiver.specs.Frames.{Byte, Frame, reads, header, clean, written, values}
use Rattle.line_receiver.proofs.Read.{read}
use Rattle.module_rules.specs.declared.Address.{Address}
use Rattle.module_rules.specs.Commands.{asked}
use Rattle.module_rules.specs.Report.{report, reply_of}
use Rattle.module_rules.specs.Rules.{request, execute, reply}
use Rattle.chain_rules.specs.Chain.{Net, addresses, byte_step}
use Rattle.inout_rules.specs.Asks as InoutAsks
use Rattle.inout_rules.specs.Pins.{blend}
use Rattle.inout_rules.specs.Answers as Inout
use Rattle.servo_filter.specs.Filter.{held}
use Rattle.servo_rules.specs.Carried.{carried_in, in_range}
use Rattle.servo_rules.specs.Asks.{load_meant, gains_in, gains_fit, gain_meant, halt_of, stop_meant, own}
use Rattle.servo_rules.specs.State.{idled}
use Rattle.servo_rules.specs.Loads.{way_of, load_of, loaded, complete, startable, signed_by, start}
use Rattle.servo_rules.specs.Perform.{stopped}
use Rattle.servo_rules.specs.Homing as Homing
use Rattle.servo_rules.specs.Tick as Tick
use Rattle.servo_rules.specs.Tick.{put_out, pulsed, by_power}
use Rattle.servo_rules.specs.Answers as Servos
use Rattle.servo_rules.specs.Answers.{done, status_of, numbers_of, outputs_from}
use Rattle.stepper_rules.specs.Carried as Stepped
use Rattle.stepper_rules.specs.Asks as StepperAsks
use Rattle.stepper_rules.specs.Asks.{parameters_meant}
use Rattle.stepper_rules.specs.Ramp as Ramp
use Rattle.stepper_rules.specs.Ramp.{changed, onward, moved}
use Rattle.stepper_rules.specs.Perform as Steps
use Rattle.stepper_rules.specs.Perform.{parameters_set}
use Rattle.stepper_rules.specs.Answers as Steppers
use Rattle.types_rules.specs.Table.{servo, inout, stepper}
use Rattle.types_rules.specs.Types.{Module, AnySample, kind, slots}
use Rattle.net_rules.specs.Record.{record_size, room_size, net_in}
use Rattle.net_rules.specs.Calls.{byte_of, set_up, all_typed, all_in_range}
use Rattle.base_layout.specs.First.{first}
use Rattle.api_rules.specs.Table.{tick_table}
use Rattle.api_rules.specs.Calls.{setup_record}
use Rattle.api_rules.specs.Promises.{ValidRecord}
use Rattle.demands_history_rules.specs.Events.{Event, sent, ticked, run, Reads, Harmless, Ordinary, met_by}
use Rattle.demands_history_rules.specs.Calls.{left_by}
use Rattle.demands_rules.specs.Question.{fed}
use Rattle.demands_rules.specs.Order.{MeetsTheSame, Lives, Alive, ThreeCases}
use Rattle.demands_rules.proofs.Histories.{types, History, frame, measured, ready, to_servo, to_inout, to_stepper, ask_servo, ask_inout, ask_stepper, one_by_one, in_turns}
use Rattle.demands_rules.proofs.Calls.{from_setup, any_calls}
use Rattle.demands_rules.proofs.Order.{keeps_address, order_does_not_matter, order_of_all, by_calls, own_ticks}
use Rattle.demands_rules.proofs.OnTheLine.{small, fed-handed, fed_two, fed_both}

-- ---- what they come to

first_address : History → ℕ
first_address [] = 0
first_address (sent [] ∷ h) = 0
first_address (sent (a ∷ []) ∷ h) = 0
first_address (sent (a ∷ b ∷ bs) ∷ h) = b.value
first_address (ticked xs ∷ h) = 0

-- the addresses of the first two places, and of the ready network, computed once
ws : List Address
ws =
    record { individual = 1; group = 255; leader = false; low = true }
    ∷ record { individual = 2; group = 255; leader = false; low = true }
    ∷ []

ws_all : List Address
ws_all = ws ++ record { individual = 3; group = 255; leader = false; low = true } ∷ []

idles : ready.receiver ≡ idle
unfolding ready taken byte_step
idles = refl

ready-addresses : addresses kind ready.modules ≡ ws_all
unfolding ws_all ws ready taken byte_step asked request execute own StepperAsks.own parameters_meant parameters_set Ramp.ticked Homing.changed Homing.homed by_power Tick.met Tick.ticked gain_meant gains_fit gains_in stop_meant ones halt_of stopped
ready-addresses = refl

met_by_lem : (i : ℕ) → met_by ws_all i one_by_one ≡ met_by ws_all i in_turns
unfolding ws_all ws reads taken
met_by_lem zero = refl
met_by_lem (suc zero) = refl
met_by_lem (suc (suc zero)) = refl
met_by_lem (suc (suc (suc i))) = refl

meet_the_same : (i : ℕ) → MeetsTheSame kind ready one_by_one in_turns i
meet_the_same i = rw ready-addresses (met_by_lem i)

-- each frame is whole, and harmless
to_servo_lem : Ordinary (to_servo ++ ask_servo ∷ [])
unfolding reads taken
to_servo_lem = (
  (_, refl, inr (λ e. omega arith, λ e. omega arith)),
  (
    (_, refl, inl refl),
    (
      (_, refl, inr (λ e. omega arith, λ e. omega arith)),
      ((_, refl, inr (λ e. omega arith, λ e. omega arith)), tt),
    ),
  ),
)

to_inout_lem : Ordinary (to_inout ++ ask_inout ∷ [])
unfolding reads taken
to_inout_lem = (
  (_, refl, inr (λ e. omega arith, λ e. omega arith)),
  (
    (_, refl, inr (λ e. omega arith, λ e. omega arith)),
    ((_, refl, inr (λ e. omega arith, λ e. omega arith)), tt),
  ),
)

to_stepper_lem : Ordinary (to_stepper ++ ask_stepper ∷ [])
unfolding reads taken
to_stepper_lem = (
  (_, refl, inr (λ e. omega arith, λ e. omega arith)),
  (
    (_, refl, inr (λ e. omega arith, λ e. omega arith)),
    ((_, refl, inr (λ e. omega arith, λ e. omega arith)), tt),
  ),
)

one_by_one_lem : Ordinary one_by_one
one_by_one_lem =
    let (a, (b, (c, (d, t)))) = to_servo_lem in
    let (x, (y, (z, u))) = to_inout_lem in
    let (p, (q, (r, v))) = to_stepper_lem in
    (a, (b, (c, (x, (y, (p, (q, (d, (z, (r, tt))))))))))

in_turns_lem : Ordinary in_turns
in_turns_lem =
    let (a, (b, (c, (d, t)))) = to_servo_lem in
    let (x, (y, (z, u))) = to_inout_lem in
    let (p, (q, (r, v))) = to_stepper_lem in
    (p, (q, (x, (a, (y, (b, (c, (z, (r, (d, tt))))))))))

lives : Lives (run kind one_by_one ready) × Lives (run kind in_turns ready)
unfolding ready taken byte_step asked request execute reply reply_of report StepperAsks.own StepperAsks.load_meant parameters_meant Stepped.carried_in Stepped.in_range Steps.loaded Steps.storing Steps.load_of Steps.startable Steps.begun Steps.start parameters_set Ramp.ticked onward changed moved InoutAsks.own blend own gain_meant gains_fit gains_in stop_meant halt_of load_meant ones in_range carried_in loaded load_of way_of complete startable signed_by start idled stopped held put_out pulsed Homing.changed Homing.homed by_power Tick.met Tick.ticked done status_of numbers_of outputs_from
lives = (
  record { servo_drives = refl; inout_drives = refl; stepper_drives = refl; servo_replied = refl; inout_replied = refl; stepper_replied = refl },
  record { servo_drives = refl; inout_drives = refl; stepper_drives = refl; servo_replied = refl; inout_replied = refl; stepper_replied = refl },
)

pub alive : Alive ready one_by_one in_turns
unfolding first_address
alive = record {
  first = lives.0;
  second = lives.1;
  differ = λ e. let z : ◌≡◌ {A = ℕ} 1 3 = ap first_address e in omega arith;
  idles = idles;
  ordinary = (one_by_one_lem, in_turns_lem);
  meet_the_same = meet_the_same;
  end_the_same = λ i. order_does_not_matter kind keeps_address ready one_by_one in_turns i idles one_by_one_lem in_turns_lem (meet_the_same i);
  equal = (order_of_all kind keeps_address ready one_by_one in_turns idles one_by_one_lem in_turns_lem (λ i h. meet_the_same i)).0;
}

-- ---- by calls: the modules get their addresses, then each is sent a No Op, in either order

abbrev zeros : List ℕ
zeros = replicate record_size 0

abbrev lent : List ℕ
lent = setup_record zeros types

abbrev room : List ℕ
room = replicate room_size 0

enough : room_size ≤ length room
enough = omega (arith, length-replicate {A = ℕ} room_size 0)

abbrev no_op : ℕ → List Byte
no_op address = clean (written address 14 [])

abbrev set_first : List Byte
set_first = clean (written 0 1 (1 ∷ 0xFF ∷ []))

abbrev set_second : List Byte
set_second = clean (written 0 1 (2 ∷ 0xFF ∷ []))

abbrev addressed : List ℕ
addressed = left_by (fed room (set_first ++ set_second)) lent

valid : ValidRecord lent
valid = (from_setup zeros types refl).0

addressed-valid : ValidRecord addressed
addressed-valid =
    (any_calls lent (fed room (set_first ++ set_second)) valid (fed-handed room (set_first ++ set_second) (small (values (set_first ++ set_second)) refl))).valid

-- the network after the two Set Address, computed once
addressed_net : Net Module
addressed_net = (run kind (sent set_first ∷ sent set_second ∷ []) (set_up types)).net

holds_addressed : net_in slots addressed ≡ addressed_net
unfolding addressed_net
holds_addressed =
    fed_both room set_first set_second lent enough valid (small (values (set_first ++ set_second)) refl)
    ∙ ap (λ (n : Net Module). (run kind (sent set_first ∷ sent set_second ∷ []) n).net) (from_setup zeros types refl).1

addressed_idles : addressed_net.receiver ≡ idle
unfolding addressed_net taken byte_step
addressed_idles = refl

addressed_ws : addresses kind addressed_net.modules ≡ ws
unfolding addressed_net ws taken byte_step asked request execute
addressed_ws = refl

abbrev first_then_second : History
first_then_second = sent (no_op 1) ∷ sent (no_op 2) ∷ []

abbrev second_then_first : History
second_then_first = sent (no_op 2) ∷ sent (no_op 1) ∷ []

no_op_lem : (address : ℕ) → address < 256 → (f : Frame) × Reads (no_op address) f × Harmless f
no_op_lem address h = (_, read address 14 [] h (omega arith) (omega arith), inr (λ e. omega arith, λ e. omega arith))

same_met : (i : ℕ) → met_by ws i first_then_second ≡ met_by ws i second_then_first
unfolding ws reads taken
same_met zero = refl
same_met (suc zero) = refl
same_met (suc (suc i)) = refl

pub called : left_by (fed room (no_op 1 ++ no_op 2)) addressed ≡ left_by (fed room (no_op 2 ++ no_op 1)) addressed
called =
    (by_calls addressed (fed room (no_op 1 ++ no_op 2)) (fed room (no_op 2 ++ no_op 1)) first_then_second second_then_first
    addressed-valid
    (fed-handed room (no_op 1 ++ no_op 2) (small (values (no_op 1 ++ no_op 2)) refl))
    (fed-handed room (no_op 2 ++ no_op 1) (small (values (no_op 2 ++ no_op 1)) refl))
    (ap (λ (n : Net Module). n.receiver) holds_addressed ∙ addressed_idles)
    (no_op_lem 1 (omega arith), (no_op_lem 2 (omega arith), tt))
    (no_op_lem 2 (omega arith), (no_op_lem 1 (omega arith), tt))
    (fed_two room (no_op 1) (no_op 2) addressed enough addressed-valid (small (values (no_op 1 ++ no_op 2)) refl))
    (fed_two room (no_op 2) (no_op 1) addressed enough addressed-valid (small (values (no_op 2 ++ no_op 1)) refl))
    (λ i h. rw (holds_addressed, addressed_ws) (same_met i))
    ).0

-- ---- ticks with other samples, a tick that is refused, and a frame for nobody

-- the lists of two ticks: the I/O module's input bits are 4,096 in the first, and 0 in the second
abbrev inputs_far : List ℕ
inputs_far = 0 ∷ 1 ∷ replicate 8 0 ++ 2 ∷ 0 ∷ 16 ∷ replicate 7 0

abbrev inputs_none : List ℕ
inputs_none = 0 ∷ 1 ∷ replicate 8 0 ++ 2 ∷ replicate 9 0

holds_lent : net_in slots lent ≡ set_up types
holds_lent = (from_setup zeros types refl).1

-- the first A/D value that an I/O module has latched
latched_ad : Option Module → ℕ
latched_ad none = 0
latched_ad (some (servo, m)) = 0
latched_ad (some (stepper, m)) = 0
latched_ad (some (inout, m)) = m.latched.ad1

other_ad : get_elem? (run kind (ticked (measured 77) ∷ []) (set_up types)).net.modules 1 ≡ get_elem? (run kind (ticked (measured 78) ∷ []) (set_up types)).net.modules 1 → ⊥
unfolding latched_ad
other_ad e = let z : ◌≡◌ {A = ℕ} 77 78 = ap latched_ad e in omega arith

far_refused : first (tick_table lent inputs_far) ≡ 14
unfolding all_typed all_in_range
far_refused = rw (valid.0, holds_lent) refl

none_done : first (tick_table lent inputs_none) ≡ 0
unfolding all_typed all_in_range
none_done = rw (valid.0, holds_lent) refl

either_side : run kind (sent (no_op 9) ∷ ticked (measured 77) ∷ []) (set_up types) ≡ run kind (ticked (measured 77) ∷ sent (no_op 9) ∷ []) (set_up types)
unfolding taken byte_step Homing.changed Homing.homed by_power Tick.met Tick.ticked
either_side = refl

pub three_cases : ThreeCases lent (set_up types) (measured 77) (measured 78) inputs_far inputs_none (no_op 9)
three_cases = record {
  holds = holds_lent;
  servo_the_same = refl;
  inout_not = other_ad;
  fourteen = far_refused;
  done = none_done;
  as_if_none = own_ticks.refused lent inputs_far inputs_none (λ e. let z : ◌≡◌ {A = ℕ} 14 0 = sym far_refused ∙ e in omega arith);
  either_side = either_side;
}
