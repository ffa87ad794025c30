-- The histories of Alive: what a servo, an I/O module and a step-motor module are sent, in two orders.
use Prim.Native.Nat.{ℕ}
use mathlib.Core.List.{List, [], ◌∷◌, ◌++◌}
use mathlib.Core.Bool.{true, false}
use Rattle.line_receiver.specs.Frames.{header, clean, written}
use Rattle.module_rules.specs.Commands.{asked}
use Rattle.chain_rules.specs.Chain.{Net}
use Rattle.inout_rules.specs.Answers as Inout
use Rattle.servo_rules.specs.Loads.{start}
use Rattle.servo_rules.specs.Answers as Servos
use Rattle.stepper_rules.specs.Answers as Steppers
use Rattle.types_rules.specs.Table.{servo, inout, stepper}
use Rattle.types_rules.specs.Types.{Module, AnySample, kind}
use Rattle.net_rules.specs.Calls.{byte_of, set_up}
use Rattle.base_layout.specs.First.{first}
use Rattle.demands_history_rules.specs.Events.{Event, sent, ticked, run}

-- a servo and an I/O module, and a step-motor module behind them
abbrev pub types : List ℕ
types = Servos.type_number ∷ Inout.type_number ∷ []

abbrev pub chain : List ℕ
chain = types ++ Steppers.type_number ∷ []

abbrev pub History : Type 0
History = List (Event (List AnySample))

-- a frame as the host writes it, without marks
abbrev pub frame : ℕ → ℕ → List ℕ → Event (List AnySample)
frame address code ds = sent (clean (written address code ds))

-- the samples of a tick: a count of 5 and good power for the servo, and for the I/O module this A/D value
abbrev pub measured : ℕ → List AnySample
measured ad1 = (servo, record { raw = 5; power = 1; ad = 0; inputs = 0 }) ∷ (inout, record { inputs = 0; ad1 = ad1; ad2 = 0; ad3 = 0; counter = 0 }) ∷ []

-- and a stop input of 0
abbrev pub all_measured : ℕ → List AnySample
all_measured ad1 = measured ad1 ++ (stepper, record { stop = false }) ∷ []

-- after setup the servo gets address 1, the I/O module 2 and the step-motor module 3; the servo has good power, no error bit, output limit 255 and its
-- amplifier on, the step-motor module a minimum of 5
abbrev pub prepared : History
prepared =
    frame 0 1 (1 ∷ 0xFF ∷ [])
    ∷ frame 0 1 (2 ∷ 0xFF ∷ [])
    ∷ frame 0 1 (3 ∷ 0xFF ∷ [])
    ∷ ticked (all_measured 0)
    ∷ frame 1 11 []
    ∷ frame 1 6 (0 ∷ 0 ∷ 0 ∷ 0 ∷ 0 ∷ 0 ∷ 0 ∷ 0 ∷ 255 ∷ 0 ∷ 0 ∷ 0 ∷ 1 ∷ 0 ∷ 1 ∷ [])
    ∷ frame 1 7 (1 ∷ [])
    ∷ frame 3 6 (0 ∷ 5 ∷ 0 ∷ 0 ∷ 0 ∷ [])
    ∷ []

unfoldable pub ready : Net Module
ready = (run kind prepared (set_up chain)).net

-- for the servo: a load of PWM 100, a Hard Reset of which a byte is marked, a start
abbrev pub to_servo : History
to_servo = frame 1 4 (0x08 ∷ 100 ∷ []) ∷ sent (header ∷ byte_of 1 true ∷ clean (15 ∷ 16 ∷ [])) ∷ frame 1 5 [] ∷ []

-- for the I/O module: its twelve bits become outputs, 0x234 is put out
abbrev pub to_inout : History
to_inout =
    frame 2 0 (0 ∷ 0 ∷ [])
    ∷ frame 2 6 (0x34 ∷ 0x02 ∷ [])
    ∷ []

-- for the step-motor module: a load of speed 6 with T 1, and its start
abbrev pub to_stepper : History
to_stepper = frame 3 4 (0x06 ∷ 6 ∷ 1 ∷ []) ∷ frame 3 5 [] ∷ []

-- each is asked: the servo for its position, the I/O module for its bits and the first A/D value, the step-motor module for its position
abbrev pub ask_servo : Event (List AnySample)
ask_servo = frame 1 3 (1 ∷ [])

abbrev pub ask_inout : Event (List AnySample)
ask_inout = frame 2 3 (3 ∷ [])

abbrev pub ask_stepper : Event (List AnySample)
ask_stepper = frame 3 3 (1 ∷ [])

-- two lists, by turns
abbrev pub turns : History → History → History
turns [] h = h
turns (e ∷ g) [] = e ∷ g
turns (e ∷ g) (d ∷ h) = e ∷ d ∷ turns g h

-- the servo first, then the I/O module and the step-motor module; and this one first, then the others by turns, the I/O module first
abbrev pub one_by_one : History
one_by_one = to_servo ++ to_inout ++ to_stepper ++ ticked (all_measured 77) ∷ ask_servo ∷ ask_inout ∷ ask_stepper ∷ []

abbrev pub in_turns : History
in_turns = to_stepper ++ turns to_inout to_servo ++ ticked (all_measured 77) ∷ ask_inout ∷ ask_stepper ∷ ask_servo ∷ []
