-- What an I/O module tells the host and the board (document 01, "I/O module"), and the type as a whole.
use Rattle.std.specs.Prelude.{ℕ, ◌%◌, ◌/◌, List, [], ◌∷◌, Bool, true}
use Rattle.line_receiver.specs.Frames.{Frame}
use Rattle.module_rules.specs.Report.{cause_bit}
use Rattle.module_rules.specs.Rules as AnyType
use Rattle.inout_rules.specs.declared.Sample.{Sample}
use Rattle.inout_rules.specs.declared.Io.{Io}
use Rattle.inout_rules.specs.declared.Command.{Command}
use Rattle.inout_rules.specs.Asks.{own}
use Rattle.inout_rules.specs.State.{with_station, fresh, started, read_now, ticked}
use Rattle.inout_rules.specs.Perform.{can, perform}

-- its type's number, and the version above it
abbrev pub type_number : ℕ
type_number = 2

abbrev pub type_and_version : ℕ
type_and_version = 258

-- the status byte has no bit but the cause's
abbrev pub status : Io → ℕ
status m = cause_bit m.station.cause

-- items 0 to 7: inputs, A/D 1 to 3, counter, type and version, captured inputs, captured counter; and how many bytes each has
abbrev pub numbers : Io → List ℕ
numbers m =
    read_now m
    ∷ m.latched.ad1
    ∷ m.latched.ad2
    ∷ m.latched.ad3
    ∷ m.latched.counter
    ∷ type_and_version
    ∷ m.captured.inputs
    ∷ m.captured.counter
    ∷ []

abbrev pub sizes : List ℕ
sizes = 2 ∷ 1 ∷ 1 ∷ 1 ∷ 4 ∷ 2 ∷ 2 ∷ 4 ∷ []

-- what the board drives: directions, register, both PWMs, each least significant byte first; two bytes of 0
abbrev pub outputs_of : Io → List ℕ
outputs_of m =
    m.pins.direction % 256
    ∷ m.pins.direction / 256 % 256
    ∷ m.pins.register % 256
    ∷ m.pins.register / 256 % 256
    ∷ m.pins.pwm1
    ∷ m.pins.pwm2
    ∷ 0
    ∷ 0
    ∷ []

-- the I/O module as a module type
abbrev pub inout : AnyType.Rules Io Sample Command
inout = record {
  number = type_number;
  station = λ m. m.station;
  with_station = with_station;
  started = started;
  renewed = λ m. fresh m.latched;
  own = own;
  can = can;
  perform = perform;
  tick = ticked;
  shows = λ b. true;
  status = status;
  sizes = sizes;
  numbers = numbers;
  outputs = outputs_of;
}

-- what follows for it as for every type
abbrev pub request : Frame → Bool → AnyType.Request Command
request = AnyType.request inout

abbrev pub with_cause : ℕ → Io → Io
with_cause = AnyType.with_cause inout

abbrev pub execute : Frame → Bool → Io → Io
execute = AnyType.execute inout

abbrev pub reply : Frame → Io → List ℕ
reply = AnyType.reply inout
