-- What the records of a replay file do, one after another, and what is printed.
use Rattle.std.specs.Prelude.{ℕ, zero, suc, ◌+◌, ◌*◌, List, [], ◌∷◌, ◌++◌, cond, ◌&&◌, length, get_or, take, drop, replicate, eqb, leb, ltb}
use Rattle.std.proofs.Math.Option.{Option, some, none}
use Rattle.base_layout.specs.Bytes.{pasted}
use Rattle.module_rules.specs.Slots.{sample_size}
use Rattle.inout_rules.specs.Answers as Inouts
use Rattle.servo_rules.specs.Answers as Servos
use Rattle.stepper_rules.specs.Answers as Steppers
use Rattle.chain_rules.specs.Chain.{Net, Step, byte_step}
use Rattle.types_rules.specs.Types.{Module, kind, known, in_range}
use Rattle.net_rules.specs.Calls.{set_up, samples_for, tick_step, byte_of, of_type}
use Rattle.replay_print.specs.Text.{lines, bad_line}
use Rattle.net_rules.specs.Record.{chain_most}
use Rattle.replay_file.specs.declared.Kind.{Kind}

-- 01 Replay file: how many bytes follow the kind byte: module 1, line byte 2, servo sample 8 (02 P8), I/O sample 10, tick none,
-- step-motor sample 2 (02 P3); an unknown kind is bad whatever follows it.
unfoldable pub body_length : ℕ → ℕ
body_length k =
    cond (eqb k 0) 1
    (cond (eqb k 1) 2
    (cond (eqb k 2) 8
    (cond (eqb k 3) 10
    (cond (eqb k 5) 2
    0))))

-- 01 Replay file: the number of each kind.
abbrev pub number_of : Kind → ℕ
number_of Kind.Module = 0
number_of Kind.LineByte = 1
number_of Kind.ServoSample = 2
number_of Kind.IoSample = 3
number_of Kind.Tick = 4
number_of Kind.StepperSample = 5

-- 01 Replay file, 02 P3: how many kinds there are, numbered from 0; a kind byte that is not below it is unknown.
abbrev pub kinds : ℕ
kinds = 6

-- 01 Replay file: kind 0 only first. So a replay first gathers the types of its modules, and then it has a network and, as 02 P11 asks, the list of
-- samples for its next tick.
pub data Stage : Type 0 where
  gathering : List ℕ → Stage
  running : Net Module → List ℕ → Stage

-- 01 Replay file: a record is taken, with what is printed for it, or it is bad.
pub data Effect : Type 0 where
  goes : Stage → List ℕ → Effect
  bad : Effect

-- 01 Replay file: a module: bad after any other kind, of a type that there is not, or as the 33rd.
abbrev pub module_record : Stage → ℕ → Effect
module_record (running n list) t = bad
module_record (gathering ts) t = cond (ltb (length ts) chain_most && known t) (goes (gathering (ts ++ t ∷ [])) []) bad

-- 01 Replay file: a line byte prints a line for each reply; 01 Numbers given back, 14: its mark is 0 or 1.
unfoldable pub line_byte : Net Module → List ℕ → ℕ → ℕ → Effect
line_byte n list mark value =
    let s : Step Module = byte_step kind n (byte_of value (eqb mark 1)) in
    cond (leb mark 1) (goes (running s.net list) (lines s.replies)) bad

-- 02 P11: before any sample there are zeros behind each type.
abbrev pub unmeasured : List ℕ → List ℕ
unmeasured [] = []
unmeasured (t ∷ ts) = t ∷ replicate 9 0 ++ unmeasured ts

-- 01 Replay file, 02 P11: the ten bytes of a sample record for a module of type t: the type, the body without its place, zeros.
unfoldable pub measured : ℕ → List ℕ → List ℕ
measured t body = pasted 0 (t ∷ drop 1 body) (replicate sample_size 0)

-- 01 Numbers given back, 13 and 14: the place, which comes first, has a module of type t, and the fields are in range. 02 P11: the sample takes the place
-- of the one before it in the list, and waits there for ticks.
unfoldable pub sample_record : ℕ → Net Module → List ℕ → List ℕ → Effect
sample_record t n list body =
    cond (of_type t n (get_or body 0 0) && in_range (measured t body))
    (goes (running n (pasted (sample_size * get_or body 0 0) (measured t body) list)) [])
    bad

-- 01 Replay file: a record of each kind that needs a network; any kind but these is unknown.
unfoldable pub net_record : ℕ → Net Module → List ℕ → List ℕ → Effect
net_record k n list body =
    cond (eqb k 1) (line_byte n list (get_or body 0 0) (get_or body 1 0))
    (cond (eqb k 2) (sample_record Servos.type_number n list body)
    (cond (eqb k 3) (sample_record Inouts.type_number n list body)
    (cond (eqb k 4) (goes (running (tick_step (samples_for n list) n) list) [])
    (cond (eqb k 5) (sample_record Steppers.type_number n list body)
    bad))))

-- 01 Replay file: the network and the list that a record works on: none before any module, and newly set up when the last module is in.
abbrev pub net_of : Stage → Option (Net Module × List ℕ)
net_of (gathering []) = none
net_of (gathering (t ∷ ts)) = some (set_up (t ∷ ts), unmeasured (t ∷ ts))
net_of (running n list) = some (n, list)

-- 01 Replay file: one record.
unfoldable pub record_step : Stage → ℕ → List ℕ → Effect
record_step stage k body =
    cond (eqb k 0) (module_record stage (get_or body 0 0))
    (elim (net_of stage) [ none ↦ bad | some p ↦ net_record k p.0 p.1 body ])

-- 01 Replay file: what is printed for the bytes left, of which the first stands at offset in the file; a bad record, or one that the file's end
-- cuts, ends it. As many turns as there are bytes are enough.
abbrev pub replay_from : ℕ → Stage → ℕ → List ℕ → List ℕ
replay_from zero stage offset left = []
replay_from (suc turns) stage offset [] = []
replay_from (suc turns) stage offset (k ∷ rest) =
    cond (ltb (length rest) (body_length k)) (bad_line offset)
    (elim (record_step stage k (take (body_length k) rest)) [
      | bad ↦ bad_line offset
      | goes next text ↦ text ++ replay_from turns next (offset + (1 + body_length k)) (drop (body_length k) rest)
    ])

-- 01 Replay file: all that is printed for a file.
unfoldable pub replayed : List ℕ → List ℕ
replayed file = replay_from (length file) (gathering []) 0 file
