-- Which cause a frame gives, row by row (document 02, P1): computed from the rules, and proved under its name, with small letters, in proofs/.
use Rattle.std.specs.Prelude.{◌≡◌, ℕ, List, [], ◌∷◌, ◌++◌, map, Bool, true, false, replicate}
use Rattle.line_receiver.specs.Frames.{Frame}
use Rattle.module_rules.specs.Rules.{execute}
use Rattle.types_rules.specs.Table.{ModuleType, first_type, other_types, rules_of}

-- whom a frame is for: one module, or a group
pub data To : Type 0 where
  individual : To
  group : To

abbrev pub is_alone : To → Bool
is_alone individual = true
is_alone group = false

-- a row: a code with its data bytes, and the causes of it at a module of each type of the table, in its order, as it is at power-up
pub record Row : Type 0 where
  pub code : ℕ
  pub content : List ℕ
  pub to : To
  pub told : List ℕ

-- at a servo, at an I/O module and at a step-motor module
abbrev pub row : ℕ → List ℕ → To → ℕ → ℕ → ℕ → Row
row code ds to servo inout stepper = record { code = code; content = ds; to = to; told = servo ∷ inout ∷ stepper ∷ [] }

-- its frame, damaged or not, and the causes that the rules give it
abbrev pub row_frame : Bool → Row → Frame
row_frame damaged r = record { address = 0; code = r.code; content = r.content; damaged = damaged }

abbrev pub cause_at : Bool → Row → ModuleType → ℕ
cause_at damaged r t = ((rules_of t).station (execute (rules_of t) (row_frame damaged r) (is_alone r.to) (rules_of t).started)).cause

abbrev pub causes : Bool → Row → List ℕ
causes damaged r = map (cause_at damaged r) (first_type ∷ other_types)

-- the 15 bytes of Set Gain with the sample rate sr, and all else 0
abbrev pub gain : ℕ → List ℕ
gain sr = replicate 12 0 ++ sr ∷ 0 ∷ 1 ∷ []

abbrev pub table : List Row
table =
    -- 4 an unknown code, with any data; an I/O module has codes 8 and 12, a servo has codes 9 and 11; a step-motor module has no Reset Position
    row 9 (0x21 ∷ []) individual 0 4 4
    ∷ row 13 (replicate 15 0) individual 4 4 4
    ∷ row 8 (0 ∷ []) individual 4 0 4
    ∷ row 11 [] individual 0 4 4
    ∷ row 12 [] group 4 0 4
    ∷ row 0 [] individual 0 2 4
    -- 4 Set Baud sent individually, with any count; 2 a wrong count of it to a group
    ∷ row 10 (0 ∷ []) individual 4 4 4
    ∷ row 10 [] individual 4 4 4
    ∷ row 10 (0 ∷ 0 ∷ []) individual 4 4 4
    ∷ row 10 (0 ∷ []) group 0 0 0
    ∷ row 10 (0 ∷ 0 ∷ []) group 2 2 2
    -- 2 a wrong count: code 6 has 15 data bytes at a servo, 2 at an I/O module and 5 at a step-motor module
    ∷ row 14 (0 ∷ []) individual 2 2 2
    ∷ row 6 (0 ∷ 0 ∷ []) group 2 0 2
    -- Load Trajectory without a control byte; short, with bytes that are bad, too; with an acceleration of 0; started at once, which at power-up
    -- would be 3; whole and good, started at once
    ∷ row 4 [] individual 2 2 2
    ∷ row 4 (0x04 ∷ 0 ∷ 0 ∷ 0 ∷ []) individual 2 2 2
    ∷ row 4 (0x04 ∷ 0 ∷ 0 ∷ 0 ∷ 0 ∷ []) individual 5 2 2
    ∷ row 4 (0x84 ∷ 0 ∷ 0 ∷ 0 ∷ 0 ∷ []) individual 5 2 2
    ∷ row 4 (0x84 ∷ 1 ∷ 0 ∷ 0 ∷ 0 ∷ []) individual 3 2 2
    ∷ row 4 (0x04 ∷ 1 ∷ 0 ∷ 0 ∷ 0 ∷ []) individual 0 2 2
    -- Set Gain: SR is 1; a byte too few, and an SR that is bad, too
    ∷ row 6 (gain 1) individual 0 2 2
    ∷ row 6 (gain 2) individual 5 2 2
    ∷ row 6 (replicate 12 0 ++ 2 ∷ 0 ∷ []) individual 2 2 2
    -- Stop: of two stop bits, one of them Stop Here's, the count is judged by that bit; two others; bit 5, and with a byte too many
    ∷ row 7 (0x12 ∷ []) individual 2 2 5
    ∷ row 7 (0x12 ∷ 0 ∷ 0 ∷ 0 ∷ 0 ∷ []) individual 5 2 2
    ∷ row 7 (0x06 ∷ []) individual 5 2 5
    ∷ row 7 (0x20 ∷ []) individual 5 2 5
    ∷ row 7 (0x20 ∷ 0 ∷ []) individual 2 2 2
    -- Set Homing: no byte; two stops, and with a byte too many; no watch bit (02 P8)
    ∷ row 9 [] individual 2 4 4
    ∷ row 9 (0x31 ∷ []) individual 5 4 4
    ∷ row 9 (0x31 ∷ 0 ∷ []) individual 2 4 4
    ∷ row 9 (0x20 ∷ []) individual 5 4 4
    -- 3 not now: an abrupt stop without power, a Start without a load; an I/O module's code 5 is Synch Output
    ∷ row 7 (0x04 ∷ []) individual 3 2 0
    ∷ row 5 [] individual 3 0 3
    -- 5 an item byte that there is not, to define or to read; of a step-motor module there are bits 0 and 5 alone (02 P3)
    ∷ row 2 (0xFF ∷ []) group 0 0 5
    ∷ row 3 (0x02 ∷ []) individual 0 0 5
    ∷ row 2 (0x21 ∷ []) group 0 0 0
    -- a step-motor module's load: a speed alone, which waits, and is Set PWM at an I/O module; speed and acceleration time; an acceleration time of 0,
    -- a speed of 251, bit 5, each a bad value, and with start now, too; started at once before Set Parameters, which is not now
    ∷ row 4 (0x02 ∷ 100 ∷ []) group 2 0 0
    ∷ row 4 (0x06 ∷ 100 ∷ 1 ∷ []) individual 2 2 0
    ∷ row 4 (0x06 ∷ 100 ∷ 0 ∷ []) individual 2 2 5
    ∷ row 4 (0x06 ∷ 251 ∷ 1 ∷ []) individual 2 2 5
    ∷ row 4 (0x26 ∷ 100 ∷ 1 ∷ []) individual 2 2 5
    ∷ row 4 (0x86 ∷ 0 ∷ 1 ∷ []) individual 2 2 5
    ∷ row 4 (0x86 ∷ 100 ∷ 1 ∷ []) individual 2 2 3
    ∷ row 4 (0x0F ∷ replicate 8 1) individual 2 2 2
    ∷ row 4 (0x0F ∷ replicate 9 1) individual 2 2 0
    -- Set Parameters: a minimum of 0 or 251 is bad, the other bytes are not looked at
    ∷ row 6 (0 ∷ 0 ∷ 0 ∷ 0 ∷ 0 ∷ []) individual 2 2 5
    ∷ row 6 (0 ∷ 251 ∷ 0 ∷ 0 ∷ 0 ∷ []) individual 2 2 5
    ∷ row 6 (0xFF ∷ 250 ∷ 0xFF ∷ 0xFF ∷ 0xFF ∷ []) individual 2 2 0
    -- Stop: off, which a step-motor module has not; abrupt and smooth together; smooth
    ∷ row 7 (0x02 ∷ []) group 0 2 5
    ∷ row 7 (0x0C ∷ []) individual 5 2 5
    ∷ row 7 (0x08 ∷ []) individual 0 2 0
    -- 0 executed
    ∷ row 7 (0x01 ∷ []) individual 0 2 0
    ∷ row 14 [] individual 0 0 0
    ∷ []

-- Each row's causes are those that stand in it; where its frame is damaged, 1.
pub record CauseRows : Type 0 where
  pub whole : map (causes false) table ≡ map (λ (r : Row). r.told) table
  pub damaged : map (causes true) table ≡ map (λ (r : Row). 1 ∷ 1 ∷ 1 ∷ []) table
