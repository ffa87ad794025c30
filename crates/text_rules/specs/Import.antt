-- What the reader of a text makes of one character, and so of all of them (document 02, P7). That it takes just the texts of the grammar is promised,
-- not defined.
use Rattle.std.specs.Prelude.{◌≡◌, List, Bool, true, false, cond, ◌&&◌, ℕ, ◌+◌, ◌*◌, ◌-◌, ◌<◌, length, eqb, ltb}
use Rattle.base_text.specs.Digits.{space, newline}
use Rattle.line_receiver.specs.Frames.{Byte}
use Rattle.text_rules.specs.declared.At.{At}
use Rattle.text_rules.specs.declared.At.TheVariants.{LineStart, AfterSpace, FirstDigit, WholeByte, AfterMark}
use Rattle.text_rules.specs.declared.Reader.{Reader}
use Rattle.text_rules.specs.declared.Brings.{Brings}
use Rattle.text_rules.specs.declared.Brings.TheVariants.{Nothing, Ends, Fault}
use Rattle.text_rules.specs.declared.Taken.{Taken}
use Rattle.text_rules.specs.declared.Read.{Read}
use Rattle.text_rules.specs.Text.{bang}
use Rattle.text_rules.specs.Fold.{Brought, more, gives, cannot, Reading, folded}

-- 02 P7: where a text stands after some of its characters: at the start of a line; behind a space; behind a byte's first digit, with its value; behind both,
-- with the byte; behind its mark.
pub data Stage : Type 0 where
  Line : Stage
  Space : Stage
  Digit : ℕ → Stage
  Whole : ℕ → Stage
  Mark : Stage

-- 02 P7: the value of a hex digit in either letter case, 16 for any other character.
unfoldable pub value_of : ℕ → ℕ
value_of c =
    cond (ltb c 48) 16
    (cond (ltb c 58) (c - 48)
    (cond (ltb c 65) 16
    (cond (ltb c 71) (c - 55)
    (cond (ltb c 97) 16
    (cond (ltb c 103) (c - 87)
    16)))))

-- 02 P7: a byte begins with a digit.
abbrev pub first_digit : ℕ → Brought Stage
first_digit c = cond (ltb (value_of c) 16) (more (Digit (value_of c))) cannot

-- 02 P7: and has a second one.
abbrev pub second_digit : ℕ → ℕ → Brought Stage
second_digit d c = cond (ltb (value_of c) 16) (more (Whole (16 * d + value_of c))) cannot

-- 02 P7: behind a byte comes its mark, a space or the line's end; each of them says that the byte has ended.
abbrev pub behind_byte : ℕ → ℕ → Brought Stage
behind_byte b c =
    cond (eqb c bang) (gives (record { value = b; mark = true }) Mark)
    (cond (eqb c space) (gives (record { value = b; mark = false }) Space)
    (cond (eqb c newline) (gives (record { value = b; mark = false }) Line)
    cannot))

-- 02 P7: behind a mark comes a space or the line's end.
abbrev pub behind_mark : ℕ → Brought Stage
behind_mark c = cond (eqb c space) (more Space) (cond (eqb c newline) (more Line) cannot)

-- 02 P7: a character where the text stands; no line is empty, and none ends in a space.
unfoldable pub step : Stage → ℕ → Brought Stage
step Line c = first_digit c
step Space c = first_digit c
step (Digit d) c = second_digit d c
step (Whole b) c = behind_byte b c
step Mark c = behind_mark c

-- 02 P7: a text from its first character on.
abbrev pub read_from : Stage → List ℕ → Reading Stage
read_from s t = folded step s t

abbrev pub read_text : List ℕ → Reading Stage
read_text t = read_from Line t

-- 02 P7: a text ends where a line would begin.
abbrev pub may_end : Stage → Bool
may_end Line = true
may_end Space = false
may_end (Digit d) = false
may_end (Whole b) = false
may_end Mark = false

-- 02 P7, 21: characters that came to this are a text: all of them were taken, and it ends where it may.
abbrev pub whole_by : Stage → ℕ → ℕ → Bool
whole_by s count len = eqb count len && may_end s

unfoldable pub is_text : List ℕ → Bool
is_text t = whole_by (read_text t).stage (read_text t).count (length t)

-- what the reader's structs say: the value counts behind a digit, behind a byte, and where a byte has ended
abbrev pub stage_at : At → ℕ → Stage
stage_at LineStart v = Line
stage_at AfterSpace v = Space
stage_at FirstDigit v = Digit v
stage_at WholeByte v = Whole v
stage_at AfterMark v = Mark

abbrev pub stage_of : Reader → Stage
stage_of r = stage_at r.at r.value

abbrev pub brought_by : Brings → Reader → Brought Stage
brought_by Nothing n = more (stage_of n)
brought_by (Ends m) n = gives (record { value = n.value; mark = m }) (stage_of n)
brought_by Fault n = cannot

abbrev pub brought_of : Taken → Brought Stage
brought_of t = brought_by t.brings t.next

-- characters came to what is told of them: the stage, how many were taken, and how many bytes have ended
pub record CameTo (r : Read) (q : Reading Stage) : Type 0 where
  pub stage : stage_of r.reader ≡ q.stage
  pub count : r.count ≡ q.count
  pub bytes : r.bytes ≡ length q.bytes

-- a digit's value is below 16, which the reader keeps
abbrev pub Fit : Stage → Type 0
Fit Line = Unit {0}
Fit Space = Unit {0}
Fit (Digit d) = d < 16
Fit (Whole b) = Unit {0}
Fit Mark = Unit {0}
