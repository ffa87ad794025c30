-- What is made of a replay file byte by byte where only its line bytes are looked at (document 01, "Replay file"; document 02, P7): records of other kinds are passed over by
-- their length.
use Rattle.std.specs.Prelude.{List, true, false, cond, ℕ, ◌+◌, ◌-◌, ◌<◌, ◌≤◌, length, eqb, leb}
use Rattle.line_receiver.specs.Frames.{Byte}
use Rattle.text_rules.specs.Records.{line_kind}
use Rattle.text_rules.specs.Export.{column_after, text_from}
use Rattle.text_rules.specs.Fold.{Brought, more, gives, cannot, Reading, folded}
use Rattle.replay_file.specs.Records.{body_length, kinds}
use Rattle.monitor_file.specs.declared.Part.{Part}
use Rattle.monitor_file.specs.declared.Part.TheVariants.{Kind, Mark, Value, Rest}
use Rattle.monitor_file.specs.declared.Took.{Took}
use Rattle.monitor_file.specs.declared.Took.TheVariants.{More, Ended, Cannot}
use Rattle.monitor_file.specs.declared.Looked.{Looked}

-- 01 Replay file: a record begins with its kind, whose body may be empty; an unknown kind has no length.
abbrev pub begun : ℕ → Took
begun k =
    cond (eqb k line_kind) (More Mark)
    (cond (leb kinds k) Cannot
    (cond (eqb (body_length k) 0) (More Kind)
    (More (Rest k (body_length k)))))

-- 01 Replay file: a mark is 0 or 1.
abbrev pub marked : ℕ → Took
marked m = cond (eqb m 0) (More (Value false)) (cond (eqb m 1) (More (Value true)) Cannot)

-- 02 P7: a byte of a body of another kind, whatever it is.
abbrev pub passed : ℕ → ℕ → Took
passed k left = cond (eqb left 1) (More Kind) (More (Rest k (left - 1)))

-- 02 P7: a byte of the file where it stands.
unfoldable pub step : Part → ℕ → Took
step Kind b = begun b
step Mark b = marked b
step (Value m) b = Ended b m
step (Rest k left) b = passed k left

-- 02 P7: what each answer of the step says; with a line byte its record has ended.
abbrev pub told : Took → Brought Part
told (More p) = more p
told (Ended b m) = gives (record { value = b; mark = m }) Kind
told Cannot = cannot

abbrev pub brought : Part → ℕ → Brought Part
brought p b = told (step p b)

abbrev pub look_from : Part → List ℕ → Reading Part
look_from p bs = folded brought p bs

-- 02 P7: how many bytes of its record were taken where a file stands.
abbrev pub gone : Part → ℕ
gone Kind = 0
gone Mark = 1
gone (Value m) = 2
gone (Rest k left) = 1 + (body_length k - left)

-- 02 P7: a file's line bytes, as far as its records are good, and the offset of the first record that is not, which is the file's length where all are.
abbrev pub looked_at : List ℕ → List Byte
looked_at file = (look_from Kind file).bytes

abbrev pub fault_at : List ℕ → ℕ
fault_at file = (look_from Kind file).count - gone (look_from Kind file).stage

-- what a body of another kind has left, which the step keeps
abbrev pub Fit : Part → Type 0
Fit Kind = Unit {0}
Fit Mark = Unit {0}
Fit (Value m) = Unit {0}
Fit (Rest k left) = (0 < left) × (left ≤ body_length k)

-- what bytes of a file came to as a struct, and the text that was put
abbrev pub look_of : ℕ → Reading Part → Looked
look_of column r =
    record { part = r.stage; count = r.count; column = column_after column (length r.bytes); wrote = length (text_from column r.bytes) }
