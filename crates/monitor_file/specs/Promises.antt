-- What is promised of looking at a replay file and of a text's lines and columns (document 02, P7). Each is proved under its name, with small letters, in
-- proofs/.
use Rattle.std.specs.Prelude.{◌≡◌, List, [], ◌∷◌, ◌++◌, ℕ, ◌+◌, ◌<◌, ◌≤◌, length, drop}
use Rattle.base_text.specs.Digits.{newline}
use Rattle.line_receiver.specs.Frames.{Byte}
use Rattle.chain_rules.specs.Chain.{Net, byte_step}
use Rattle.types_rules.specs.Types.{Module, kind}
use Rattle.text_rules.specs.Records.{line_kind, mark_of, record_of, records}
use Rattle.text_rules.specs.Promises.{occurs}
use Rattle.replay_print.specs.Text.{lines}
use Rattle.replay_file.specs.Records.{body_length, kinds, running, goes, record_step}
use Rattle.monitor_file.specs.declared.Part.TheVariants.{Kind}
use Rattle.monitor_file.specs.Looking.{look_from, looked_at, fault_at}
use Rattle.monitor_file.specs.Spots.{first_spot, spot_after}

-- 01 Replay file, 02 P7: files of whole records, and the bytes of the line in them, in their order. The record of a line byte has kind 1, a mark of 0 or 1 and the byte;
-- one of another kind has as many bytes as the kind asks for, whatever they are.
pub data File : List ℕ → List Byte → Type 0 where
  empty : File [] []
  line : {rs : List ℕ} {bs : List Byte} (b : Byte) → File rs bs → File (1 ∷ mark_of b.mark ∷ b.value ∷ rs) (b ∷ bs)
  other : {k : ℕ} {rs : List ℕ} {bs : List Byte} (body : List ℕ) → k < kinds → (k ≡ 1 → ⊥) → length body ≡ body_length k → File rs bs → File (k ∷ body ++ rs) bs

-- 01 Replay file, 02 P7: what begins with a bad record: one of a kind that there is not, a line byte with a mark above 1, or one that the file's end cuts.
pub data Bad : List ℕ → Type 0 where
  unknown : {k : ℕ} {rest : List ℕ} → kinds ≤ k → Bad (k ∷ rest)
  mark : {m : ℕ} {rest : List ℕ} → 1 < m → Bad (1 ∷ m ∷ rest)
  cut : {k : ℕ} {body : List ℕ} → k < kinds → length body < body_length k → Bad (k ∷ body)

-- 02 P7: every file is whole records, and then nothing or a bad one; so what is promised of both is promised of all files.
pub data Parted : List ℕ → Type 0 where
  whole : {f : List ℕ} {bs : List Byte} → File f bs → Parted f
  stops : {f r : List ℕ} {bs : List Byte} → File f bs → Bad r → Parted (f ++ r)

abbrev pub EveryFile : Type 0
EveryFile = (f : List ℕ) → Parted f

-- 02 P7: all of a file is taken, and a record may begin behind it, so that there is nothing to tell of it.
abbrev pub Good : List ℕ → Type 0
Good f = ((look_from Kind f).count ≡ length f) × ((look_from Kind f).stage ≡ Kind)

-- 02 P7: of a file of whole records all line bytes are shown, and no others.
abbrev pub LooksAt : Type 0
LooksAt = (f : List ℕ) (bs : List Byte) → File f bs → (looked_at f ≡ bs) × Good f × (fault_at f ≡ length f)

-- 02 P7: at a bad record it stops: the line bytes before it are shown, and the offset that is told is where the record begins.
abbrev pub StopsAt : Type 0
StopsAt = (f r : List ℕ) (bs : List Byte) → File f bs → Bad r → (looked_at (f ++ r) ≡ bs) × (Good (f ++ r) → ⊥) × (fault_at (f ++ r) ≡ length f)

-- 02 P7: records of line bytes alone are shown as those bytes.
abbrev pub OnlyLine : Type 0
OnlyLine = (bs : List Byte) → (looked_at (records bs) ≡ bs) × Good (records bs)

-- 02 P7: the place behind a text's characters: so far from its start as it has characters, and in the line after as many as it has newlines. Behind characters with no
-- newline among them, at the text's start or after a newline, it is one column further than they are many.
pub record Spots : Type 0 where
  pub offset : (t : List ℕ) → (spot_after first_spot t).offset ≡ length t
  pub line : (t : List ℕ) → (spot_after first_spot t).line ≡ 1 + occurs newline t
  pub first : (q : List ℕ) → occurs newline q ≡ 0 → (spot_after first_spot q).column ≡ 1 + length q
  pub column : (p q : List ℕ) → occurs newline q ≡ 0 → (spot_after first_spot (p ++ newline ∷ q)).column ≡ 1 + length q

-- 02 P7: a record as import writes it is to a replay the byte of the line with its mark: the network takes it, and the replies are printed.
abbrev pub Replays : Type 0
Replays =
    (n : Net Module) (list : List ℕ) (b : Byte)
    → record_step (running n list) line_kind (drop 1 (record_of b)) ≡ goes (running (byte_step kind n b).net list) (lines (byte_step kind n b).replies)
