-- Bytes with their marks, whole frames, and what a receiver makes of bytes that come one after another (document 01, "Frames").
use Rattle.std.specs.Prelude.{◌≡◌, ℕ, ◌+◌, ◌*◌, ◌%◌, ◌<◌, Bool, false, ◌||◌, List, [], ◌∷◌, ◌++◌, length, Option, Some, None}
use Rattle.line_receiver.specs.declared.Receiver.{Receiver}
use Rattle.line_receiver.specs.declared.Received.{Received}
use Rattle.line_receiver.specs.Receive.{sum8, carried, opens, taken}

-- 01 Frames: a byte as the line hands it over, with its error mark.
pub record Byte : Type 0 where
  pub value : ℕ
  pub mark : Bool

-- 01 Frames: the byte that opens a frame.
abbrev pub header : Byte
header = record { value = 0xAA; mark = false }

-- 01 Frames: a frame that has ended; the code is the command's low nibble, the content its data bytes.
pub record Frame : Type 0 where
  pub address : ℕ
  pub code : ℕ
  pub content : List ℕ
  pub damaged : Bool

-- 01 Frames: these values as bytes without marks.
abbrev pub clean : List ℕ → List Byte
clean [] = []
clean (x ∷ xs) = record { value = x; mark = false } ∷ clean xs

-- 01 Frames: the values of these bytes, marked or not.
abbrev pub values : List Byte → List ℕ
values [] = []
values (b ∷ bs) = b.value ∷ values bs

-- 01 Frames: one of these bytes, or more, is marked.
abbrev pub any_mark : List Byte → Bool
any_mark [] = false
any_mark (b ∷ bs) = b.mark || any_mark bs

-- 01 Frames: the bytes of a frame in their order, from header to checksum; the command has the code below and the number of data bytes above.
abbrev pub written : ℕ → ℕ → List ℕ → List ℕ
written address code ds =
    let command : ℕ = code + 16 * length ds in
    0xAA ∷ address ∷ command ∷ ds ++ sum8 address command ds ∷ []

-- 01 Frames: the frame that a receiver holds when its last byte comes; that byte adds only whether the frame is damaged.
abbrev pub frame_in : Receiver → Bool → Frame
frame_in r damaged = record { address = r.address; code = r.command % 16; content = carried r; damaged = damaged }

-- 01 Frames: what bytes come to: the receiver still waits, or its first frame has ended, with the receiver then and the bytes not yet taken.
pub data Reading : Type 0 where
  waiting : Receiver → Reading
  ended : Frame → Receiver → List Byte → Reading

-- 01 Frames: the receiver takes bytes up to the end of its first frame.
unfoldable pub reads : List Byte → Receiver → Reading
reads [] r = waiting r
reads (b ∷ bs) r =
    let t : Received = taken r b.value b.mark in
    elim t.answer [ Some d ↦ ended (frame_in r d) t.next bs | None ↦ reads bs t.next ]

-- 01 Frames: the receiver when it has taken all of these bytes, whatever frames end among them.
unfoldable pub after : List Byte → Receiver → Receiver
after [] r = r
after (b ∷ bs) r = after bs (taken r b.value b.mark).next

-- 02 P2: how many frames an answer ends: one or none.
abbrev pub ended_by : Option Bool → ℕ
ended_by None = 0
ended_by (Some d) = 1

-- 02 P2: how many frames end among these bytes.
unfoldable pub ends : List Byte → Receiver → ℕ
ends [] r = 0
ends (b ∷ bs) r =
    let t : Received = taken r b.value b.mark in
    ended_by t.answer + ends bs t.next

-- 01 Frames: bytes that an idle receiver drops, each of them marked or not 0xAA.
abbrev pub Quiet : List Byte → Type 0
Quiet [] = Unit {0}
Quiet (b ∷ bs) = (opens b.value b.mark ≡ false) × Quiet bs

-- 01 Frames: numbers that eight bits hold.
abbrev pub AreBytes : List ℕ → Type 0
AreBytes [] = Unit {0}
AreBytes (x ∷ xs) = (x < 256) × AreBytes xs
