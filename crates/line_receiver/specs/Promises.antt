-- What is promised of the receiver (document 01, "Frames"). Each promise is proved under its own name, with a small first letter, in proofs/.
use Rattle.std.specs.Prelude.{◌≡◌, ℕ, ◌+◌, ◌*◌, ◌/◌, ◌%◌, ◌<◌, ◌≤◌, Bool, true, false, not, ◌||◌, ◌↔◌, List, [], ◌∷◌, ◌++◌, length, replicate, ◌==◌, slice_index, Option, Some, None}
use Rattle.line_receiver.specs.declared.Receiver.{Receiver}
use Rattle.line_receiver.specs.Receive.{sum8, idle, taken, number_of}
use Rattle.line_receiver.specs.Frames.{Byte, Frame, header, clean, values, any_mark, written, ended, reads, after, ends, Quiet, AreBytes}

-- 01 Frames: what holds of every receiver that began idle: fifteen data places, bytes throughout, nothing kept while it is idle, and never
-- more bytes in than the command asks for.
pub record Sound (r : Receiver) : Type 0 where
  pub long : length r.bytes ≡ 15
  pub empty : r.fill ≡ 0 → r ≡ idle
  pub within : r.fill ≤ 3 + r.command / 16
  pub fill_small : r.fill < 256
  pub address_small : r.address < 256
  pub command_small : r.command < 256
  pub bytes_small : (i : ℕ) → slice_index r.bytes i < 256

-- A frame as the writer writes it, without marks, is read back: it ends with its last byte and not sooner, undamaged, with the address, code
-- and data that were given, and leaves the receiver idle.
abbrev pub Read : Type 0
Read =
    (address code : ℕ) (ds : List ℕ)
    → address < 256 → code < 16 → length ds ≤ 15
    → reads (clean (written address code ds)) idle
    ≡ ended (record { address = address; code = code; content = ds; damaged = false }) idle []

-- Marks and a wrong last byte never change where a frame ends or what it carries. It is damaged exactly if a byte after the header is
-- marked or the last one is not the checksum.
abbrev pub Marked : Type 0
Marked =
    (address command : Byte) (ds : List Byte) (last : Byte)
    → command.value < 256 → length ds ≡ command.value / 16
    → reads (header ∷ address ∷ command ∷ ds ++ last ∷ []) idle
    ≡ ended
    (record {
      address = address.value;
      code = command.value % 16;
      content = values ds;
      damaged =
          any_mark (address ∷ command ∷ ds ++ last ∷ [])
          || not (last.value == sum8 address.value command.value (values ds));
    })
    idle
    []

-- Nothing else counts as undamaged: bytes whose first frame ends with the last of them, undamaged, are bytes that an idle receiver drops
-- and then, without marks, what the writer writes for that frame.
abbrev pub Only : Type 0
Only =
    (bs : List Byte) (f : Frame) (r : Receiver)
    → AreBytes (values bs) → reads bs idle ≡ ended f r [] → f.damaged ≡ false
    → (noise : List Byte) × Quiet noise × (bs ≡ noise ++ clean (written f.address f.code f.content))

-- Whatever unfinished frame a receiver holds, sixteen zero bytes without marks leave it idle.
abbrev pub Nulls : Type 0
Nulls = (r : Receiver) → Sound r → after (clean (replicate 16 0)) r ≡ idle

-- 02 P2: A frame has four bytes or more, of which all but the last may have come before. So of n bytes at most a quarter of n + 3 end a frame,
-- whatever the receiver holds; of 64 at most 16.
abbrev pub MostEnd : Type 0
MostEnd = (bs : List Byte) (r : Receiver) → 4 * ends bs r ≤ length bs + 3

-- The receiver that every network begins with is sound.
abbrev pub Fresh : Type 0
Fresh = Sound idle

-- A sound receiver stays sound, whatever byte it takes, marked or not.
abbrev pub Kept : Type 0
Kept = (r : Receiver) (b : ℕ) (m : Bool) → Sound r → b < 256 → Sound (taken r b m).next

-- 01 Numbers given back: 0 exactly if the byte ended no frame, 1 exactly if it ended an undamaged one, 2 exactly if it ended a damaged one.
pub record Numbered (a : Option Bool) (n : ℕ) : Type 0 where
  pub onward : (n ≡ 0) ↔ (a ≡ None)
  pub undamaged : (n ≡ 1) ↔ (a ≡ Some false)
  pub damaged : (n ≡ 2) ↔ (a ≡ Some true)

abbrev pub Numbers : Type 0
Numbers = (a : Option Bool) → Numbered a (number_of a)
