-- What is promised of the host's writer and status reader. Each promise is proved under its own name, with a small first letter, in proofs/.
use Rattle.std.specs.Prelude.{◌≡◌, List, [], ◌∷◌, true, false, cond, ◌⊎◌, ℕ, ◌+◌, ◌*◌, ◌-◌, ◌/◌, ◌%◌, ◌^◌, ◌<◌, ◌≤◌, length, get_or, take, replicate, eqb}
use Rattle.base_layout.specs.Bytes.{pasted}
use Rattle.line_receiver.specs.Receive.{total, idle}
use Rattle.line_receiver.specs.Frames.{written, clean, reads, ended}
use Rattle.module_rules.specs.Report.{report, Fit}
use Rattle.types_rules.specs.Types.{sizes_of, shows_of}
use Rattle.types_rules.specs.Promises.{ThereIs}
use Rattle.host_rules.specs.Reading.{needed_for, summed, reading_of, status_of}
use Rattle.host_rules.specs.Writing.{written_of, room_after}

-- 01 Numbers given back, last paragraph: a number where its bit is set, 0 where it is clear.
abbrev pub shown : ℕ → List ℕ → List ℕ
shown b [] = []
shown b (x ∷ xs) = cond (eqb (b % 2) 1) x 0 ∷ shown (b / 2) xs

-- 01 Numbers given back, last paragraph: a reply has the length and the sum that the reader asks for, and reads as what was put into it.
pub record ReadBack (status items : ℕ) (sizes numbers reply : List ℕ) : Type 0 where
  pub long : length reply ≡ needed_for items sizes
  pub right : summed reply ≡ true
  pub same : reading_of items sizes reply ≡ record { status = status; numbers = shown items numbers }

-- 01 Numbers given back, last paragraph: whatever a module replies, its items being of any sizes, is taken apart into its status byte and
-- the numbers of the chosen items, with 0 for the others. It holds of every status byte and every item byte.
abbrev pub Status : Type 0
Status =
    (status items : ℕ) (sizes numbers : List ℕ) → Fit sizes numbers
    → ReadBack status items sizes numbers (report status items sizes numbers)

-- 01 Numbers given back, last paragraph: the reader refuses no reply of a module of any type with items that it has, and gives back what was put
-- into it.
abbrev pub Taken : Type 0
Taken =
    (kind status items : ℕ) (numbers : List ℕ) → ThereIs kind → shows_of kind items ≡ true → Fit (sizes_of kind) numbers
    → status_of kind items (report status items (sizes_of kind) numbers)
    ≡ record { number = 0; reading = record { status = status; numbers = shown items numbers } }

-- 01 Numbers given back: the one is the case exactly when the other is.
abbrev pub Exactly : Type 0 → Type 0 → Type 0
Exactly p q = (p → q) × (q → p)

-- 01 Numbers given back, 18, 02 P3: the type has these items, and the length is what type and items require.
abbrev pub Long : ℕ → ℕ → List ℕ → Type 0
Long kind items reply = (shows_of kind items ≡ true) × (length reply ≡ needed_for items (sizes_of kind))

-- 01 Numbers given back, 19: the last byte is the 8-bit sum of those before it.
abbrev pub Right : List ℕ → Type 0
Right reply = get_or reply (length reply - 1) 0 ≡ total (take (length reply - 1) reply) % 256

-- 01 Numbers given back, 12, 18 and 19: each exactly when its condition holds and none before it, 0 when none does; refused, all is 0.
pub record Reader (kind items : ℕ) (reply : List ℕ) : Type 0 where
  pub twelve : Exactly ((status_of kind items reply).number ≡ 12) (ThereIs kind → ⊥)
  pub eighteen : Exactly ((status_of kind items reply).number ≡ 18) (ThereIs kind × (Long kind items reply → ⊥))
  pub nineteen : Exactly ((status_of kind items reply).number ≡ 19) (ThereIs kind × Long kind items reply × (Right reply → ⊥))
  pub done : Exactly ((status_of kind items reply).number ≡ 0) (ThereIs kind × Long kind items reply × Right reply)
  pub taken : (status_of kind items reply).number ≡ 0 → (status_of kind items reply).reading ≡ reading_of items (sizes_of kind) reply
  pub blank : ((status_of kind items reply).number ≡ 0 → ⊥) → (status_of kind items reply).reading ≡ record { status = 0; numbers = replicate 8 0 }

-- 01 Numbers given back, 18: an item of so many bytes counts where its bit of the item byte is set.
abbrev pub counts : ℕ → ℕ → ℕ → ℕ
counts items k bytes = bytes * (items / 2 ^ k % 2)

-- 01 Numbers given back, 18, and Servo, I/O module, Items: the length that type 0, 2 or 3 and the items require, status byte and sum among it.
pub record Required (items : ℕ) : Type 0 where
  pub servo : needed_for items (sizes_of 0)
      ≡ 2
      + (counts items 0 4
      + (counts items 1 1
      + (counts items 2 2
      + (counts items 3 1 + (counts items 4 4 + (counts items 5 2 + (counts items 6 2 + counts items 7 1)))))))
  pub inout : needed_for items (sizes_of 2)
      ≡ 2
      + (counts items 0 2
      + (counts items 1 1
      + (counts items 2 1
      + (counts items 3 1 + (counts items 4 4 + (counts items 5 2 + (counts items 6 2 + counts items 7 4)))))))
  pub stepper : needed_for items (sizes_of 3) ≡ 2 + (counts items 0 4 + counts items 5 2)

abbrev pub Lengths : Type 0
Lengths = (items : ℕ) → Required items

-- 01 Numbers given back, 17: address, code and number of data bytes are within bounds.
abbrev pub Fits : ℕ → ℕ → List ℕ → Type 0
Fits address code ds = (address ≤ 255) × (code ≤ 15) × (length ds ≤ 15)

-- 01 Numbers given back, 17: one of them is not.
abbrev pub Over : ℕ → ℕ → List ℕ → Type 0
Over address code ds = (255 < address) ⊎ ((15 < code) ⊎ (15 < length ds))

-- 01 Numbers given back, 17 and 15: each exactly when its condition holds and none before it, 0 when none does; refused, nothing is written.
pub record Writer (address code : ℕ) (ds room : List ℕ) : Type 0 where
  pub seventeen : Exactly ((written_of address code ds room).number ≡ 17) (Over address code ds)
  pub fifteen : Exactly ((written_of address code ds room).number ≡ 15) (Fits address code ds × (length room < length ds + 4))
  pub done : Exactly ((written_of address code ds room).number ≡ 0) (Fits address code ds × (length ds + 4 ≤ length room))
  pub wrote : (written_of address code ds room).number ≡ 0
      → ((written_of address code ds room).len ≡ length ds + 4) × (room_after address code ds room ≡ pasted 0 (written address code ds) room)
  pub untouched : ((written_of address code ds room).number ≡ 0 → ⊥)
      → ((written_of address code ds room).len ≡ 0) × (room_after address code ds room ≡ room)

-- 01 Numbers given back: the table's rows for the status reader and the writer.
abbrev pub Table : Type 0
Table =
    ((kind items : ℕ) (reply : List ℕ) → Reader kind items reply)
    × ((address code : ℕ) (ds room : List ℕ) → Writer address code ds room)

-- 01 Frames: what the writer wrote, sent without marks, an idle receiver reads as the frame that was asked for, undamaged, and ended with
-- the last byte.
abbrev pub Sent : Type 0
Sent =
    (address code : ℕ) (ds room : List ℕ) → (written_of address code ds room).number ≡ 0
    → reads (clean (take (written_of address code ds room).len (room_after address code ds room))) idle
    ≡ ended (record { address = address; code = code; content = ds; damaged = false }) idle []
