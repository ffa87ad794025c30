-- The receiver: what one byte makes of it. Every definition renders document 01, "Frames", but for the last, which renders "Numbers given back".
use Rattle.std.specs.Prelude.{ℕ, zero, suc, ◌+◌, ◌/◌, ◌%◌, Bool, true, false, cond, not, ◌&&◌, ◌||◌, List, [], ◌∷◌, take, replicate, ◌==◌, nat_lt, slice_set, Option, Some, None}
use Rattle.line_receiver.specs.declared.Receiver.{Receiver}
use Rattle.line_receiver.specs.declared.Received.{Received}

-- 01 Frames: the plain sum of some bytes, from which a checksum is cut.
abbrev pub total : List ℕ → ℕ
total [] = 0
total (x ∷ xs) = x + total xs

-- 01 Frames: the checksum covers address, command and data, and keeps the low eight bits of their sum.
abbrev pub sum8 : ℕ → ℕ → List ℕ → ℕ
sum8 address command ds = total (address ∷ command ∷ ds) % 256

-- 01 Frames: the idle receiver; it is one value, with nothing left of an earlier frame.
abbrev pub idle : Receiver
idle = record { bytes = replicate 15 0; address = 0; command = 0; fill = 0; marked = false }

-- 01 Frames: the byte ends no frame, and the receiver is r from now on.
abbrev pub waits : Receiver → Received
waits r = record { next = r; answer = None }

-- 01 Frames: a byte that opens a frame at an idle receiver is 0xAA without a mark.
abbrev pub opens : ℕ → Bool → Bool
opens b m = b == 0xAA && not m

-- 01 Frames: the header came; it is no part of the sum, and not marked.
abbrev pub opened : Receiver → Received
opened r = waits (record { bytes = r.bytes; address = r.address; command = r.command; fill = 1; marked = false })

-- 01 Frames: the address came, whatever its value.
abbrev pub addressed : Receiver → ℕ → Bool → Received
addressed r b m = waits (record { bytes = r.bytes; address = b; command = r.command; fill = 2; marked = r.marked || m })

-- 01 Frames: the command came.
abbrev pub commanded : Receiver → ℕ → Bool → Received
commanded r b m = waits (record { bytes = r.bytes; address = r.address; command = b; fill = 3; marked = r.marked || m })

-- 01 Frames: the data byte for place k came.
abbrev pub stored : ℕ → Receiver → ℕ → Bool → Received
stored k r b m =
    waits (record { bytes = slice_set r.bytes k b; address = r.address; command = r.command; fill = r.fill + 1; marked = r.marked || m })

-- 01 Frames: the number of data bytes, which is the command's high nibble.
abbrev pub count : Receiver → ℕ
count r = r.command / 16

-- 01 Frames: that many data bytes, from the first place on.
abbrev pub carried : Receiver → List ℕ
carried r = take (count r) r.bytes

-- 01 Frames: the last byte came; the frame is damaged if one of its bytes was marked or this one is not the checksum.
abbrev pub finished : Receiver → ℕ → Bool → Received
finished r b m =
    record { next = idle; answer = Some ((r.marked || m) || not (b == sum8 r.address r.command (carried r))) }

-- 01 Frames: after the command, with k data bytes in: one more of them, or else the checksum.
abbrev pub inside : ℕ → Receiver → ℕ → Bool → Received
inside k r b m = cond (nat_lt k (count r)) (stored k r b m) (finished r b m)

-- 01 Frames: the byte b with the mark m, by the number of the frame's bytes that are in; only with none in is a header looked for.
abbrev pub step : ℕ → Receiver → ℕ → Bool → Received
step zero r b m = cond (opens b m) (opened r) (waits r)
step (suc zero) r b m = addressed r b m
step (suc (suc zero)) r b m = commanded r b m
step (suc (suc (suc k))) r b m = inside k r b m

-- 01 Frames: the receiver r takes the byte b with the mark m.
unfoldable pub taken : Receiver → ℕ → Bool → Received
taken r b m = step r.fill r b m

-- 01 Numbers given back: the byte call's number for each answer.
abbrev pub number_of : Option Bool → ℕ
number_of None = 0
number_of (Some false) = 1
number_of (Some true) = 2
