-- The lent record: the receiver's bytes, the number of modules, and a slot for each of the most modules that a chain can have.
use Rattle.std.specs.Prelude.{refl, ℕ, zero, suc, ◌+◌, ◌*◌, ◌/◌, List, [], ◌∷◌, ◌++◌, Bool, true, false, cond, ◌&&◌, length, get_or, take, drop, eqb, leb}
use Rattle.base_layout.specs.Bytes.{pasted, read_at}
use Rattle.base_layout.proofs.Shape.{Shape, byte, raw, flag, ◌then◌, shaped}
use Rattle.line_receiver.specs.declared.Receiver.{Receiver}
use Rattle.chain_rules.specs.Chain.{Net}
use Rattle.module_rules.specs.Slots.{Slots, slot_size}
use Rattle.module_rules.specs.Owes.{reply_size}

-- the receiver's bytes: fifteen data places, address, command, how many bytes of the frame are in, whether one was marked
abbrev pub receiver_parts : Receiver → List ℕ × (ℕ × (ℕ × (ℕ × Bool)))
receiver_parts r = (r.bytes, (r.address, (r.command, (r.fill, r.marked))))

abbrev pub receiver_of : List ℕ × (ℕ × (ℕ × (ℕ × Bool))) → Receiver
receiver_of t = record { bytes = t.0; address = t.1.0; command = t.1.1.0; fill = t.1.1.1.0; marked = t.1.1.1.1 }

abbrev pub receiver : Shape Receiver
receiver = shaped receiver_of receiver_parts (λ t. refl) (λ r. refl) (raw 15 then byte then byte then byte then flag)

-- where its address, command, fill and mark stand, and its size
abbrev pub address_at : ℕ
address_at = 15

abbrev pub command_at : ℕ
command_at = address_at + 1

abbrev pub fill_at : ℕ
fill_at = command_at + 1

abbrev pub marked_at : ℕ
marked_at = fill_at + 1

abbrev pub receiver_size : ℕ
receiver_size = receiver.codec.size

-- 01 What the boards do: a chain has at most 32 modules; their number stands behind the receiver, and then come the slots
abbrev pub chain_most : ℕ
chain_most = 32

abbrev pub count_at : ℕ
count_at = receiver_size

abbrev pub slots_at : ℕ
slots_at = count_at + 1

abbrev pub record_size : ℕ
record_size = slots_at + chain_most * slot_size

-- 01 Numbers given back, 15: the room that a byte call needs, for a reply of every module
abbrev pub room_size : ℕ
room_size = chain_most * reply_size

-- 02 P2: the most bytes of a buffer, and the room that its call needs, for the replies to every frame that can end among so many: a frame has four
-- bytes or more, of which all but the last may have come before
abbrev pub buffer_most : ℕ
buffer_most = 64

abbrev pub room_for : ℕ → ℕ
room_for k = (k + 3) / 4 * room_size

abbrev pub buffer_room_size : ℕ
buffer_room_size = room_for buffer_most

unfoldable pub receiver_in : List ℕ → Receiver
receiver_in s = receiver.codec.dec 0 s

unfoldable pub receiver_bytes : Receiver → List ℕ
receiver_bytes r = receiver.codec.enc r

-- every one of some bytes is 0
abbrev pub blank : List ℕ → Bool
blank [] = true
blank (b ∷ bs) = eqb b 0 && blank bs

-- an idle receiver holds nothing; in a frame there are never more bytes in than the command announces; the mark is 0 or 1
unfoldable pub ok_receiver : List ℕ → Bool
ok_receiver s =
    cond (eqb (get_or s fill_at 0) 0) (blank (read_at receiver_size 0 s))
    (leb (get_or s fill_at 0) (3 + get_or s command_at 0 / 16) && leb (get_or s marked_at 0) 1)

module _ {M : Type 0} (L : Slots M) where
  -- the modules of k slots
  unfoldable pub modules_in : ℕ → List ℕ → List M
  modules_in zero t = []
  modules_in (suc k) t = L.dec (take slot_size t) ∷ modules_in k (drop slot_size t)

  unfoldable pub ok_slots : ℕ → List ℕ → Bool
  ok_slots zero t = true
  ok_slots (suc k) t = L.ok (take slot_size t) && ok_slots k (drop slot_size t)

  -- the network in a record
  unfoldable pub net_in : List ℕ → Net M
  net_in s = record { receiver = receiver_in s; modules = modules_in (get_or s count_at 0) (drop slots_at s) }

  -- a record with a network written into it; the bytes that hold nothing of it stay
  unfoldable pub put_modules : List M → ℕ → List ℕ → List ℕ
  put_modules [] at s = s
  put_modules (m ∷ ms) at s = put_modules ms (at + slot_size) (pasted at (L.enc m) s)

  unfoldable pub stored : Net M → List ℕ → List ℕ
  stored n s = put_modules n.modules slots_at (pasted 0 (receiver_bytes n.receiver ++ length n.modules ∷ []) s)

  -- the list for refusal 16: the length, 1 to 32 modules, a valid receiver, valid slots
  unfoldable pub valid : List ℕ → Bool
  valid s =
      cond (eqb (length s) record_size)
      (cond (leb 1 (get_or s count_at 0) && leb (get_or s count_at 0) chain_most) (ok_receiver s && ok_slots (get_or s count_at 0) (drop slots_at s)) false)
      false
