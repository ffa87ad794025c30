-- What byte calls and buffers write: their replies at the room's start, never more than the room that they ask for; no frame, nothing. Assumes nothing.
use mathlib.Core.Path.{◌≡◌, refl, sym, ap, ap₂, ◌∙◌}
use mathlib.Core.List.{List, []}
use mathlib.Core.Bool.{Bool, true, false, cond}
use Prim.Native.Nat.{ℕ, ◌*◌, ◌≤◌}
use native.Mathlib.Omega.{arith}
use lib.ListN.{length, take, drop}
use lib.Seq.{take-append_seam, drop-append_seam}
use lib.Dec.{eqb}
use borrow.Author.Tests.{eqb-true, eqb-false}
use Rattle.base_layout.specs.Bytes.{pasted}
use Rattle.base_layout.proofs.Pasted.{pasted_none, pasted-start, length-pasted}
use Rattle.line_receiver.specs.declared.Receiver.{Receiver}
use Rattle.line_receiver.specs.declared.Received.{Received}
use Rattle.std.specs.Prelude.{Option, Some, None}
use Rattle.line_receiver.specs.Receive.{taken, number_of}
use Rattle.line_receiver.specs.Frames.{Byte, ended_by, ends}
use Rattle.line_receiver.proofs.Ending.{most_end}
use Rattle.module_rules.specs.Owes.{reply_size}
use Rattle.chain_rules.specs.Chain.{Net, Step, flat, byte_step}
use Rattle.chain_rules.proofs.Bytes.{step-on, step_end}
use Rattle.chain_rules.proofs.FewReplies.{step-few, few-within, few_replies}
use Rattle.types_rules.specs.Types.{Module, kind, slots}
use Rattle.types_rules.proofs.Laws.{lawful, said_short}
use Rattle.net_rules.specs.Record.{receiver_size, room_size, buffer_room_size, receiver_bytes, net_in, stored}
use Rattle.net_rules.specs.Calls.{byte_of, bytes_of}
use Rattle.net_rules.proofs.Head.{length-receiver}
use Rattle.net_rules.proofs.Exact.{waits}
use Rattle.net_rules.proofs.Buffer.{own_marks, most_said}
use Rattle.base_layout.specs.First.{Line, first}
use Rattle.api_rules.specs.Table.{byte_table, buffer_table}
use Rattle.api_rules.specs.Calls.{unless, step_of, byte_number, byte_record, byte_room, byte_written, buffer_of, buffer_room, buffer_written}
use Rattle.api_rules.specs.Promises.{Passes, Put, WrittenRoom, BufferWritten, NoFrame}
use Rattle.api_rules.proofs.Refused.{done, either_way, byte_passes, buffer_passes}
use Rattle.api_rules.proofs.Unchanged.{number-done, answers}

-- a list put at a room's start
begins : (xs room : List ℕ) → take (length xs) (pasted 0 xs room) ≡ xs
begins xs room = ap (take (length xs)) (pasted-start xs room) ∙ take-append_seam xs (drop (length xs) room)

rest : (xs room : List ℕ) → drop (length xs) (pasted 0 xs room) ≡ drop (length xs) room
rest xs room = ap (drop (length xs)) (pasted-start xs room) ∙ drop-append_seam xs (drop (length xs) room)

pub put_there : (ls : List Line) (out room : List ℕ) → (Passes ls → length out ≤ length room)
    → Put ls out room (unless ls room (pasted 0 out room)) (unless ls 0 (length out))
put_there ls out room fits = record {
  reported = λ p. sym (done ls 0 (length out) refl p);
  begins = λ p. ap₂ (λ (k : ℕ) (l : List ℕ). take k l) (sym (done ls 0 (length out) refl p)) (sym (done ls room (pasted 0 out room) refl p)) ∙ begins out room;
  rest = go (eqb (first ls) 0);
  long = either_way (λ (l : List ℕ). length l ≡ length room) ls room (pasted 0 out room) refl (λ p. let f = fits p in length-pasted 0 out room (omega arith));
}
  where
    go : (t : Bool) → drop (cond t (length out) 0) (cond t (pasted 0 out room) room) ≡ drop (cond t (length out) 0) room
    go true = rest out room
    go false = refl

-- one byte ends one frame at most
step_short : (n : Net Module) (b : Byte) → length (flat (byte_step kind n b).replies) ≤ reply_size * length n.modules
step_short n b = one_at_most (taken n.receiver b.value b.mark).answer (step-few kind reply_size (reply_size * length n.modules) said_short n b (omega arith))
  where
    one_at_most : (a : Option Bool) {k c : ℕ} → k ≤ c * ended_by a → k ≤ c
    one_at_most None h = omega arith
    one_at_most (Some d) h = omega arith

pub written_room : WrittenRoom
unfolding byte_written byte_room
written_room net mark byte room = record {
  put = put_there ls xs room (λ p. let q = byte_passes net mark room p in omega (arith, out-most p));
  short = either_way (λ (n : ℕ). n ≤ reply_size * length (net_in slots net).modules) ls 0 (length xs) (omega arith) (λ p. short);
  most = either_way (λ (n : ℕ). n ≤ room_size) ls 0 (length xs) (omega arith) out-most;
}
  where
    xs : List ℕ
    xs = flat (step_of net mark byte).replies

    ls : List Line
    ls = byte_table net mark room

    short : length xs ≤ reply_size * length (net_in slots net).modules
    short = step_short (net_in slots net) (byte_of byte (eqb mark 1))

    out-most : Passes ls → length xs ≤ room_size
    out-most p = omega (arith, short, most_said net (byte_passes net mark room p).0)

-- a buffer
pub buffer_written_lem : BufferWritten
unfolding buffer_written buffer_room
buffer_written_lem net bytes marks room = record {
  put = put_there ls xs room (λ p. omega (arith, out-most p, (buffer_passes net bytes marks room p).enough));
  frames = sixteen;
  few = either_way (λ (n : ℕ). n ≤ reply_size * length (net_in slots net).modules * ends bs r) ls 0 (length xs) (omega arith)
      (λ p. few_replies kind reply_size said_short bs (net_in slots net));
  most = either_way (λ (n : ℕ). n ≤ buffer_room_size) ls 0 (length xs) (omega arith) out-most;
}
  where
    bs : List Byte
    bs = bytes_of bytes marks

    r : Receiver
    r = (net_in slots net).receiver

    xs : List ℕ
    xs = flat (buffer_of net bytes marks).replies

    ls : List Line
    ls = buffer_table net bytes marks room

    sixteen : Passes ls → ends bs r ≤ 16
    sixteen p = let q = buffer_passes net bytes marks room p in omega (arith, most_end bs r, (own_marks bytes marks q.same).long)

    out-most : Passes ls → length xs ≤ buffer_room_size
    out-most p =
        omega (
          arith,
          few-within kind reply_size room_size said_short bs (net_in slots net) (most_said net (buffer_passes net bytes marks room p).valid),
          sixteen p,
        )

-- a call that gives 0 is not refused
zero_passes : (net : List ℕ) (mark byte : ℕ) (room : List ℕ) → byte_number net mark byte room ≡ 0 → Passes (byte_table net mark room)
zero_passes net mark byte room e = go (eqb (first (byte_table net mark room)) 0) refl
  where
    go : (t : Bool) → eqb (first (byte_table net mark room)) 0 ≡ t → first (byte_table net mark room) ≡ 0
    go true q = eqb-true _ _ q
    go false q = let g = (answers net mark byte room).refused.1 (eqb-false _ _ q) in absurd (omega arith)

not_ended : (d : Bool) → number_of (Some d) ≡ 0 → ⊥
not_ended true e = omega arith
not_ended false e = omega arith

-- a step that gives 0
still : (n : Net Module) (b : Byte) → (byte_step kind n b).number ≡ 0
    → byte_step kind n b ≡ record { number = 0; net = record { receiver = (taken n.receiver b.value b.mark).next; modules = n.modules }; replies = [] }
still n b z =
    let t : Received = taken n.receiver b.value b.mark in
    go t.answer refl
  where
    go : (a : Option Bool) → taken n.receiver b.value b.mark ≡ record { next = (taken n.receiver b.value b.mark).next; answer = a }
        → byte_step kind n b
        ≡ record { number = 0; net = record { receiver = (taken n.receiver b.value b.mark).next; modules = n.modules }; replies = [] }
    go None e = step-on kind n b (taken n.receiver b.value b.mark).next e
    go (Some d) e =
        let q = step_end kind n b (taken n.receiver b.value b.mark).next d e in
        absurd (not_ended d (sym (ap (λ (s : Step Module). s.number) q) ∙ z))

pub no_frame : NoFrame
unfolding byte_record byte_room
no_frame net mark byte room b z =
    let p = zero_passes net mark byte room z in
    let q = still (net_in slots net) (byte_of byte (eqb mark 1)) (sym (number-done net mark byte room p) ∙ z) in
    let r : Receiver = (taken (net_in slots net).receiver byte (eqb mark 1)).next in
    let v = (byte_passes net mark room p).0 in
    let d : byte_record net mark byte room ≡ pasted 0 (receiver_bytes r) net =
    sym (done (byte_table net mark room) net (stored slots (step_of net mark byte).net net) refl p)
    ∙ ap (λ (s : Step Module). stored slots s.net net) q
    ∙ sym (waits lawful net b v r) in (
      ap (drop receiver_size) d
          ∙ ap (λ (k : ℕ). drop k (pasted 0 (receiver_bytes r) net)) (sym (length-receiver r))
          ∙ rest (receiver_bytes r) net
          ∙ ap (λ (k : ℕ). drop k net) (length-receiver r),
      sym (done (byte_table net mark room) room (pasted 0 (flat (step_of net mark byte).replies) room) refl p) ∙ ap (λ (s : Step Module). pasted 0 (flat s.replies) room) q ∙ pasted_none 0 room,
      (written_room net mark byte room).put.reported p ∙ ap (λ (s : Step Module). length (flat s.replies)) q,
    )
