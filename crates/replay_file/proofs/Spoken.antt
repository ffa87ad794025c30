-- A line byte: the byte call's lengths and room, and the lines that are printed of them. Assumes nothing.
use mathlib.Core.Path.{◌≡◌, refl, sym, ap, ◌∙◌}
use mathlib.Core.List.{List, [], ◌∷◌, ◌++◌}
use mathlib.Core.Bool.{Bool, true, false, cond, ◌&&◌}
use Prim.Native.Nat.{ℕ, zero, suc, ◌+◌, ◌≤◌}
use native.Mathlib.Omega.{arith}
use native.Mathlib.Nat.{zero-add}
use lib.ListN.{length, get_or, drop}
use Rattle.base_layout.specs.Bytes.{pasted}
use Rattle.base_layout.proofs.Pasted.{pasted-start}
use Rattle.line_receiver.specs.declared.Receiver.{Receiver}
use Rattle.line_receiver.specs.declared.Received.{Received}
use Rattle.std.specs.Prelude.{Option, Some, None}
use Rattle.line_receiver.specs.Receive.{taken}
use Rattle.line_receiver.specs.Frames.{Byte, Frame, frame_in}
use Rattle.module_rules.specs.Touch.{named}
use Rattle.module_rules.specs.Kind.{replied}
use Rattle.chain_rules.specs.Chain.{Net, flat, join, said, replies_from, byte_step}
use Rattle.chain_rules.proofs.Along.{length-said}
use Rattle.chain_rules.proofs.Bytes.{step-on, step_end}
use Rattle.chain_rules.proofs.Replies.{flat-join}
use Rattle.types_rules.specs.Types.{Module, kind}
use Rattle.types_rules.proofs.Laws.{said_short}
use Rattle.net_rules.specs.declared.Called.{Called}
use Rattle.net_rules.specs.Calls.{spoken_to, called_by}
use Rattle.net_rules.proofs.Lengths.{noted_at}
use Rattle.replay_print.specs.Text.{lines, printed, text_size}
use Rattle.replay_print.proofs.Replies.{printed_words, lines_short}
use Rattle.net_rules.specs.Record.{chain_most}
use Rattle.module_rules.specs.Owes.{reply_size}

-- no place says more than a reply can be
word_short : (f : Frame) (ms : List Module) (t : Bool) (i : ℕ) → length (get_or (said kind f t ms) i []) ≤ reply_size
word_short f [] t i = omega arith
word_short f (m ∷ ms) t zero = go (t && named f.address (kind.address m))
  where
    go : (u : Bool) → length (cond u (replied kind f m) []) ≤ reply_size
    go true = said_short f m
    go false = omega arith
word_short f (m ∷ ms) t (suc i) = word_short f ms (kind.address m).low i

-- what places say to a byte, by the receiver's answer
spoken_on : (n : Net Module) (b : Byte) (r : Receiver) → taken n.receiver b.value b.mark ≡ record { next = r; answer = None } → spoken_to kind n b ≡ []
unfolding spoken_to
spoken_on n b r e = rw (e, spoken_to)

spoken_end : (n : Net Module) (b : Byte) (r : Receiver) (d : Bool) → taken n.receiver b.value b.mark ≡ record { next = r; answer = Some d }
    → spoken_to kind n b ≡ said kind (frame_in n.receiver d) true n.modules
unfolding spoken_to
spoken_end n b r d e = rw (e, spoken_to)

-- the replies are those of what each place says: no more places than modules, and each no longer than a reply can be
record Spoken (n : Net Module) (b : Byte) : Type 0 where
  pub replies : (byte_step kind n b).replies ≡ replies_from 0 (spoken_to kind n b)
  pub count : length (spoken_to kind n b) ≤ length n.modules
  pub short : (i : ℕ) → length (get_or (spoken_to kind n b) i []) ≤ reply_size

spoken : (n : Net Module) (b : Byte) → Spoken n b
spoken n b =
    let t : Received = taken n.receiver b.value b.mark in
    go t.answer t.next refl
  where
    go : (a : Option Bool) (r : Receiver) → taken n.receiver b.value b.mark ≡ record { next = r; answer = a } → Spoken n b
    go None r e =
        let w = spoken_on n b r e in
        record {
          replies = rw (step-on kind n b r e, w) refl;
          count = rw w (omega arith);
          short = λ i. rw w (omega arith);
        }
    go (Some d) r e =
        let f : Frame = frame_in n.receiver d in
        let w = spoken_end n b r d e in
        record {
          replies = rw (step_end kind n b r d e, w) refl;
          count = rw w (omega (arith, length-said kind f true n.modules));
          short = λ i. rw w (word_short f n.modules true i);
        }

-- the lengths that the byte call hands back, and the room that it leaves
module _ (n : Net Module) (b : Byte) (most : length n.modules ≤ chain_most) {r : Called} (e : r ≡ called_by n b) where
  lengths_are : (i : ℕ) → get_or r.lengths i 0 ≡ length (get_or (spoken_to kind n b) i [])
  unfolding called_by
  lengths_are i =
      ap (λ (c : Called). get_or c.lengths i 0) e ∙ noted_at (spoken_to kind n b) i (omega (arith, (spoken n b).count))

  pub lengths_small : (i : ℕ) → get_or r.lengths i 0 ≤ reply_size
  lengths_small i = omega (arith, lengths_are i, (spoken n b).short i)

  pub text_is : (room : List ℕ) {after : List ℕ} → after ≡ pasted 0 (flat (byte_step kind n b).replies) room
      → printed chain_most 0 0 r.lengths after ≡ lines (byte_step kind n b).replies
  text_is room {after} ea =
      let s = spoken n b in
      let ws = spoken_to kind n b in
      let f : flat (byte_step kind n b).replies ≡ join ws = ap flat s.replies ∙ flat-join 0 ws in
      let on : (i : ℕ) → get_or r.lengths (0 + i) 0 ≡ length (get_or ws i []) = λ i. ap (λ (j : ℕ). get_or r.lengths j 0) (zero-add i) ∙ lengths_are i in
      let split : drop 0 after ≡ join ws ++ drop (length (join ws)) room = ea ∙ ap (λ (x : List ℕ). pasted 0 x room) f ∙ pasted-start (join ws) room in
      printed_words r.lengths after chain_most ws 0 0 (drop (length (join ws)) room) (omega (arith, s.count)) on split ∙ ap lines (sym s.replies)

-- at most 1,920 bytes are printed
pub spoken_short : (n : Net Module) (b : Byte) → length n.modules ≤ chain_most → length (lines (byte_step kind n b).replies) ≤ text_size
spoken_short n b most =
    let s = spoken n b in
    rw s.replies (lines_short (called_by n b).lengths (spoken_to kind n b) (omega (arith, s.count)) (λ i. lengths_are n b most refl i) (λ i. lengths_small n b most refl i))
