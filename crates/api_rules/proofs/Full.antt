-- Buffers, computed. InOneBuffer: two frames, each judged when it ends. Reached: 32 servos with one address, all of whose replies have all items, fill a
-- buffer's room. Assumes nothing.
use mathlib.Core.Path.{◌≡◌, refl, ap, ap₂, ◌∙◌}
use mathlib.Core.List.{List, [], ◌∷◌, ◌++◌, append-nil}
use mathlib.Core.Bool.{true, false}
use Prim.Native.Nat.{ℕ, zero, suc, ◌*◌, ◌≤◌}
use native.Mathlib.Omega.{arith}
use native.Mathlib.Nat.{mul-suc}
use lib.ListN.{length, get_or, replicate, length-append, length-replicate}
use Rattle.line_receiver.specs.declared.Receiver.{Receiver}
use Rattle.line_receiver.specs.Receive.{idle, taken}
use Rattle.line_receiver.specs.Frames.{Byte, Frame, clean, ends}
use Rattle.line_receiver.proofs.Kept.{kept, fresh}
use Rattle.base_layout.proofs.Laws.{bytes_append, bytes_one}
use Rattle.module_rules.specs.Touch.{named}
use Rattle.module_rules.specs.Commands.{asked}
use Rattle.module_rules.specs.Report.{report, reply_of}
use Rattle.module_rules.specs.Rules.{request, execute, reply}
use Rattle.inout_rules.specs.Asks as Inout
use Rattle.servo_rules.specs.Asks.{own}
use Rattle.servo_rules.specs.Answers.{done, status_of, numbers_of}
use Rattle.module_rules.specs.Kind.{Kind, executed, replied}
use Rattle.chain_rules.specs.Chain.{Net, Step, Outcome, Reply, flat, join, handed, said, replies_from, byte_step, after, taking}
use Rattle.chain_rules.proofs.Bytes.{step_end}
use Rattle.chain_rules.proofs.Replies.{flat-join}
use Rattle.chain_rules.proofs.Taking.{parts, flat_append}
use Rattle.types_rules.specs.Types.{Module, kind, slots, powered}
use Rattle.types_rules.proofs.Laws.{lawful}
use Rattle.types_rules.proofs.Kept.{preserves, powered_fits}
use Rattle.net_rules.specs.Record.{record_size, stored}
use Rattle.net_rules.specs.Calls.{byte_of, bytes_of}
use Rattle.net_rules.specs.Promises.{Each, SoundNet}
use Rattle.net_rules.proofs.Stored.{back}
use Rattle.net_rules.proofs.Powered.{bytes_zeros}
use Rattle.api_rules.specs.Promises.{no_ops, unmarked, Reached, InOneBuffer}
use Rattle.api_rules.proofs.Bounds.{buffer_bounds}
use Rattle.api_rules.proofs.Room.{buffer_written_lem}

pub in_one_buffer : InOneBuffer
unfolding byte_step taken asked request execute own Inout.own reply reply_of report numbers_of status_of done
in_one_buffer = record { addressed = refl; replied = refl }

-- ---- any module that a frame leaves as it is, so many times over

every : {M : Type 0} (P : M → Type 0) (k : ℕ) (m : M) → P m → Each P (replicate k m)
every P zero m p = tt
every P (suc k) m p = (p, every P k m p)

module _ {M S : Type 0} (K : Kind M S) (f : Frame) (m : M) (touches : named f.address (K.address m) ≡ true) (low : (K.address m).low ≡ true) where
  all_handed : executed K f m ≡ m → (k : ℕ) → handed K f true (replicate k m) ≡ replicate k m
  all_handed e zero = refl
  all_handed e (suc k) = rw (touches, low) (ap₂ (λ (x : M) (xs : List M). x ∷ xs) e (all_handed e k))

  all_said : (k : ℕ) → length (join (said K f true (replicate k m))) ≡ length (replied K f m) * k
  all_said zero = omega arith
  all_said (suc k) =
      rw (touches, low) (omega (arith, length-append (replied K f m) (join (said K f true (replicate k m))), all_said k, mul-suc (length (replied K f m)) k))

-- ---- the servo

abbrev frame : ℕ → ℕ → List ℕ → Frame
frame address code ds = record { address = address; code = code; content = ds; damaged = false }

-- Set Address 1, Define Status with all items, No Op
addressed : Module
addressed = executed kind (frame 0 1 (1 ∷ 255 ∷ [])) (powered 0)

telling : Module
telling = executed kind (frame 1 2 (255 ∷ [])) addressed

no_op : Frame
no_op = frame 1 14 []

-- a No Op finds it, leaves it as it is and draws a reply of 19 bytes
touches : named 1 (kind.address telling) ≡ true
unfolding telling addressed asked request execute
touches = refl

low : (kind.address telling).low ≡ true
unfolding telling addressed asked request execute
low = refl

stays : executed kind no_op telling ≡ telling
unfolding no_op telling addressed asked request execute own
stays = refl

tells : length (replied kind no_op telling) ≡ 19
unfolding no_op telling addressed asked request execute own reply reply_of report numbers_of status_of done
tells = refl

telling_fits : slots.fits telling
unfolding telling addressed
telling_fits =
    preserves.execute (frame 1 2 (255 ∷ [])) _ addressed (bytes_one 255 (omega arith))
    (preserves.execute (frame 0 1 (1 ∷ 255 ∷ [])) _ (powered 0) (bytes_append (1 ∷ []) (255 ∷ []) (bytes_one 1 (omega arith)) (bytes_one 255 (omega arith))) (powered_fits 0))

-- ---- 32 of them

-- all but the last byte of a No Op for them are in
held : Receiver
held = record { bytes = replicate 15 0; address = 1; command = 0x0E; fill = 3; marked = false }

chain : Receiver → Net Module
chain r = record { receiver = r; modules = replicate 32 telling }

-- with a No Op's last byte and the first three of the next, all reply and stand as before
four : List Byte
four = clean (0x0F ∷ 0xAA ∷ 0x01 ∷ 0x0E ∷ [])

replies : List Reply
replies = replies_from 0 (said kind no_op true (replicate 32 telling))

one_round : taking kind four (chain held) ≡ record { net = chain held; replies = replies }
unfolding four chain held replies taken byte_step no_op
one_round =
    ap (more (clean (0xAA ∷ 0x01 ∷ 0x0E ∷ []))) (step_end kind (chain held) (byte_of 0x0F false) idle false refl)
    ∙ ap (λ (ms : List Module). after replies (taking kind (clean (0xAA ∷ 0x01 ∷ 0x0E ∷ [])) (record { receiver = idle; modules = ms })))
    (all_handed kind no_op telling touches low stays 32)
    ∙ ap (λ (o : Outcome Module). after replies o) begun
    ∙ ap (λ (l : List Reply). record { net = chain held; replies = l }) (append-nil replies)
  where
    more : List Byte → Step Module → Outcome Module
    more bs s = after s.replies (taking kind bs s.net)

    begun : taking kind (clean (0xAA ∷ 0x01 ∷ 0x0E ∷ [])) (chain idle) ≡ record { net = chain held; replies = [] }
    begun = refl

all_reply : length (flat replies) ≡ 608
unfolding replies no_op
all_reply =
    ap length (flat-join 0 (said kind no_op true (replicate 32 telling)))
    ∙ all_said kind no_op telling touches low 32
    ∙ ap (λ (k : ℕ). k * 32) tells

-- so many times over
rounds : ℕ → List Byte
rounds zero = []
rounds (suc k) = four ++ rounds k

filling : (k : ℕ) → length (flat (taking kind (rounds k) (chain held)).replies) ≡ 608 * k
unfolding rounds
filling zero = omega arith
filling (suc k) =
    ap (λ (o : Outcome Module). length (flat o.replies)) (parts kind four (rounds k) (chain held))
    ∙ ap (λ (o : Outcome Module). length (flat (o.replies ++ (taking kind (rounds k) o.net).replies))) one_round
    ∙ ap length (flat_append replies (taking kind (rounds k) (chain held)).replies)
    ∙ omega (arith, length-append (flat replies) (flat (taking kind (rounds k) (chain held)).replies), all_reply, filling k)

these : bytes_of no_ops unmarked ≡ rounds 16
unfolding rounds four
these = refl

sixteen : ends (rounds 16) held ≡ 16
unfolding rounds four held ends taken
sixteen = refl

-- ---- their record

sound : SoundNet slots (chain held)
unfolding chain held taken
sound = record {
  receiver = kept _ 0x0E false (kept _ 0x01 false (kept idle 0xAA false fresh (omega arith)) (omega arith)) (omega arith);
  some = omega arith;
  most = omega arith;
  each = every slots.fits 32 telling telling_fits;
}

record_of_lem : List ℕ
record_of_lem = stored slots (chain held) (replicate record_size 0)

pub reached : Reached
unfolding record_of_lem chain
reached =
    let p = back lawful (chain held) (replicate record_size 0) sound (length-replicate {A = ℕ} record_size 0) (bytes_zeros record_size) in
    let lent : length {A = ℕ} (replicate 9728 0) ≡ 9728 = length-replicate {A = ℕ} 9728 0 in
    let passes = (buffer_bounds record_of_lem no_ops unmarked (replicate 9728 0) p.1).done refl (omega arith) (λ i l. zeros 64 i) (omega arith) in (
      record_of_lem,
      record {
        valid = (p.1, p.2);
        chain = ap (λ (n : Net Module). length n.modules) p.0;
        lent = lent;
        passes = passes;
        frames = ap₂ (λ (bs : List Byte) (n : Net Module). ends bs n.receiver) these p.0 ∙ sixteen;
        filled =
            (buffer_written_lem record_of_lem no_ops unmarked (replicate 9728 0)).put.reported passes
            ∙ ap₂ (λ (bs : List Byte) (n : Net Module). length (flat (taking kind bs n).replies)) these p.0
            ∙ filling 16;
      },
    )
  where
    zeros : (k i : ℕ) → get_or (replicate k 0) i 0 ≤ 1
    zeros zero i = omega arith
    zeros (suc k) zero = omega arith
    zeros (suc k) (suc i) = zeros k i
