-- No more replies than the module types allow, however many bytes. Assumes nothing.
use mathlib.Core.Path.{ap}
use mathlib.Core.List.{List, [], ◌∷◌}
use mathlib.Core.Bool.{true}
use Prim.Native.Nat.{ℕ, ◌*◌, ◌≤◌}
use native.Mathlib.Omega.{arith}
use lib.ListN.{length, length-append}
use Rattle.line_receiver.specs.Receive.{taken}
use Rattle.line_receiver.specs.Frames.{Byte, Frame, frame_in, ended_by, ends}
use Rattle.module_rules.specs.Kind.{Kind, replied}
use Rattle.chain_rules.specs.Chain.{Net, flat, said, byte_step, taking}
use Rattle.chain_rules.specs.Promises.{FewReplies}
use Rattle.chain_rules.proofs.Bytes.{step_either, step-receiver}
use Rattle.chain_rules.proofs.Along.{said_short, length-stepped}
use Rattle.chain_rules.proofs.Replies.{flat-join}
use Rattle.chain_rules.proofs.Taking.{flat_append}

module _ {M S : Type 0} (K : Kind M S) where
  -- where all modules together can say no more than c, whatever frame comes
  module _ (k c : ℕ) (short : (f : Frame) (m : M) → length (replied K f m) ≤ k) where
    -- the replies to one byte
    pub step-few : (n : Net M) (b : Byte) → k * length n.modules ≤ c
        → length (flat (byte_step K n b).replies) ≤ c * ended_by (taken n.receiver b.value b.mark).answer
    step-few n b h =
        step_either K (λ s. length (flat s.replies) ≤ c * ended_by (taken n.receiver b.value b.mark).answer) n b
        (λ r e. omega arith)
        (λ r d e. let f : Frame = frame_in n.receiver d in rw (e, flat-join 0 (said K f true n.modules)) (omega (arith, said_short K f k (short f) true n.modules)))

    -- to several
    pub few-within : (bs : List Byte) (n : Net M) → k * length n.modules ≤ c → length (flat (taking K bs n).replies) ≤ c * ends bs n.receiver
    unfolding ends
    few-within [] n h = omega arith
    few-within (b ∷ bs) n h =
        let n' : Net M = (byte_step K n b).net in
        let rest : length (flat (taking K bs n').replies) ≤ c * ends bs (taken n.receiver b.value b.mark).next =
        rw (← step-receiver K n b) (few-within bs n' (rw (length-stepped K n b) h)) in
        omega (
          arith,
          step-few n b h,
          ap length (flat_append (byte_step K n b).replies (taking K bs n').replies),
          length-append (flat (byte_step K n b).replies) (flat (taking K bs n').replies),
        )

  pub few_replies : FewReplies K
  few_replies k short bs n = few-within k (k * length n.modules) short bs n (omega arith)
