-- What a byte makes of a network. Assumes nothing.
use mathlib.Core.Path.{◌≡◌, refl, sym, ap, subst⁻¹}
use mathlib.Core.List.{[]}
use mathlib.Core.Bool.{Bool}
use Rattle.line_receiver.specs.declared.Receiver.{Receiver}
use Rattle.line_receiver.specs.declared.Received.{Received}
use Rattle.std.specs.Prelude.{Option, Some, None}
use Rattle.line_receiver.specs.Receive.{waits, taken, number_of}
use Rattle.line_receiver.specs.Frames.{Byte, frame_in}
use Rattle.line_receiver.specs.Promises.{Numbered}
use Rattle.line_receiver.proofs.Numbers.{numbers}
use Rattle.module_rules.specs.Kind.{Kind}
use Rattle.chain_rules.specs.Chain.{Net, Step, frame_step, byte_step}
use Rattle.chain_rules.specs.Promises.{ByteTaken, NumberTold}

module _ {M S : Type 0} (K : Kind M S) where
  pub step-on : (n : Net M) (b : Byte) (r : Receiver) → taken n.receiver b.value b.mark ≡ waits r
      → byte_step K n b ≡ record { number = 0; net = record { receiver = r; modules = n.modules }; replies = [] }
  unfolding byte_step
  step-on n b r e = rw (e, byte_step) (rw e)

  pub step_end : (n : Net M) (b : Byte) (r : Receiver) (d : Bool) → taken n.receiver b.value b.mark ≡ record { next = r; answer = Some d }
      → byte_step K n b ≡ frame_step K (frame_in n.receiver d) r n.modules
  unfolding byte_step
  step_end n b r d e = rw (e, byte_step) (rw e)

  pub byte_taken : ByteTaken K
  byte_taken = (step-on, step_end)

  -- what holds of the step in both cases: the byte ends nothing, or it ends a frame
  pub step_either : (P : Step M → Type 0) (n : Net M) (b : Byte)
      → ((r : Receiver) → taken n.receiver b.value b.mark ≡ waits r
      → P (record { number = 0; net = record { receiver = r; modules = n.modules }; replies = [] }))
      → ((r : Receiver) (d : Bool) → taken n.receiver b.value b.mark ≡ record { next = r; answer = Some d }
      → P (frame_step K (frame_in n.receiver d) r n.modules))
      → P (byte_step K n b)
  step_either P n b on end = go (taken n.receiver b.value b.mark).answer refl
    where
      r : Receiver
      r = (taken n.receiver b.value b.mark).next

      go : (a : Option Bool) → taken n.receiver b.value b.mark ≡ record { next = r; answer = a } → P (byte_step K n b)
      go None e = subst⁻¹ P (step-on n b r e) (on r e)
      go (Some d) e = subst⁻¹ P (step_end n b r d e) (end r d e)

  -- the number and the receiver of the step, by the byte alone
  pub number_is : (n : Net M) (b : Byte) → (byte_step K n b).number ≡ number_of (taken n.receiver b.value b.mark).answer
  number_is n b =
      step_either (λ s. s.number ≡ number_of (taken n.receiver b.value b.mark).answer) n b
      (λ r e. ap (λ (t : Received). number_of t.answer) (sym e))
      (λ r d e. ap (λ (t : Received). number_of t.answer) (sym e))

  pub step-receiver : (n : Net M) (b : Byte) → (byte_step K n b).net.receiver ≡ (taken n.receiver b.value b.mark).next
  step-receiver n b =
      step_either (λ s. s.net.receiver ≡ (taken n.receiver b.value b.mark).next) n b
      (λ r e. ap (λ (t : Received). t.next) (sym e))
      (λ r d e. ap (λ (t : Received). t.next) (sym e))

  pub number_told : NumberTold K
  number_told n b =
      subst⁻¹ (Numbered (taken n.receiver b.value b.mark).answer) (number_is n b) (numbers (taken n.receiver b.value b.mark).answer)
