-- A sound network stays sound: under a byte and a tick. Assumes nothing.
use mathlib.Core.Path.{◌≡◌, refl}
use mathlib.Core.List.{List, [], ◌∷◌}
use mathlib.Core.Bool.{Bool, true, false, cond, ◌&&◌}
use Prim.Native.Nat.{ℕ, suc}
use native.Mathlib.Omega.{arith}
use lib.Dec.{eqb}
use lib.ListN.{length}
use Rattle.base_layout.specs.Bytes.{Bytes}
use Rattle.line_receiver.specs.declared.Receiver.{Receiver}
use Rattle.line_receiver.specs.Receive.{taken, count}
use Rattle.line_receiver.specs.Frames.{Frame, frame_in}
use Rattle.line_receiver.specs.Promises.{Sound}
use Rattle.line_receiver.proofs.Kept.{kept}
use Rattle.module_rules.specs.Touch.{individually, named}
use Rattle.module_rules.specs.Kind.{Kind, executed}
use Rattle.chain_rules.specs.Chain.{Net, handed, byte_step, taking, timed}
use Rattle.chain_rules.proofs.Along.{length-handed}
use Rattle.chain_rules.proofs.Timing.{length-timed}
use Rattle.chain_rules.proofs.Bytes.{step_either}
use Rattle.module_rules.specs.Slots.{Preserves, Slots}
use Rattle.net_rules.specs.Calls.{byte_of, bytes_of}
use Rattle.net_rules.specs.Promises.{Each, SoundNet, KeptByByte, KeptByTick}
use Rattle.base_layout.proofs.Laws.{bytes_take}

-- the data of a frame are bytes
pub content_bytes : (r : Receiver) (d : Bool) → Sound r → Bytes (frame_in r d).content
content_bytes r d h = bytes_take (count r) r.bytes h.bytes_small

module _ {M S : Type 0} (K : Kind M S) (L : Slots M) (Good : S → Type 0) (p : Preserves K L Good) where
  handed_fit : (ms : List M) (f : Frame) (t : Bool) → Bytes f.content → Each L.fits ms → Each L.fits (handed K f t ms)
  handed_fit [] f t b h = tt
  handed_fit (m ∷ ms) f t b h = (go (t && named f.address (K.address m)), handed_fit ms f (K.address m).low b h.1)
    where
      go : (u : Bool) → L.fits (cond u (executed K f m) m)
      go true = p.execute f (individually f.address (K.address m)) m b h.0
      go false = h.0

  timed_fit : (xs : List S) (ms : List M) → Each Good xs → Each L.fits ms → Each L.fits (timed K xs ms)
  timed_fit xs [] g h = tt
  timed_fit [] (m ∷ ms) g h = h
  timed_fit (x ∷ xs) (m ∷ ms) g h = (p.tick x m g.0 h.0, timed_fit xs ms g.1 h.1)

-- as many modules as before
same_count : {M : Type 0} {L : Slots M} (n : Net M) (r : Receiver) (ms : List M) → SoundNet L n → Sound r → length ms ≡ length n.modules
    → Each L.fits ms → SoundNet L (record { receiver = r; modules = ms })
same_count n r ms h s e q =
    let a = h.some in
    let b = h.most in
    record { receiver = s; some = omega arith; most = omega arith; each = q }

module _ {M S : Type 0} (K : Kind M S) (L : Slots M) (Good : S → Type 0) where
  pub kept_by_byte : KeptByByte K L Good
  kept_by_byte p n b h v =
      let sound : Sound (taken n.receiver b.value b.mark).next = kept n.receiver b.value b.mark h.receiver v in
      step_either K (λ s. SoundNet L s.net) n b
      (λ r e. same_count n r n.modules h (rw e at sound) refl h.each)
      (λ r d e.
      let f : Frame = frame_in n.receiver d in
      same_count n r (handed K f true n.modules) h (rw e at sound) (length-handed K f true n.modules)
      (handed_fit K L Good p n.modules f true (content_bytes n.receiver d h.receiver) h.each))

  pub kept_by_bytes : Preserves K L Good → (xs ms : List ℕ) (n : Net M) → Bytes xs → SoundNet L n → SoundNet L (taking K (bytes_of xs ms) n).net
  kept_by_bytes p [] ms n b h = h
  kept_by_bytes p (x ∷ xs) [] n b h = h
  kept_by_bytes p (x ∷ xs) (m ∷ ms) n b h =
      kept_by_bytes p xs ms (byte_step K n (byte_of x (eqb m 1))).net (λ i. b (suc i)) (kept_by_byte p n (byte_of x (eqb m 1)) h (b 0))

  pub kept_by_tick : KeptByTick K L Good
  kept_by_tick p n xs h g =
      same_count n n.receiver (timed K xs n.modules) h h.receiver (length-timed K xs n.modules)
      (timed_fit K L Good p xs n.modules g h.each)
