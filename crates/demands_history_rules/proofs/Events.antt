-- What one event makes of each place. Assumes nothing.
use mathlib.Core.Path.{◌≡◌, refl, sym, ap, fun_ext, ◌∙◌}
use mathlib.Core.List.{List, [], ◌∷◌, append-nil}
use mathlib.Core.Bool.{Bool, true, false, cond, true≢false}
use mathlib.Core.Option.{Option, some, none, map}
use Prim.Native.Nat.{ℕ, zero, suc, ◌<◌}
use native.Mathlib.Omega.{arith}
use lib.ListN.{length, get_elem?}
use Rattle.line_receiver.specs.declared.Receiver.{Receiver}
use Rattle.std.specs.Prelude as Std
use Rattle.std.specs.Prelude.{Some, None}
use Rattle.line_receiver.specs.Receive.{idle, taken}
use Rattle.line_receiver.specs.Frames.{Byte, Frame, Reading, waiting, ended, reads, frame_in}
use Rattle.line_receiver.proofs.Holding.{reads_on, reads_end}
use Rattle.line_receiver.proofs.Marked.{marked}
use Rattle.module_rules.specs.Kind.{Kind, executed, replied}
use Rattle.chain_rules.specs.Chain.{Net, Reply, Step, replies_of, once, addresses, touched, handed, said, replies_from, Outcome, after, taking}
use Rattle.chain_rules.specs.Promises.{handed_in}
use Rattle.chain_rules.proofs.Touching.{touched_before}
use Rattle.chain_rules.proofs.Timing.{own_sample}
use Rattle.chain_rules.proofs.Replies.{replies_are}
use Rattle.chain_rules.proofs.Bytes.{step-on, step_end}
use Rattle.demands_history_rules.specs.Events.{Event, sent, ticked, event, Reads, FramesAreWhole, of_frame, own_tick, met, alone, alone_replies}

pub frames_are_whole : FramesAreWhole
frames_are_whole address command ds last h e = (_, marked address command ds last h e)

-- one event is a whole frame, or no frame
abbrev pub WholeEvent : {T : Type 0} → Event T → Type 0
WholeEvent (sent bs) = (f : Frame) × Reads bs f
WholeEvent (ticked x) = Unit {0}

pub of_frame_lem : {A : Type 0} (z : A) (g : Frame → A) (bs : List Byte) (f : Frame) → Reads bs f → of_frame z g bs ≡ g f
of_frame_lem {A} z g bs f e = ap (λ (x : Reading). elim x as (λ (y : Reading). A) [ waiting r ↦ z | ended f r rest ↦ g f ]) e

-- where there is one there are as many
pub below : {M : Type 0} (ms : List M) (i : ℕ) (m : M) → get_elem? ms i ≡ some m → i < length ms
below [] i m e = let z : ◌≡◌ {A = Bool} true false = cc in absurd (true≢false z)
below (x ∷ ms) zero m e = omega arith
below (x ∷ ms) (suc i) m e = let h = below ms i m e in omega arith

-- what is said by the module at a place, if there is one
abbrev pub from_some : {M A : Type 0} → (M → List A) → Option M → List A
from_some g none = []
from_some g (some m) = g m

pub from_nothing : {M A : Type 0} (x : Option M) → [] ≡ from_some {A = A} (λ (m : M). []) x
from_nothing none = refl
from_nothing (some m) = refl

module _ {M S : Type 0} (K : Kind M S) where
  -- a network after a frame, and what was replied
  abbrev pub framed : Frame → Receiver → List M → Outcome M
  framed f r ms = record { net = record { receiver = r; modules = handed K f true ms }; replies = replies_from 0 (said K f true ms) }

  -- the bytes of a whole frame hand that frame along the chain
  pub whole : (bs : List Byte) (n : Net M) (f : Frame) (r : Receiver) → reads bs n.receiver ≡ ended f r [] → taking K bs n ≡ framed f r n.modules
  unfolding reads
  whole [] n f r e = let z : ◌≡◌ {A = ℕ} 0 1 = cc in absurd (omega arith)
  whole (b ∷ bs) n f r e =
      go (λ n. whole bs n f r) (taken n.receiver b.value b.mark).answer (taken n.receiver b.value b.mark).next refl
    where
      more : Step M → Outcome M
      more s = after s.replies (taking K bs s.net)

      go : ((n : Net M) → reads bs n.receiver ≡ ended f r [] → taking K bs n ≡ framed f r n.modules)
          → (a : Std.Option Bool) (r' : Receiver) → taken n.receiver b.value b.mark ≡ record { next = r'; answer = a }
          → taking K (b ∷ bs) n ≡ framed f r n.modules
      go ih None r' q =
          ap more (step-on K n b r' q) ∙ ih (record { receiver = r'; modules = n.modules }) (sym (reads_on b bs n.receiver r' q) ∙ e)
      go ih (Some d) r' q =
          let g : ended (frame_in n.receiver d) r' bs ≡ ended f r [] = sym (reads_end b bs n.receiver r' d q) ∙ e in
          let gf : frame_in n.receiver d ≡ f = cc in
          let gr : r' ≡ r = cc in
          let gb : bs ≡ [] = cc in
          ap more (step_end K n b r' d q)
          ∙ rw (gb, gf, gr)
          (ap (λ (l : List Reply). record { net = record { receiver = r; modules = handed K f true n.modules }; replies = l }) (append-nil _))

  -- what an event makes of the module at place i, of its replies and of the receiver
  module _ (n : Net M) (idling : n.receiver ≡ idle) where
    pub whole-event : (bs : List Byte) (f : Frame) → Reads bs f → taking K bs n ≡ framed f idle n.modules
    whole-event bs f q = whole bs n f idle (rw idling q)

    pub event-idle : (e : Event (List S)) → WholeEvent e → (event K e n).net.receiver ≡ idle
    event-idle (sent bs) w = ap (λ (o : Outcome M). o.net.receiver) (whole-event bs w.0 w.1)
    event-idle (ticked xs) w = idling

    -- whether the frame of some bytes touches place i
    abbrev touching : ℕ → Frame → Bool
    touching i f = touched true f.address (addresses K n.modules) i

    met-frame : (bs : List Byte) (f : Frame) (i : ℕ) → Reads bs f → met {S = S} (addresses K n.modules) i (sent bs) ≡ cond (touching i f) (sent bs ∷ []) []
    met-frame bs f i q = of_frame_lem [] (λ f. cond (touching i f) (sent bs ∷ []) []) bs f q

    -- of a module that meets a frame, or does not
    alone-frame : (t : Bool) (bs : List Byte) (f : Frame) (m : M) → Reads bs f → cond t (executed K f m) m ≡ alone K m (cond t (sent bs ∷ []) [])
    alone-frame true bs f m q = sym (of_frame_lem m (λ f. executed K f m) bs f q)
    alone-frame false bs f m q = refl

    replies-frame : (t : Bool) (bs : List Byte) (f : Frame) (m : M) → Reads bs f → once (cond t (replied K f m) []) ≡ alone_replies K m (cond t (sent bs ∷ []) [])
    replies-frame true bs f m q = sym (append-nil _ ∙ of_frame_lem [] (λ f. once (replied K f m)) bs f q)
    replies-frame false bs f m q = refl

    -- of one that meets a tick with its own sample, or has none
    alone-tick : (o : Option S) (m : M) → handed_in K o m ≡ alone K m (own_tick o)
    alone-tick none m = refl
    alone-tick (some x) m = refl

    replies-tick : (o : Option S) (x : Option M) → [] ≡ from_some (λ (m : M). alone_replies K m (own_tick o)) x
    replies-tick none x = from_nothing x
    replies-tick (some y) none = refl
    replies-tick (some y) (some m) = refl

    pub event-at : (e : Event (List S)) (i : ℕ) → WholeEvent e
        → get_elem? (event K e n).net.modules i ≡ map (λ (m : M). alone K m (met (addresses K n.modules) i e)) (get_elem? n.modules i)
    event-at (sent bs) i (f, q) =
        ap (λ (o : Outcome M). get_elem? o.net.modules i) (whole-event bs f q)
        ∙ touched_before K f n.modules i
        ∙ ap (λ (g : M → M). map g (get_elem? n.modules i)) (fun_ext (λ m. alone-frame (touching i f) bs f m q))
        ∙ ap (λ (es : List (Event S)). map (λ (m : M). alone K m es) (get_elem? n.modules i)) (sym (met-frame bs f i q))
    event-at (ticked xs) i w =
        (own_sample K xs n.modules).0 i
        ∙ ap (λ (g : M → M). map g (get_elem? n.modules i)) (fun_ext (λ m. alone-tick (get_elem? xs i) m))

    pub event-replies : (e : Event (List S)) (i : ℕ) → WholeEvent e
        → replies_of i (event K e n).replies ≡ from_some (λ (m : M). alone_replies K m (met (addresses K n.modules) i e)) (get_elem? n.modules i)
    event-replies (sent bs) i (f, q) =
        ap (λ (o : Outcome M). replies_of i o.replies) (whole-event bs f q)
        ∙ go (get_elem? n.modules i) refl
        ∙ ap (λ (es : List (Event S)). from_some (λ (m : M). alone_replies K m es) (get_elem? n.modules i)) (sym (met-frame bs f i q))
      where
        go : (x : Option M) → get_elem? n.modules i ≡ x
            → replies_of i (replies_from 0 (said K f true n.modules)) ≡ from_some (λ (m : M). alone_replies K m (cond (touching i f) (sent bs ∷ []) [])) x
        go none e = (replies_are K).1 f n.modules i e
        go (some m) e = (replies_are K).0 f n.modules i m e ∙ replies-frame (touching i f) bs f m q
    event-replies (ticked xs) i w = replies-tick (get_elem? xs i) (get_elem? n.modules i)
