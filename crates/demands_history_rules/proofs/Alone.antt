-- Each alone. Assumes nothing.
use mathlib.Core.Path.{◌≡◌, refl, sym, ap, ap₂, ◌∙◌}
use mathlib.Core.List.{List, [], ◌∷◌, ◌++◌, append_assoc}
use mathlib.Core.Option.{Option, some, none, map}
use Prim.Native.Nat.{ℕ}
use lib.ListN.{get_elem?}
use Rattle.line_receiver.specs.Receive.{idle}
use Rattle.line_receiver.specs.Frames.{Frame}
use Rattle.module_rules.specs.Kind.{Kind}
use Rattle.chain_rules.specs.Chain.{Net, replies_of, addresses}
use Rattle.chain_rules.proofs.Replies.{replies_append}
use Rattle.chain_rules.proofs.Timing.{map_same}
use Rattle.demands_history_rules.specs.Events.{Event, sent, ticked, event, run, Frames, met, met_in_turn, own, own_reply, alone, alone_replies}
use Rattle.demands_history_rules.proofs.Events.{WholeEvent, from_some, from_nothing, event-idle, event-at, event-replies}

-- the first event of whole events is whole, and so are those after it
pub first-whole : {T : Type 0} (P : Frame → Type 0) (e : Event T) (h : List (Event T)) → Frames P (e ∷ h) → WholeEvent e
first-whole P (sent bs) h w = (w.0.0, w.0.1)
first-whole P (ticked x) h w = tt

pub later_frames : {T : Type 0} (P : Frame → Type 0) (e : Event T) (h : List (Event T)) → Frames P (e ∷ h) → Frames P h
later_frames P (sent bs) h w = w.1
later_frames P (ticked x) h w = w

-- some events and then others
module _ {M S : Type 0} (K : Kind M S) where
  alone_then : (m : M) (es fs : List (Event S)) → alone K m (es ++ fs) ≡ alone K (alone K m es) fs
  alone_then m [] fs = refl
  alone_then m (e ∷ es) fs = alone_then (own K m e) es fs

  replies_then : (m : M) (es fs : List (Event S)) → alone_replies K m (es ++ fs) ≡ alone_replies K m es ++ alone_replies K (alone K m es) fs
  replies_then m [] fs = refl
  replies_then m (e ∷ es) fs =
      ap (λ (l : List (List ℕ)). own_reply K m e ++ l) (replies_then (own K m e) es fs)
      ∙ sym (append_assoc (own_reply K m e) (alone_replies K (own K m e) es) (alone_replies K (alone K (own K m e) es) fs))

module _ {M S : Type 0} (K : Kind M S) (P : Frame → Type 0) where
  -- at a place that may hold a module or none, for frames of any sort
  pub alone_at : (h : List (Event (List S))) (n : Net M) (i : ℕ) → n.receiver ≡ idle → Frames P h
      → (get_elem? (run K h n).net.modules i ≡ map (λ (m : M). alone K m (met_in_turn K i h n)) (get_elem? n.modules i))
      × (replies_of i (run K h n).replies ≡ from_some (λ (m : M). alone_replies K m (met_in_turn K i h n)) (get_elem? n.modules i))
  alone_at [] n i z w = (sym (map_same (get_elem? n.modules i)), from_nothing (get_elem? n.modules i))
  alone_at (e ∷ h) n i z w =
      let one : WholeEvent e = first-whole P e h w in
      let n' : Net M = (event K e n).net in
      let ih = alone_at h n' i (event-idle K n z e one) (later_frames P e h w) in
      let es : List (Event S) = met (addresses K n.modules) i e in
      let rest : List (Event S) = met_in_turn K i h n' in
      let x : Option M = get_elem? n.modules i in
      let a : get_elem? n'.modules i ≡ map (λ (m : M). alone K m es) x = event-at K n z e i one in (
        ih.0 ∙ ap (λ (y : Option M). map (λ (m : M). alone K m rest) y) a ∙ join es rest x,
        replies_append i (event K e n).replies (run K h n').replies
            ∙ ap₂ (λ (a b : List (List ℕ)). a ++ b)
            (event-replies K n z e i one)
            (ih.1 ∙ ap (λ (y : Option M). from_some (λ (m : M). alone_replies K m rest) y) a)
            ∙ joined es rest x,
      )
    where
      join : (es rest : List (Event S)) (x : Option M)
          → map (λ (m : M). alone K m rest) (map (λ (m : M). alone K m es) x) ≡ map (λ (m : M). alone K m (es ++ rest)) x
      join es rest none = refl
      join es rest (some m) = ap some (sym (alone_then K m es rest))

      joined : (es rest : List (Event S)) (x : Option M)
          → from_some (λ (m : M). alone_replies K m es) x ++ from_some (λ (m : M). alone_replies K m rest) (map (λ (m : M). alone K m es) x)
          ≡ from_some (λ (m : M). alone_replies K m (es ++ rest)) x
      joined es rest none = refl
      joined es rest (some m) = sym (replies_then K m es rest)
