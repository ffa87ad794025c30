-- Networks whose modules are of one kind and, along h, of another go through any history alike. Assumes nothing.
use mathlib.Core.Path.{◌≡◌, refl, sym, ap, ap₂, ◌∙◌}
use mathlib.Core.List.{List, [], ◌∷◌, map}
use mathlib.Core.Bool.{Bool, true, false, cond, ◌&&◌}
use Prim.Native.Nat.{ℕ}
use Rattle.line_receiver.specs.declared.Receiver.{Receiver}
use Rattle.std.specs.Prelude.{Option, Some, None}
use Rattle.line_receiver.specs.Receive.{taken, number_of}
use Rattle.line_receiver.specs.Frames.{Byte, Frame, frame_in}
use Rattle.module_rules.specs.declared.Address.{Address}
use Rattle.module_rules.specs.Touch.{individually, named, speaks}
use Rattle.module_rules.specs.Kind.{Kind, executed, replied, Lined, Along}
use Rattle.chain_rules.specs.Chain.{Net, Step, handed, said, replies_from, byte_step, timed, Outcome, after, taking}
use Rattle.chain_rules.proofs.Bytes.{step-on, step_end}
use Rattle.demands_history_rules.specs.Events.{Event, sent, ticked, event, run, each, RunsAlong}

-- an outcome without replies
abbrev pub silently : {M : Type 0} → Receiver → List M → Outcome M
silently r ms = record { net = record { receiver = r; modules = ms }; replies = [] }

-- h of one or the other
apart : {M N : Type 0} (h : M → N) (t : Bool) (x y : M) → cond t (h x) (h y) ≡ h (cond t x y)
apart h true x y = refl
apart h false x y = refl

-- on the line
module _ {M N S T : Type 0} (K : Kind M S) (L : Kind N T) (h : M → N) (a : Lined K L h) where
  module _ (f : Frame) where
    executed-along : (m : M) → executed L f (h m) ≡ h (executed K f m)
    executed-along m = ap (λ (w : Address). L.execute f (individually f.address w) (h m)) (a.address m) ∙ a.execute f _ m

    replied-along : (m : M) → replied L f (h m) ≡ replied K f m
    replied-along m =
        ap₂ (λ (w : Address) (r : List ℕ). cond (speaks f.address w) r []) (a.address m)
        (ap (L.reply f) (executed-along m) ∙ a.reply f (executed K f m))

    handed-along : (t : Bool) (ms : List M) → handed L f t (map h ms) ≡ map h (handed K f t ms)
    handed-along t [] = refl
    handed-along t (m ∷ ms) =
        ap₂ ◌∷◌
        (ap₂ (λ (w : Address) (x : N). cond (t && named f.address w) x (h m)) (a.address m) (executed-along m) ∙ apart h (t && named f.address (K.address m)) (executed K f m) m)
        (ap (λ (w : Address). handed L f w.low (map h ms)) (a.address m) ∙ handed-along (K.address m).low ms)

    said-along : (t : Bool) (ms : List M) → said L f t (map h ms) ≡ said K f t ms
    said-along t [] = refl
    said-along t (m ∷ ms) =
        ap₂ ◌∷◌
        (ap₂ (λ (w : Address) (r : List ℕ). cond (t && named f.address w) r []) (a.address m) (replied-along m))
        (ap (λ (w : Address). said L f w.low (map h ms)) (a.address m) ∙ said-along (K.address m).low ms)

  -- what a step comes to with h of each module
  abbrev stepped : Step M → Step N
  stepped s = record { number = s.number; net = each h s.net; replies = s.replies }

  step-along : (n : Net M) (b : Byte) → byte_step L (each h n) b ≡ stepped (byte_step K n b)
  step-along n b = go (taken n.receiver b.value b.mark).answer refl
    where
      r : Receiver
      r = (taken n.receiver b.value b.mark).next

      go : (x : Option Bool) → taken n.receiver b.value b.mark ≡ record { next = r; answer = x } → byte_step L (each h n) b ≡ stepped (byte_step K n b)
      go None e = step-on L (each h n) b r e ∙ sym (ap stepped (step-on K n b r e))
      go (Some d) e =
          let f : Frame = frame_in n.receiver d in
          step_end L (each h n) b r d e
          ∙ ap₂ (λ (ms : List N) (ws : List (List ℕ)). record { number = number_of (Some d); net = record { receiver = r; modules = ms }; replies = replies_from 0 ws })
          (handed-along f true n.modules) (said-along f true n.modules)
          ∙ sym (ap stepped (step_end K n b r d e))

  -- what an outcome comes to with h of each module
  abbrev pub come : Outcome M → Outcome N
  come o = record { net = each h o.net; replies = o.replies }

  pub taking-along : (bs : List Byte) (n : Net M) → taking L bs (each h n) ≡ come (taking K bs n)
  taking-along [] n = refl
  taking-along (b ∷ bs) n =
      ap (λ (s : Step N). after s.replies (taking L bs s.net)) (step-along n b)
      ∙ ap (after (byte_step K n b).replies) (taking-along bs (byte_step K n b).net)

-- and through ticks
module _ {M S : Type 0} (K L : Kind M S) (h : M → M) (a : Along K L h) where
  timed-along : (xs : List S) (ms : List M) → timed L xs (map h ms) ≡ map h (timed K xs ms)
  timed-along xs [] = refl
  timed-along [] (m ∷ ms) = refl
  timed-along (x ∷ xs) (m ∷ ms) = ap₂ ◌∷◌ (a.tick x m) (timed-along xs ms)

  event-along : (e : Event (List S)) (n : Net M) → event L e (each h n) ≡ come K L h a.line (event K e n)
  event-along (sent bs) n = taking-along K L h a.line bs n
  event-along (ticked xs) n = ap (silently n.receiver) (timed-along xs n.modules)

  through : (es : List (Event (List S))) (n : Net M) → run L es (each h n) ≡ come K L h a.line (run K es n)
  through [] n = refl
  through (e ∷ es) n =
      ap (λ (o : Outcome M). after o.replies (run L es o.net)) (event-along e n)
      ∙ ap (after (event K e n).replies) (through es (event K e n).net)

pub runs_along : {M S : Type 0} (K L : Kind M S) (h : M → M) → RunsAlong K L h
runs_along K L h a es n = through K L h a es n
