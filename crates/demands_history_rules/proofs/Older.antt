-- A tick with its list is the samples followed by the tick. Assumes nothing.
use mathlib.Core.Path.{◌≡◌, refl, sym, ap, ap₂, ◌∙◌}
use Prim.Native.Nat.{ℕ, zero, suc}
use native.Mathlib.Omega.{arith}
use mathlib.Core.List.{List, [], ◌∷◌, ◌++◌, map}
use lib.ListN.{length, length-map}
use mathlib.Core.Bool.{Bool, true, false, cond, ◌&&◌}
use Rattle.line_receiver.specs.declared.Receiver.{Receiver}
use Rattle.std.specs.Prelude.{Option, Some, None}
use Rattle.line_receiver.specs.Receive.{taken}
use Rattle.line_receiver.specs.Frames.{Byte, Frame, frame_in}
use Rattle.module_rules.specs.Touch.{named}
use Rattle.module_rules.specs.Kind.{Kind, executed, Lined}
use Rattle.chain_rules.specs.Chain.{Net, Step, handed, byte_step, timed, changed, Outcome, after, taking}
use Rattle.chain_rules.proofs.Bytes.{step-on, step_end}
use Rattle.types_rules.specs.Types.{Module, AnySample, kind, slots}
use Rattle.net_rules.specs.Record.{net_in}
use Rattle.net_rules.specs.Calls.{samples_for, tick_step}
use Rattle.net_rules.proofs.Listed.{length_samples}
use Rattle.api_rules.proofs.Kept.{holds}
use Rattle.demands_history_rules.specs.Events as New
use Rattle.demands_history_rules.specs.Events.{Event, run}
use Rattle.demands_history_rules.specs.Older.{Beside, sampled_by, ticked_beside, older_kind, Older, sent, sampled, ticked, older_event, older_run, plain, waiting_in, gathered, Together, sampled_from, SamplesThenTick, TheLater, AsBefore}
use Rattle.demands_history_rules.proofs.Along.{taking-along}

module _ {M S : Type 0} (K : Kind M S) where
  abbrev modules : List (Beside M S) → List M
  modules ws = map (λ (w : Beside M S). w.itself) ws

  abbrev waits : List (Beside M S) → List S
  waits ws = map (λ (w : Beside M S). w.waiting) ws

  -- on the line the sample beside a module is nothing
  lined : Lined (older_kind K) K (λ (w : Beside M S). w.itself)
  lined = record { address = λ w. refl; execute = λ f alone w. refl; reply = λ f w. refl }

  -- ---- what waits, and what the modules are, after each event

  sampled_waits : (x : S) (i : ℕ) (ws : List (Beside M S)) → waits (changed (sampled_by x) i ws) ≡ changed (λ w. x) i (waits ws)
  sampled_waits x i [] = refl
  sampled_waits x zero (w ∷ ws) = refl
  sampled_waits x (suc i) (w ∷ ws) = ap (λ (l : List S). w.waiting ∷ l) (sampled_waits x i ws)

  sampled_modules : (x : S) (i : ℕ) (ws : List (Beside M S)) → modules (changed (sampled_by x) i ws) ≡ modules ws
  sampled_modules x i [] = refl
  sampled_modules x zero (w ∷ ws) = refl
  sampled_modules x (suc i) (w ∷ ws) = ap (λ (l : List M). w.itself ∷ l) (sampled_modules x i ws)

  ticked-waits : (ws : List (Beside M S)) → waits (map (ticked_beside K) ws) ≡ waits ws
  ticked-waits [] = refl
  ticked-waits (w ∷ ws) = ap (λ (l : List S). w.waiting ∷ l) (ticked-waits ws)

  ticked-modules : (ws : List (Beside M S)) → modules (map (ticked_beside K) ws) ≡ timed K (waits ws) (modules ws)
  ticked-modules [] = refl
  ticked-modules (w ∷ ws) = ap (λ (l : List M). K.tick w.waiting w.itself ∷ l) (ticked-modules ws)

  -- frames leave what waits
  frame-waits : (f : Frame) (t : Bool) (ws : List (Beside M S)) → waits (handed (older_kind K) f t ws) ≡ waits ws
  frame-waits f t [] = refl
  frame-waits f t (w ∷ ws) =
      ap₂ ◌∷◌ (still (t && named f.address (K.address w.itself))) (frame-waits f (K.address w.itself).low ws)
    where
      still : (u : Bool) → (cond u (executed (older_kind K) f w) w).waiting ≡ w.waiting
      still true = refl
      still false = refl

  byte-waits : (n : Net (Beside M S)) (b : Byte) → waiting_in (byte_step (older_kind K) n b).net ≡ waiting_in n
  byte-waits n b = go (taken n.receiver b.value b.mark).answer refl
    where
      r : Receiver
      r = (taken n.receiver b.value b.mark).next

      go : (x : Option Bool) → taken n.receiver b.value b.mark ≡ record { next = r; answer = x } → waiting_in (byte_step (older_kind K) n b).net ≡ waiting_in n
      go None e = ap (λ (s : Step (Beside M S)). waiting_in s.net) (step-on (older_kind K) n b r e)
      go (Some d) e =
          ap (λ (s : Step (Beside M S)). waiting_in s.net) (step_end (older_kind K) n b r d e) ∙ frame-waits (frame_in n.receiver d) true n.modules

  bytes_wait : (bs : List Byte) (n : Net (Beside M S)) → waiting_in (taking (older_kind K) bs n).net ≡ waiting_in n
  bytes_wait [] n = refl
  bytes_wait (b ∷ bs) n = bytes_wait bs (byte_step (older_kind K) n b).net ∙ byte-waits n b

  -- ---- a history

  -- what is left of a history, from what waits and the modules there are
  abbrev on : List (Older S) → List S → Net M → Outcome M
  on h ws n = run K (gathered ws h) n

  pub together : Together K
  together [] n = refl
  together (sent bs ∷ h) n =
      let o : Outcome (Beside M S) = taking (older_kind K) bs n in
      ap (λ (p : Outcome M). after p.replies (on h (waiting_in n) p.net)) (taking-along (older_kind K) K (λ (w : Beside M S). w.itself) lined bs n)
      ∙ ap (λ (ws : List S). after o.replies (on h ws (plain o.net))) (sym (bytes_wait bs n))
      ∙ ap (after o.replies) (together h o.net)
  together (sampled place x ∷ h) n =
      let n' : Net (Beside M S) = (older_event K (sampled place x) n).net in
      ap₂ (λ (ws : List S) (ms : List M). on h ws (record { receiver = n.receiver; modules = ms }))
      (sym (sampled_waits x place n.modules)) (sym (sampled_modules x place n.modules))
      ∙ together h n'
  together (ticked ∷ h) n =
      let n' : Net (Beside M S) = (older_event K ticked n).net in
      ap₂ (λ (ws : List S) (ms : List M). on h ws (record { receiver = n.receiver; modules = ms }))
      (sym (ticked-waits n.modules)) (sym (ticked-modules n.modules))
      ∙ together h n'

  -- what waits after a history
  left_over_lem : List S → List (Older S) → List S
  left_over_lem ws [] = ws
  left_over_lem ws (sent bs ∷ h) = left_over_lem ws h
  left_over_lem ws (sampled place x ∷ h) = left_over_lem (changed (λ w. x) place ws) h
  left_over_lem ws (ticked ∷ h) = left_over_lem ws h

  waits-on : (h : List (Older S)) (n : Net (Beside M S)) → waiting_in (older_run K h n).net ≡ left_over_lem (waiting_in n) h
  unfolding left_over_lem
  waits-on [] n = refl
  waits-on (sent bs ∷ h) n = waits-on h (taking (older_kind K) bs n).net ∙ ap (λ (ws : List S). left_over_lem ws h) (bytes_wait bs n)
  waits-on (sampled place x ∷ h) n =
      waits-on h (older_event K (sampled place x) n).net ∙ ap (λ (ws : List S). left_over_lem ws h) (sampled_waits x place n.modules)
  waits-on (ticked ∷ h) n = waits-on h (older_event K ticked n).net ∙ ap (λ (ws : List S). left_over_lem ws h) (ticked-waits n.modules)

  -- ---- samples for all places, and then a tick

  -- what waits after samples for the places from i on
  over : ℕ → List S → List S → List S
  over i [] ws = ws
  over i (x ∷ xs) ws = over (suc i) xs (changed (λ w. x) i ws)

  over_behind : (i : ℕ) (xs : List S) (w : S) (ws : List S) → over (suc i) xs (w ∷ ws) ≡ w ∷ over i xs ws
  unfolding over
  over_behind i [] w ws = refl
  over_behind i (x ∷ xs) w ws = over_behind (suc i) xs w (changed (λ w. x) i ws)

  over_all : (xs ws : List S) → length xs ≡ length ws → over 0 xs ws ≡ xs
  unfolding over
  over_all [] [] e = refl
  over_all [] (w ∷ ws) e = absurd (omega arith)
  over_all (x ∷ xs) [] e = absurd (omega arith)
  over_all (x ∷ xs) (w ∷ ws) e = over_behind 0 xs x ws ∙ ap (λ (l : List S). x ∷ l) (over_all xs ws (omega arith))

  gathered_over : (i : ℕ) (xs ws : List S) (h : List (Older S)) → gathered ws (sampled_from i xs ++ h) ≡ gathered (over i xs ws) h
  unfolding over
  gathered_over i [] ws h = refl
  gathered_over i (x ∷ xs) ws h = gathered_over (suc i) xs (changed (λ w. x) i ws) h

  left_over : (i : ℕ) (xs ws : List S) (h : List (Older S)) → left_over_lem ws (sampled_from i xs ++ h) ≡ left_over_lem (over i xs ws) h
  unfolding over left_over_lem
  left_over i [] ws h = refl
  left_over i (x ∷ xs) ws h = left_over (suc i) xs (changed (λ w. x) i ws) h

  pub samples_then_tick : SamplesThenTick K
  unfolding left_over_lem
  samples_then_tick n xs e =
      let h : List (Older S) = sampled_from 0 xs ++ ticked ∷ [] in
      let all : over 0 xs (waiting_in n) ≡ xs = over_all xs (waiting_in n) (e ∙ sym (length-map n.modules (λ (w : Beside M S). w.waiting))) in (
        ap (λ (ws : List S). (run K (New.ticked ws ∷ []) (plain n)).net) (sym all)
            ∙ ap (λ (es : List (Event (List S))). (run K es (plain n)).net) (sym (gathered_over 0 xs (waiting_in n) (ticked ∷ [])))
            ∙ ap (λ (o : Outcome M). o.net) (together h n),
        waits-on h n ∙ left_over 0 xs (waiting_in n) (ticked ∷ []) ∙ all,
      )

-- the later of two samples
changed_twice : {S : Type 0} (x y : S) (i : ℕ) (ws : List S) → changed (λ w. y) i (changed (λ w. x) i ws) ≡ changed (λ w. y) i ws
changed_twice x y i [] = refl
changed_twice x y zero (w ∷ ws) = refl
changed_twice {S} x y (suc i) (w ∷ ws) = ap (λ (l : List S). w ∷ l) (changed_twice x y i ws)

the_later : (S : Type 0) → TheLater S
the_later S ws place x y h = ap (λ (ws : List S). gathered ws h) (changed_twice x y place ws)

pub as_before : AsBefore
as_before = record {
  together = λ M S K. together K;
  samples_then_tick = λ M S K. samples_then_tick K;
  the_later = the_later;
  by_call = λ net samples n b s p e.
      let xs : List AnySample = samples_for (net_in slots net) samples in
      let l : length (plain n).modules ≡ length n.modules = length-map n.modules (λ (w : Beside Module AnySample). w.itself) in
      let m : length (plain n).modules ≡ length (net_in slots net).modules = ap (λ (n : Net Module). length n.modules) e in
      holds.tick net samples s b p
      ∙ ap (tick_step xs) (sym e)
      ∙ (samples_then_tick kind n xs (length_samples (length (net_in slots net).modules) samples ∙ sym m ∙ l)).0;
}
