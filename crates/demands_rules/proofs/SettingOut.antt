-- Demand 1 over any module type, through the exported calls. Assumes nothing.
use mathlib.Core.Path.{◌≡◌, refl, sym, ap, subst, ◌∙◌}
use mathlib.Core.Logic.{◌⊎◌, inl, inr}
use mathlib.Core.List.{List, [], ◌∷◌}
use mathlib.Core.Bool.{Bool, true, false}
use Prim.Native.Nat.{ℕ}
use native.Mathlib.Nat.{le_refl}
use lib.Dec.{eqb}
use lib.ListN.{length}
use lib.Seq.{take-length}
use Rattle.std.specs.Prelude.{Some}
use Rattle.line_receiver.specs.Receive.{taken}
use Rattle.line_receiver.specs.Frames.{Frame, frame_in}
use Rattle.module_rules.specs.Touch.{individually}
use Rattle.chain_rules.specs.Chain.{Net, addresses, touched}
use Rattle.types_rules.specs.Table.{ModuleType, Of, rules_of, slots_of}
use Rattle.types_rules.specs.Types.{Module, kind, slots}
use Rattle.net_rules.specs.Record.{net_in}
use Rattle.net_rules.specs.Calls.{byte_of}
use Rattle.api_rules.specs.Calls.{setup_record}
use Rattle.api_rules.specs.Promises.{ValidRecord}
use Rattle.api_rules.proofs.Kept.{kept}
use Rattle.demands_history_rules.specs.Calls.{Call, byte, leaves, left_by}
use Rattle.demands_history_rules.proofs.Calls.{call_kept}
use Rattle.demands_rules.specs.Place.{AtOf, sample_at}
use Rattle.demands_rules.specs.SettingOut.{LineStarts, CallStarts, StartedBy, SettingOut, Never, NeverFromSetup}
use Rattle.demands_rules.proofs.Making.{same_place, fits_at, Made, same, framed, timed, made, set_up_is}
use Rattle.demands_rules.proofs.Placing.{stood_before}

module _ (t : ModuleType) where
  -- a frame that starts the module that it touches was undamaged
  pub line_starts : (Such : Frame → Bool → Of t → Type 0) → ((f : Frame) (alone : Bool) (m : Of t) → Such f alone m → f.damaged ≡ false)
      → (n : Net Module) (i : ℕ) (m : Of t) (mark x : ℕ) (d : Bool)
      → (taken n.receiver x (eqb mark 1)).answer ≡ Some d
      → touched true n.receiver.address (addresses kind n.modules) i ≡ true
      → Such (frame_in n.receiver d) (individually n.receiver.address ((rules_of t).station m).address) m
      → LineStarts t Such n (byte_of x (eqb mark 1)) i m
  line_starts Such whole n i m mark x d e u s =
      let z : d ≡ false = whole (frame_in n.receiver d) _ m s in
      record {
        ended = e ∙ ap Some z;
        touches = u;
        starts = subst (λ (d : Bool). Such (frame_in n.receiver d) (individually n.receiver.address ((rules_of t).station m).address) m) z s;
      }

  module _ (Rests : Of t → Type 0) (Starts : Frame → Bool → Of t → Type 0) (o : SettingOut t Rests Starts) where
    -- at rest a module stays, unless the call starts it
    pub stays : (net : List ℕ) (c : Call) (i : ℕ) (m k : Of t) → (slots_of t).fits m → Rests m → Made t net i m c k → CallStarts t Starts net i m c ⊎ Rests k
    stays net _ i m _ h r (same c _ _) = inr r
    stays net _ i m _ h r (framed mark x room d goes a u) = at (o.frame (frame_in (net_in slots net).receiver d) _ m h r)
      where
        at : {A : Type 0} → Starts (frame_in (net_in slots net).receiver d) (individually (net_in slots net).receiver.address ((rules_of t).station m).address) m ⊎ A
            → CallStarts t Starts net i m (byte mark x room) ⊎ A
        at (inl s) = inl (goes, line_starts Starts o.undamaged (net_in slots net) i m mark x d a u s)
        at (inr z) = inr z
    stays net _ i m _ h r (timed samples _ _) = inr (o.tick (sample_at t samples i) m h r)

    -- a start in what comes after the first call
    later-start : (c : Call) (cs : List Call) (net : List ℕ) (i : ℕ) → StartedBy t Starts cs (leaves net c) i → StartedBy t Starts (c ∷ cs) net i
    later-start c cs net i s = record {
      before = c ∷ s.before;
      call = s.call;
      later = s.later;
      stood = s.stood;
      split = ap (λ (l : List Call). c ∷ l) s.split;
      here = s.here;
      starts = s.starts;
    }

    pub never : Never t Rests Starts
    never net [] i m k v h e q r n = absurd (n (subst Rests (same_place t (net_in slots net).modules i m k e q) r))
    never net (c ∷ cs) i m k v h e q r n =
        let (m', e', d) = made t net c i m h.0 v e in
        at (stays net c i m m' (fits_at t net i m v e) r d)
        (λ z. never (leaves net c) cs i m' k (call_kept net c h.0 v) h.1 e' q z n)
      where
        at : {A : Type 0} → CallStarts t Starts net i m c ⊎ A → (A → StartedBy t Starts cs (leaves net c) i) → StartedBy t Starts (c ∷ cs) net i
        at (inl s) g = record { before = []; call = c; later = cs; stood = m; split = refl; here = e; starts = s }
        at (inr z) g = later-start c cs net i (g z)

    pub never_from_setup : NeverFromSetup t Rests Starts
    never_from_setup net types cs i k p h e n =
        let r : List ℕ = setup_record net types in
        let v : ValidRecord r = kept.setup net types p in
        let (m, q) = stood_before t r cs i (length cs) k v h (le_refl (length cs)) (subst (λ (ds : List Call). AtOf t (left_by ds r) i k) (sym (take-length cs)) e) in
        never r cs i m k v h q e (subst Rests (set_up_is t net types i m p q) o.power) n
