-- What a call makes of the module at a place, whatever its type t, by cases. Assumes nothing.
use mathlib.Core.Path.{◌≡◌, refl, sym, ap, subst, ◌∙◌}
use mathlib.Core.Logic.{◌⊎◌, inl, inr}
use mathlib.Core.List.{List, [], ◌∷◌, map}
use mathlib.Core.Bool.{Bool, true, false, cond, true≢false, false≢true}
use mathlib.Core.Option
use mathlib.Core.Option.{Option, some, none}
use Prim.Native.Nat.{ℕ, zero, suc}
use lib.ListN.{get_elem?}
use lib.Dec.{eqb}
use Rattle.line_receiver.specs.declared.Receiver.{Receiver}
use Rattle.line_receiver.specs.declared.Received.{Received}
use Rattle.std.specs.Prelude as Std
use Rattle.std.specs.Prelude.{Some, None}
use Rattle.line_receiver.specs.Receive.{taken}
use Rattle.line_receiver.specs.Frames.{Frame, frame_in}
use Rattle.module_rules.specs.Touch.{individually}
use Rattle.module_rules.specs.Kind.{executed}
use Rattle.module_rules.specs.Rules.{execute}
use Rattle.chain_rules.specs.Chain.{Net, Step, addresses, touched, byte_step}
use Rattle.chain_rules.proofs.Bytes.{step-on, step_end}
use Rattle.chain_rules.proofs.Touching.{touched_before}
use Rattle.types_rules.specs.Table.{ModuleType, Of, rules_of, slots_of}
use Rattle.types_rules.specs.Types.{Module, kind, type_in, slots, powered}
use Rattle.types_rules.proofs.Laws.{lawful}
use Rattle.net_rules.specs.Record.{net_in}
use Rattle.net_rules.specs.Calls.{byte_of}
use Rattle.net_rules.specs.Promises.{Each}
use Rattle.net_rules.proofs.Stored as Stored
use Rattle.api_rules.specs.Table.{setup_table, byte_table, tick_table}
use Rattle.api_rules.specs.Calls.{setup_record}
use Rattle.api_rules.specs.Promises.{ValidRecord, Refuses, Passes}
use Rattle.api_rules.proofs.Kept.{holds}
use Rattle.api_rules.proofs.TickBounds.{own_ten}
use Rattle.api_rules.proofs.Refused.{refused, done}
use Rattle.demands_history_rules.specs.Calls.{Call, byte, tick, Handed, refusals, leaves}
use Rattle.demands_history_rules.proofs.Calls.{passes?, refused_leaves, passed-leaves}
use Rattle.demands_rules.specs.Place.{AtOf, sample_at, in_time}
use Rattle.net_rules.proofs.Types.{type_of}
use Rattle.demands_rules.proofs.Types.{call_types, own_same, of_type_lem}

-- the call ends no frame that touches place i
abbrev pub Silent : List ℕ → ℕ → Call → Type 0
Silent net i (byte mark x room) =
    (d : Bool) → Passes (byte_table net mark room) → (taken (net_in slots net).receiver x (eqb mark 1)).answer ≡ Some d
    → touched true (net_in slots net).receiver.address (addresses kind (net_in slots net).modules) i ≡ true → ⊥
Silent net i (tick samples) = Unit {0}

refused_silent : (net : List ℕ) (i : ℕ) (c : Call) → Refuses (refusals net c) → Silent net i c
refused_silent net i (byte mark x room) r = λ d p e t. r p
refused_silent net i (tick samples) r = tt

map_at : {M A : Type 0} (g : M → A) (ms : List M) (i : ℕ) → get_elem? (map g ms) i ≡ Option.map g (get_elem? ms i)
map_at g [] i = refl
map_at g (m ∷ ms) zero = refl
map_at g (m ∷ ms) (suc i) = map_at g ms i

module _ (t : ModuleType) where
  pub same_place : (ms : List Module) (i : ℕ) (m k : Of t) → get_elem? ms i ≡ some (t, m) → get_elem? ms i ≡ some (t, k) → m ≡ k
  same_place ms i m k e q =
      let z : ◌≡◌ {A = Option Module} (some (t, m)) (some (t, k)) = sym e ∙ q in
      own_same t m k cc

  -- every module of a valid record fits its slot
  each_at : (ms : List Module) (i : ℕ) (m : Of t) → Each slots.fits ms → get_elem? ms i ≡ some (t, m) → (slots_of t).fits m
  each_at [] i m h e = let z : ◌≡◌ {A = Bool} true false = cc in absurd (true≢false z)
  each_at (x ∷ ms) zero m h e = let z : x ≡ (t, m) = cc in subst slots.fits z h.0
  each_at (x ∷ ms) (suc i) m h e = each_at ms i m h.1 e

  pub fits_at : (net : List ℕ) (i : ℕ) (m : Of t) → ValidRecord net → AtOf t net i m → (slots_of t).fits m
  fits_at net i m v e = each_at (net_in slots net).modules i m (Stored.holds lawful net v.1 v.0).each e

  -- what a call can make of the module m at place i of a record's network
  pub data Made (net : List ℕ) (i : ℕ) (m : Of t) : Call → Of t → Type 0 where
    same : (c : Call) → Silent net i c → in_time t net i c m ≡ m → Made net i m c m
    framed : (mark x : ℕ) (room : List ℕ) (d : Bool)
        → Passes (byte_table net mark room)
        → (taken (net_in slots net).receiver x (eqb mark 1)).answer ≡ Some d
        → touched true (net_in slots net).receiver.address (addresses kind (net_in slots net).modules) i ≡ true
        → Made net i m (byte mark x room) (execute (rules_of t) (frame_in (net_in slots net).receiver d) (individually (net_in slots net).receiver.address ((rules_of t).station m).address) m)
    timed : (samples : List ℕ)
        → Passes (tick_table net samples)
        → in_time t net i (tick samples) m ≡ (rules_of t).tick (sample_at t samples i) m
        → Made net i m (tick samples) ((rules_of t).tick (sample_at t samples i) m)

  -- what a byte that is not refused makes of the module at place i
  Makes : List ℕ → ℕ → Of t → ℕ → ℕ → List ℕ → Type 0
  Makes net i m mark x room =
      (k : Of t) × (get_elem? (byte_step kind (net_in slots net) (byte_of x (eqb mark 1))).net.modules i ≡ some (t, k)) × Made net i m (byte mark x room) k

  refused_time : (net : List ℕ) (i : ℕ) (m : Of t) (c : Call) → Refuses (refusals net c) → in_time t net i c m ≡ m
  refused_time net i m (byte mark x room) r = refl
  refused_time net i m (tick samples) r = sym (refused (tick_table net samples) m _ refl r)

  module _ (net : List ℕ) (i : ℕ) (m : Of t) (before : AtOf t net i m) where
    abbrev n : Net Module
    n = net_in slots net

    -- a byte
    after_frame : (mark x : ℕ) (room : List ℕ) → Passes (byte_table net mark room) → (d : Bool) (r : Receiver) → taken n.receiver x (eqb mark 1) ≡ record { next = r; answer = Some d }
        → (u : Bool) → touched true n.receiver.address (addresses kind n.modules) i ≡ u
        → Makes net i m mark x room
    unfolding Makes
    after_frame mark x room goes d r e u q =
        let f : Frame = frame_in n.receiver d in
        let p : get_elem? (byte_step kind n (byte_of x (eqb mark 1))).net.modules i ≡ some (cond u (executed kind f (t, m)) (t, m)) =
        ap (λ (s : Step Module). get_elem? s.net.modules i) (step_end kind n (byte_of x (eqb mark 1)) r d e)
        ∙ touched_before kind f n.modules i
        ∙ ap (λ (o : Option Module). Option.map (λ (m : Module). cond (touched true f.address (addresses kind n.modules) i) (executed kind f m) m) o) before
        ∙ ap (λ (u : Bool). some (cond u (executed kind f (t, m)) (t, m))) q in
        by u q p
      where
        by : (u : Bool) → touched true n.receiver.address (addresses kind n.modules) i ≡ u
            → get_elem? (byte_step kind n (byte_of x (eqb mark 1))).net.modules i ≡ some (cond u (executed kind (frame_in n.receiver d) (t, m)) (t, m))
            → Makes net i m mark x room
        by true q p = (_, p, framed mark x room d goes (ap (λ (r : Received). r.answer) e) q)
        by false q p = (m, p, same (byte mark x room) (λ d g a u. false≢true (sym q ∙ u)) refl)

    after-byte : (mark x : ℕ) (room : List ℕ) → Passes (byte_table net mark room) → (a : Std.Option Bool) (r : Receiver) → taken n.receiver x (eqb mark 1) ≡ record { next = r; answer = a }
        → Makes net i m mark x room
    unfolding Makes
    after-byte mark x room goes None r e =
        (m, ap (λ (s : Step Module). get_elem? s.net.modules i) (step-on kind n (byte_of x (eqb mark 1)) r e) ∙ before, same (byte mark x room) (λ d g a u. none d (sym (ap (λ (r : Received). r.answer) e) ∙ a)) refl)
      where
        none : (d : Bool) → None ≡ Some d → ⊥
        none d q = let z : ◌≡◌ {A = Bool} true false = cc in true≢false z
    after-byte mark x room goes (Some d) r e = after_frame mark x room goes d r e (touched true n.receiver.address (addresses kind n.modules) i) refl

    makes : (c : Call) → Handed c → ValidRecord net → Passes (refusals net c) → (k : Of t) × AtOf t (leaves net c) i k × Made net i m c k
    unfolding Makes
    makes (byte mark x room) h v goes =
        let (k, q, d) = after-byte mark x room goes (taken n.receiver x (eqb mark 1)).answer (taken n.receiver x (eqb mark 1)).next refl in
        (k, ap (λ (n : Net Module). get_elem? n.modules i) (passed-leaves net (byte mark x room) h v goes) ∙ q, d)
    makes (tick samples) h v goes =
        ((rules_of t).tick (sample_at t samples i) m, own_ten net samples i t m v.1 h goes before, timed samples goes (sym (done (tick_table net samples) m _ refl goes)))

  -- the module that a call leaves, refused or not
  pub made : (net : List ℕ) (c : Call) (i : ℕ) (m : Of t) → Handed c → ValidRecord net → AtOf t net i m
      → (k : Of t) × AtOf t (leaves net c) i k × Made net i m c k
  made net c i m h v e = at (passes? (refusals net c))
    where
      at : Passes (refusals net c) ⊎ Refuses (refusals net c) → (k : Of t) × AtOf t (leaves net c) i k × Made net i m c k
      at (inl p) = makes net i m e c h v p
      at (inr r) = (m, ap (λ (s : List ℕ). get_elem? (net_in slots s).modules i) (refused_leaves net c r) ∙ e, same c (refused_silent net i c r) (refused_time net i m c r))

  -- where a module of type t is after a call one was before it
  pub was_there : (net : List ℕ) (c : Call) (i : ℕ) (k : Of t) → Handed c → ValidRecord net → AtOf t (leaves net c) i k → (m : Of t) × AtOf t net i m
  was_there net c i k h v e =
      at (get_elem? (net_in slots net).modules i) refl
      (sym (map_at type_of (net_in slots net).modules i)
      ∙ ap (λ (ts : List ModuleType). get_elem? ts i) (sym (call_types net c h v))
      ∙ map_at type_of (net_in slots (leaves net c)).modules i
      ∙ ap (Option.map type_of) e)
    where
      at : (o : Option Module) → get_elem? (net_in slots net).modules i ≡ o → Option.map type_of o ≡ some t → (m : Of t) × AtOf t net i m
      at none q z = let y : ◌≡◌ {A = Bool} true false = cc in absurd (true≢false y)
      at (some x) q z =
          let (m, y) = of_type_lem t x cc in
          (m, q ∙ ap some y)

  -- ---- after setup every module is as at power-up

  powered_is : (types : List ℕ) (i : ℕ) (k : Of t) → get_elem? (map powered types) i ≡ some (t, k) → (rules_of t).started ≡ k
  powered_is [] i k e = let z : ◌≡◌ {A = Bool} true false = cc in absurd (true≢false z)
  powered_is (n ∷ ns) zero k e = at (type_in n) cc
    where
      at : (u : ModuleType) → ◌≡◌ {A = Module} (u, (rules_of u).started) (t, k) → (rules_of t).started ≡ k
      at u z = own_same t (rules_of t).started k (ap (λ (u : ModuleType). (u, (rules_of u).started)) (sym (ap type_of z)) ∙ z)
  powered_is (n ∷ ns) (suc i) k e = powered_is ns i k e

  pub set_up_is : (net types : List ℕ) (i : ℕ) (k : Of t) → Passes (setup_table net types) → AtOf t (setup_record net types) i k → (rules_of t).started ≡ k
  set_up_is net types i k p e = powered_is types i k (ap (λ (n : Net Module). get_elem? n.modules i) (sym (holds.setup net types p)) ∙ e)
