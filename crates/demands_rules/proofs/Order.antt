-- Order does not matter, for any chain and for this product's. Assumes nothing.
use mathlib.Core.Path.{◌≡◌, refl, sym, ap, ap₂, ◌∙◌}
use mathlib.Core.List.{List, [], ◌∷◌, ◌++◌}
use mathlib.Core.Bool.{Bool, true, false, cond, ◌&&◌}
use mathlib.Core.Option.{Option, some, none, map}
use mathlib.Core.Logic.{inl, inr}
use Prim.Native.Nat.{ℕ, suc, ◌<◌}
use lib.ListN.{length, get_elem?}
use Rattle.line_receiver.specs.declared.Receiver.{Receiver}
use Rattle.line_receiver.specs.Receive.{idle}
use Rattle.line_receiver.specs.Frames.{Byte, Frame}
use Rattle.module_rules.specs.declared.Address.{Address}
use Rattle.module_rules.specs.Touch.{named}
use Rattle.module_rules.specs.Kind.{Kind, executed}
use Rattle.chain_rules.specs.Chain.{Net, replies_of, addresses, touched, handed, timed, Outcome}
use Rattle.module_rules.specs.declared.Station.{Station}
use Rattle.types_rules.specs.Types.{Module, AnySample, kind, slots}
use Rattle.types_rules.proofs.Promised.{every_type}
use Rattle.types_rules.proofs.Kept.{given-address}
use Rattle.net_rules.specs.Record.{net_in, stored}
use Rattle.demands_history_rules.specs.Events.{Event, sent, ticked, event, run, Reads, Harmless, Ordinary, singly, own_tick, met, met_by, met_in_turn, alone, alone_replies}
use Rattle.demands_history_rules.specs.Calls.{Call, tick, done_by}
use Rattle.demands_rules.specs.Order.{EachAlone, MeetsTheSame, EndsTheSame, KeepsAddress, OrderDoesNotMatter, OrderOfAll, OfAnyKind, Product, ByCalls, OwnTicks}
use Rattle.demands_history_rules.proofs.Events.{of_frame_lem, below, from_some, whole-event, event-idle}
use Rattle.demands_history_rules.proofs.Alone.{first-whole, later_frames, alone_at}
use Rattle.demands_history_rules.proofs.Singly.{run-singly}
use Rattle.demands_rules.proofs.Calls.{any_calls, refused_is_no_step}

same_places : {M : Type 0} (a b : List M) → ((i : ℕ) → get_elem? a i ≡ get_elem? b i) → a ≡ b
same_places [] [] h = refl
same_places [] (y ∷ b) h = let n = h 0 in cc
same_places (x ∷ a) [] h = let n = h 0 in cc
same_places (x ∷ a) (y ∷ b) h = let n = h 0 in let r = same_places a b (λ i. h (suc i)) in cc

pub each_alone : {M S : Type 0} (K : Kind M S) → EachAlone K
each_alone K n h i m z w e = let a = alone_at K (λ f. Unit {0}) h n i z w in (rw e at a.0, rw e at a.1)

module _ {M S : Type 0} (K : Kind M S) (keeps : KeepsAddress K) where
  -- the addresses after a harmless frame, and after a tick
  pub kept_handed : (f : Frame) (t : Bool) (ms : List M) → Harmless f → addresses K (handed K f t ms) ≡ addresses K ms
  kept_handed f t [] p = refl
  kept_handed f t (m ∷ ms) p =
      ap₂ (λ (w : Address) (ws : List Address). w ∷ ws) (one (t && named f.address (K.address m))) (kept_handed f (K.address m).low ms p)
    where
      one : (t : Bool) → K.address (cond t (executed K f m) m) ≡ K.address m
      one true = keeps.execute f _ m p
      one false = refl

  kept_timed : (xs : List S) (ms : List M) → addresses K (timed K xs ms) ≡ addresses K ms
  kept_timed xs [] = refl
  kept_timed [] (m ∷ ms) = refl
  kept_timed (x ∷ xs) (m ∷ ms) = rw (keeps.tick x m, kept_timed xs ms)

  kept_event : (e : Event (List S)) (h : List (Event (List S))) (n : Net M) → n.receiver ≡ idle → Ordinary (e ∷ h)
      → addresses K (event K e n).net.modules ≡ addresses K n.modules
  kept_event (sent bs) h n z o =
      ap (λ (x : Outcome M). addresses K x.net.modules) (whole-event K n z bs o.0.0 o.0.1) ∙ kept_handed o.0.0 true n.modules o.0.2
  kept_event (ticked xs) h n z o = kept_timed xs n.modules

  -- what is met in turn is what is met by the addresses at the start
  met_at_start : (h : List (Event (List S))) (n : Net M) (i : ℕ) → n.receiver ≡ idle → Ordinary h → met_in_turn K i h n ≡ met_by (addresses K n.modules) i h
  met_at_start [] n i z o = refl
  met_at_start (e ∷ h) n i z o =
      let ih = met_at_start h (event K e n).net i (event-idle K n z e (first-whole Harmless e h o)) (later_frames Harmless e h o) in
      let s = kept_event e h n z o in
      rw (ih, s)

  pub order_does_not_matter : OrderDoesNotMatter K
  order_does_not_matter n h₁ h₂ i z o₁ o₂ e =
      let a = alone_at K Harmless h₁ n i z o₁ in
      let b = alone_at K Harmless h₂ n i z o₂ in
      let same : met_in_turn K i h₁ n ≡ met_in_turn K i h₂ n = met_at_start h₁ n i z o₁ ∙ e ∙ sym (met_at_start h₂ n i z o₂) in
      let x : Option M = get_elem? n.modules i in
      record {
        same_record = a.0 ∙ ap (λ (l : List (Event S)). map (λ (m : M). alone K m l) x) same ∙ sym b.0;
        same_replies = a.1 ∙ ap (λ (l : List (Event S)). from_some (λ (m : M). alone_replies K m l) x) same ∙ sym b.1;
      }

  run-idle : (h : List (Event (List S))) (n : Net M) → n.receiver ≡ idle → Ordinary h → (run K h n).net.receiver ≡ idle
  run-idle [] n z o = z
  run-idle (e ∷ h) n z o = run-idle h (event K e n).net (event-idle K n z e (first-whole Harmless e h o)) (later_frames Harmless e h o)

  -- a place with a module is below the chain's length, and one without stays without
  everywhere : (n : Net M) (h₁ h₂ : List (Event (List S))) → n.receiver ≡ idle → Ordinary h₁ → Ordinary h₂
      → ((i : ℕ) → i < length n.modules → MeetsTheSame K n h₁ h₂ i)
      → (i : ℕ) → EndsTheSame (run K h₁ n) (run K h₂ n) i
  everywhere n h₁ h₂ z o₁ o₂ e i = go (get_elem? n.modules i) refl
    where
      go : (x : Option M) → get_elem? n.modules i ≡ x → EndsTheSame (run K h₁ n) (run K h₂ n) i
      go none p =
          let a = alone_at K Harmless h₁ n i z o₁ in
          let b = alone_at K Harmless h₂ n i z o₂ in
          record { same_record = a.0 ∙ rw p refl ∙ sym b.0; same_replies = a.1 ∙ rw p refl ∙ sym b.1 }
      go (some m) p = order_does_not_matter n h₁ h₂ i z o₁ o₂ (e i (below n.modules i m p))

  pub order_of_all : OrderOfAll K
  order_of_all n h₁ h₂ z o₁ o₂ e =
      let r = run-idle h₁ n z o₁ ∙ sym (run-idle h₂ n z o₂) in
      let each = everywhere n h₁ h₂ z o₁ o₂ e in
      let m = same_places (run K h₁ n).net.modules (run K h₂ n).net.modules (λ i. (each i).same_record) in
      (ap₂ (λ (r : Receiver) (ms : List M). record { receiver = r; modules = ms }) r m, λ i. (each i).same_replies)

pub of_any_kind : OfAnyKind
of_any_kind M S K = (each_alone K, λ keeps. (order_does_not_matter K keeps, order_of_all K keeps))

-- a module of every type keeps its address, and so does a chain of all of them
pub keeps_address : KeepsAddress kind
keeps_address = record {
  execute = stays;
  tick = λ x m. ap (λ (s : Station). s.address) (given-address m.0 x m.1);
}
  where
    stays : (f : Frame) (t : Bool) (m : Module) → Harmless f → kind.address (kind.execute f t m) ≡ kind.address m
    stays f t m (inl d) = (every_type m.0).address.damaged f t m.1 d
    stays f t m (inr p) = (every_type m.0).address.frame f t m.1 p.0 p.1

pub product : Product
product = (keeps_address, each_alone kind, order_does_not_matter kind keeps_address, order_of_all kind keeps_address)

-- what calls make of a record's network is what the history that they do makes of it
outcome_of : (net : List ℕ) (cs : List Call) (h : List (Event (List AnySample))) → done_by cs net ≡ singly h
    → run kind (done_by cs net) (net_in slots net) ≡ run kind h (net_in slots net)
outcome_of net cs h e = ap (λ (l : List (Event (List AnySample))). run kind l (net_in slots net)) e ∙ run-singly kind h (net_in slots net)

pub by_calls : ByCalls
by_calls net cs₁ cs₂ h₁ h₂ v a₁ a₂ z o₁ o₂ d₁ d₂ same =
    let q = order_of_all kind keeps_address (net_in slots net) h₁ h₂ z o₁ o₂ same in
    let x = outcome_of net cs₁ h₁ d₁ in
    let y = outcome_of net cs₂ h₂ d₂ in (
      (any_calls net cs₁ v a₁).bytes
          ∙ ap (λ (n : Net Module). stored slots n net) (ap (λ (o : Outcome Module). o.net) x ∙ q.0 ∙ sym (ap (λ (o : Outcome Module). o.net) y))
          ∙ sym (any_calls net cs₂ v a₂).bytes,
      λ i.
          ap (λ (o : Outcome Module). replies_of i o.replies) x
          ∙ q.1 i
          ∙ sym (ap (λ (o : Outcome Module). replies_of i o.replies) y),
    )

-- ---- ticks among them

-- a frame that touches nobody is met by nobody
met_nothing : (ws : List Address) (bs : List Byte) (f : Frame) (i : ℕ) → Reads bs f → touched true f.address ws i ≡ false → met {S = AnySample} ws i (sent bs) ≡ []
met_nothing ws bs f i r t = of_frame_lem [] (λ g. cond (touched true g.address ws i) (sent bs ∷ []) []) bs f r ∙ rw t refl

pub own_ticks : OwnTicks
own_ticks = record {
  elsewhere = λ n xs ys i z e. order_does_not_matter kind keeps_address n (ticked xs ∷ []) (ticked ys ∷ []) i z tt tt
      (ap (λ (o : Option AnySample). own_tick o ++ []) e);
  refused = λ net bad good r. (refused_is_no_step net [] (tick good ∷ []) (tick bad) r).0;
  nobody = λ n bs f xs z r p untouched.
      let ws : List Address = addresses kind n.modules in
      order_of_all kind keeps_address n (sent bs ∷ ticked xs ∷ []) (ticked xs ∷ sent bs ∷ []) z ((f, r, p), tt) ((f, r, p), tt)
      (λ i h. ap (λ (l : List (Event AnySample)). l ++ (own_tick (get_elem? xs i) ++ [])) (met_nothing ws bs f i r (untouched i))
      ∙ ap (λ (l : List (Event AnySample)). own_tick (get_elem? xs i) ++ (l ++ [])) (sym (met_nothing ws bs f i r (untouched i))));
}
