-- From setup, through any calls: what moves was sent, and so was the minimum. Assumes nothing.
use mathlib.Core.Path.{◌≡◌, refl, sym, ap, subst, ◌∙◌}
use mathlib.Core.Logic.{inl, inr}
use mathlib.Core.List.{List}
use mathlib.Core.Bool.{Bool, true, false, cond, not, false≢true}
use mathlib.Core.Option.{some}
use Prim.Native.Nat.{ℕ, suc}
use native.Mathlib.Omega.{arith}
use native.Mathlib.Nat.{le_refl}
use borrow.Author.Tests.{eqb-true, eq-eqb, not-false}
use lib.ListN.{get_elem?}
use lib.Dec.{eqb}
use Rattle.line_receiver.specs.declared.Receiver.{Receiver}
use Rattle.std.specs.Prelude.{Some}
use Rattle.line_receiver.specs.Receive.{taken}
use Rattle.line_receiver.specs.Frames.{Frame, frame_in}
use Rattle.module_rules.specs.declared.Fault.{Fault}
use Rattle.module_rules.specs.declared.Fault.TheVariants.{Unknown, Count, Value}
use Rattle.module_rules.specs.Rules.{Request, malformed, set, reset, wants, fault_cause, settled}
use Rattle.module_rules.proofs.Settled.{settles}
use Rattle.chain_rules.specs.Chain.{addresses, touched}
use Rattle.stepper_rules.specs.declared.Carried.{Carried}
use Rattle.stepper_rules.specs.declared.Halt.{Halt}
use Rattle.stepper_rules.specs.declared.Halt.TheVariants.{Keep, Abrupt, Smooth}
use Rattle.stepper_rules.specs.declared.Load.{Load}
use Rattle.stepper_rules.specs.declared.Motion.{Motion}
use Rattle.stepper_rules.specs.declared.Order.{Order}
use Rattle.stepper_rules.specs.declared.Order.TheVariants.{LoadTrajectory, Start, SetParameters, Stop}
use Rattle.stepper_rules.specs.declared.Sample.{Sample}
use Rattle.stepper_rules.specs.declared.Stepper.{Stepper}
use Rattle.stepper_rules.specs.Carried.{needed, carried_in}
use Rattle.stepper_rules.specs.State.{is_moving, started}
use Rattle.stepper_rules.specs.Ramp.{ticked}
use Rattle.stepper_rules.specs.Perform.{storing, loaded, starts_now, start, parameters_set, smooth, stopped, can, perform}
use Rattle.stepper_rules.specs.Answers as Answers
use Rattle.stepper_rules.specs.Answers.{request, with_cause, execute}
use Rattle.stepper_rules.proofs.Known.{spared, Known, known, BitOf, halt_bits, halt_bits_lem}
use Rattle.stepper_slot_rules.specs.Promises.{Fits}
use Rattle.stepper_slot_rules.proofs.Steady.{by_test, Steady}
use Rattle.stepper_slot_rules.proofs.Good.{good}
use Rattle.stepper_rules.proofs.Starting.{was_startable}
use Rattle.types_rules.specs.Table.{stepper}
use Rattle.types_rules.specs.Types.{kind, slots}
use Rattle.types_rules.proofs.Promised.{every_type}
use Rattle.net_rules.specs.Record.{net_in}
use Rattle.api_rules.specs.Table.{byte_table}
use Rattle.api_rules.specs.Calls.{setup_record}
use Rattle.api_rules.specs.Promises.{ValidRecord, Passes}
use Rattle.api_rules.proofs.Kept.{kept}
use Rattle.demands_history_rules.specs.Calls.{Call, byte, tick}
use Rattle.demands_rules.specs.Place.{after, sample_at, Stands, Executed}
use Rattle.demands_rules.specs.Question.{IsStart}
use Rattle.demands_rules.specs.Loaded.{control, Has, Lacks, WholeLoad, Loaded, itself, by_start}
use Rattle.demands_rules.proofs.Making.{fits_at, Silent, Made, same, framed, timed, set_up_is}
use Rattle.demands_rules.proofs.Placing.{Only, valid-after, untouched, stood_before, executed-by, Carries, carried}
use Rattle.demands_rules.proofs.Since.{none_yet, loaded_on}
use Rattle.demands_stepper_rules.specs.Motion.{Moves}
use Rattle.demands_stepper_rules.specs.Sent.{Halts, SlowsDown, Drops, MotionSent, MinimumSent, WhatMovesWasSent}
use Rattle.demands_stepper_rules.proofs.Starting.{now_can}
use Rattle.demands_stepper_rules.proofs.Sending.{brought, Same, same-motion, tick_same, same_sent, slow-sent, start-sent, minimum-sent, parameters-sent}

-- ---- what drops no load

-- a smooth Stop drops a waiting load
slows_drops : (f : Frame) → SlowsDown f → Drops f
slows_drops f (c, h) = inr (inr (inr (c, inr h)))

-- a frame has one code
other_code : (f : Frame) (a b : ℕ) → eqb a b ≡ false → f.code ≡ a → f.code ≡ b → ⊥
other_code f a b n e q = false≢true (sym n ∙ eq-eqb a b (sym e ∙ q))

-- a code that is none of these drops no waiting load, but for a Stop
undropped : (f : Frame) (c : ℕ) → f.code ≡ c → eqb c 4 ≡ false → eqb c 5 ≡ false → eqb c 15 ≡ false → (Halts f → ⊥) → Drops f → ⊥
undropped f c e a b d h (inl z) = other_code f c 4 a e z
undropped f c e a b d h (inr (inl z)) = other_code f c 5 b e z
undropped f c e a b d h (inr (inr (inl z))) = other_code f c 15 d e z
undropped f c e a b d h (inr (inr (inr z))) = h z

spares : (f : Frame) → spared f.code ≡ true → Drops f → ⊥
spares f e (inl z) = false≢true (sym (ap spared z) ∙ e)
spares f e (inr (inl z)) = false≢true (sym (ap spared z) ∙ e)
spares f e (inr (inr (inl z))) = false≢true (sym (ap spared z) ∙ e)
spares f e (inr (inr (inr h))) = false≢true (sym (ap spared h.0) ∙ e)

parameters_spare : (f : Frame) → f.code ≡ 6 → Drops f → ⊥
parameters_spare f c = undropped f 6 c refl refl refl (λ h. other_code f 6 7 refl c h.0)

-- a Stop with neither bit halts nothing
keep_halts : (f : Frame) → BitOf Keep (halt_bits (control f)) → Halts f → ⊥
keep_halts f k (c, inl h) = false≢true (sym k.0 ∙ h)
keep_halts f k (c, inr h) = false≢true (sym k.1 ∙ h)

keep_spares : (f : Frame) → f.code ≡ 7 → BitOf Keep (halt_bits (control f)) → Drops f → ⊥
keep_spares f c k = undropped f 7 c refl refl refl (keep_halts f k)

-- what a smooth Stop makes of what moves
abbrev slowed : ℕ → Motion → Motion
slowed minimum p = record { speed = p.speed; backward = p.backward; goal = minimum; time = p.time; ticks = 0; stopping = true }

module _ (net : List ℕ) (cs : List Call) (i : ℕ) where
  -- the load that waits is that of the last whole Load, which nothing has dropped
  abbrev Waiting : ℕ → Load → Type 0
  Waiting n l = l.waits ≡ true → (f : Frame) × (l ≡ brought f) × Lacks 7 f × Loaded stepper needed net cs i Drops f n

  -- what was sent is what waits, what moves and the minimum
  record Told (n : ℕ) (m : Stepper) : Type 0 where
    waits : Waiting n m.load
    motion : Moves m → MotionSent net cs i n
    minimum : (m.settings.minimum ≡ 0 → ⊥) → MinimumSent net cs i n m.settings.minimum

  module _ (n : ℕ) (m : Stepper) (stands : Stands stepper net cs i n m) (told : Told n m) where
    -- where no load is dropped
    waits-on : ((g : Frame) → Executed stepper net cs i n g → Drops g → ⊥) → Waiting (suc n) m.load
    waits-on h w = let (f, e, c, d) = told.waits w in (f, e, c, loaded_on stepper needed net cs i Drops f n d h)

    -- where neither the load nor the minimum is changed, and what moves goes on
    same-told : (k : Stepper) → Only stepper net cs i (suc n) k → k.load ≡ m.load → k.settings.minimum ≡ m.settings.minimum
        → (Moves k → Same m.motion k.motion) → ((g : Frame) → Executed stepper net cs i n g → Drops g → ⊥) → Told (suc n) k
    same-told k o l e s h = record {
      waits = subst (Waiting (suc n)) (sym l) (waits-on h);
      motion = same_sent net cs i n m k stands o e s (λ g x z. h g x (slows_drops g z)) told.motion;
      minimum = minimum-sent net cs i n m k stands o e told.minimum;
    }

    -- ---- the frame f is executed by this call, and no other
    module _ (f : Frame) (exec : Executed stepper net cs i n f) (alone : (g : Frame) → Executed stepper net cs i n g → g ≡ f) where
      none-such : (P : Frame → Type 0) → (P f → ⊥) → (g : Frame) → Executed stepper net cs i n g → P g → ⊥
      none-such P h g x z = h (subst P (alone g x) z)

      -- the module after it
      abbrev After : Stepper → Type 0
      After k = Only stepper net cs i (suc n) (with_cause 0 k) → Told (suc n) (with_cause 0 k)

      module _ (w : WholeLoad needed f) where
        abbrev brings : Carried
        brings = carried_in f.content

        load_told : Lacks 7 f → After (loaded brings m)
        unfolding loaded storing
        load_told h o = record {
          waits = λ z. (f, refl, h, record { by = n; earlier = le_refl (suc n); executed = exec; load = w; last = none_yet stepper net cs i Drops n });
          motion = same_sent net cs i n m (with_cause 0 (loaded brings m)) stands o refl (same-motion m.motion)
              (none-such SlowsDown (λ z. other_code f 4 7 refl w.0 z.0)) told.motion;
          minimum = minimum-sent net cs i n m (with_cause 0 (loaded brings m)) stands o refl told.minimum;
        }

        now-told : Has 7 f → can (LoadTrajectory brings) m ≡ true → After (start (loaded brings m))
        unfolding loaded storing start carried_in
        now-told h q o = record {
          waits = λ z. absurd (false≢true z);
          motion = λ z.
              start-sent net cs i n m (with_cause 0 (start (loaded brings m))) stands o (loaded brings m) f (itself exec w h) refl
              (was_startable (loaded brings m) (sym (now_can brings m h) ∙ q)) refl refl refl;
          minimum = minimum-sent net cs i n m (with_cause 0 (start (loaded brings m))) stands o refl told.minimum;
        }

      carry-told : WholeLoad needed f → can (LoadTrajectory (carried_in f.content)) m ≡ true → After (perform (LoadTrajectory (carried_in f.content)) m)
      unfolding carried_in
      carry-told w q =
          by_test After (starts_now (carried_in f.content)) (start (loaded (carried_in f.content) m)) (loaded (carried_in f.content) m)
          (λ h. now-told w h q) (λ h. load_told w h)

      start-told : IsStart f → can Start m ≡ true → After (start m)
      unfolding start
      start-told g q o =
          let s = was_startable m q in
          let (l, e, h, d) = told.waits s.waits in
          record {
            waits = λ z. absurd (false≢true z);
            motion = λ z. start-sent net cs i n m (with_cause 0 (start m)) stands o m l (by_start f exec g h d) e s refl refl refl;
            minimum = minimum-sent net cs i n m (with_cause 0 (start m)) stands o refl told.minimum;
          }

      -- Set Parameters: at rest the minimum is the frame's, else it stays
      parameters-told : (v : ℕ) → Known f (wants (SetParameters v)) → After (parameters_set v m)
      unfolding parameters_set
      parameters-told v (c, w, e) o = at (is_moving m.motion) refl
        where
          k : Stepper
          k = with_cause 0 (parameters_set v m)

          low : (t : Bool) → is_moving m.motion ≡ t → k.settings.minimum ≡ cond t m.settings.minimum v
          low t z = ap (λ (t : Bool). cond t m.settings.minimum v) z

          at : (t : Bool) → is_moving m.motion ≡ t → Told (suc n) k
          at true z = same-told k o refl (low true z) (same-motion m.motion) (none-such Drops (parameters_spare f c))
          at false z = record {
            waits = waits-on (none-such Drops (parameters_spare f c));
            motion = λ y. absurd (y (eqb-true _ _ (not-false _ z)));
            minimum = λ y. parameters-sent net cs i n m k stands o f exec (c, w) (low false z ∙ e);
          }

      -- ---- Stop, by its kind

      smooth-told : (a : Bool) → f.code ≡ 7 → Has 3 f → After (stopped a Smooth m)
      unfolding stopped smooth
      smooth-told a c h o = record {
        waits = λ z. absurd (false≢true z);
        motion = at (is_moving m.motion) refl;
        minimum = minimum-sent net cs i n m k stands o refl told.minimum;
      }
        where
          k : Stepper
          k = with_cause 0 (stopped a Smooth m)

          at : (t : Bool) → is_moving m.motion ≡ t → Moves k → MotionSent net cs i (suc n)
          at true z y =
              let run = ap (λ (t : Bool). cond t (slowed m.settings.minimum m.motion) m.motion) z in
              let moves : Moves m = λ r. false≢true (sym (ap (λ (v : ℕ). not (eqb v 0)) r) ∙ z) in
              slow-sent net cs i n m k stands o f exec (c, h) y
              (ap (λ (p : Motion). p.backward) run) (ap (λ (p : Motion). p.time) run) (ap (λ (p : Motion). p.stopping) run) (ap (λ (p : Motion). p.goal) run)
              refl (told.motion moves)
          at false z y =
              let run = ap (λ (t : Bool). cond t (slowed m.settings.minimum m.motion) m.motion) z in
              absurd (y (ap (λ (p : Motion). p.speed) run ∙ eqb-true _ _ (not-false _ z)))

      stop-told : (a : Bool) (h : Halt) → f.code ≡ 7 → BitOf h (halt_bits (control f)) → After (stopped a h m)
      unfolding stopped
      stop-told a Keep c b o = same-told (with_cause 0 (stopped a Keep m)) o refl refl (same-motion m.motion) (none-such Drops (keep_spares f c b))
      stop-told a Abrupt c b o = record {
        waits = λ z. absurd (false≢true z);
        motion = λ z. absurd (z refl);
        minimum = minimum-sent net cs i n m (with_cause 0 (stopped a Abrupt m)) stands o refl told.minimum;
      }
      stop-told a Smooth c b o = smooth-told a c b o

      order-told : (c : Order) → Known f (wants c) → can c m ≡ true → f.damaged ≡ false → After (perform c m)
      order-told (LoadTrajectory c) (w, e) q d =
          subst (λ (c : Carried). can (LoadTrajectory c) m ≡ true → After (perform (LoadTrajectory c) m)) (sym e) (carry-told w) q
      order-told Start (c, w) q d = start-told (d, c, w) q
      order-told (SetParameters v) k q d = parameters-told v k
      order-told (Stop a h) (c, e) q d = stop-told a h c (subst (λ (h : Halt). BitOf h (halt_bits (control f))) (sym e) (halt_bits_lem (control f)))

    -- ---- one call

    -- a frame that is not executed leaves its cause
    caused-told : (c : ℕ) → (c ≡ 0 → ⊥) → Stands stepper net cs i (suc n) (with_cause c m) → Only stepper net cs i (suc n) (with_cause c m) → Told (suc n) (with_cause c m)
    caused-told c z st o = same-told (with_cause c m) o refl refl (same-motion m.motion) (λ g x y. z (x.cause (with_cause c m) st))

    fault-told : (x : Fault) → fault_cause x ≡ 0 → ⊥
    fault-told Unknown z = omega arith
    fault-told Count z = omega arith
    fault-told Value z = omega arith

    silent-none : (c : Call) → get_elem? cs n ≡ some c → Silent (after net cs i n) i c → (g : Frame) → Executed stepper net cs i n g → Drops g → ⊥
    silent-none c e s g x z = untouched net cs i n c e s g x.met

    -- the frame that this call ends undamaged
    module _ (mark value : ℕ) (room : List ℕ) (call : get_elem? cs n ≡ some (byte mark value room)) (goes : Passes (byte_table (after net cs i n) mark room))
        (touches : touched true (net_in slots (after net cs i n)).receiver.address (addresses kind (net_in slots (after net cs i n)).modules) i ≡ true) where
      abbrev r : Receiver
      r = (net_in slots (after net cs i n)).receiver

      abbrev ending : Frame
      ending = frame_in r false

      exec-by : (taken r value (eqb mark 1)).answer ≡ Some false → (k : Stepper) → Only stepper net cs i (suc n) k → k.station.cause ≡ 0 → Executed stepper net cs i n ending
      exec-by = executed-by stepper net cs i n mark value room call goes touches

      only_one : (g : Frame) → Executed stepper net cs i n g → g ≡ ending
      only_one g x = x.met.frame ∙ ap (frame_in r) x.undamaged

      settled-told : (taken r value (eqb mark 1)).answer ≡ Some false → (q : Request Order) → Known ending q
          → Stands stepper net cs i (suc n) (settled Answers.stepper q m) → Only stepper net cs i (suc n) (settled Answers.stepper q m) → Told (suc n) (settled Answers.stepper q m)
      settled-told e (malformed x) k st o = caused-told (fault_cause x) (fault-told x) st o
      settled-told e (set s) k st o =
          same-told _ o refl refl (same-motion m.motion) (none-such ending (exec-by e _ o refl) only_one Drops (spares ending k))
      settled-told e reset k st o = record { waits = λ z. absurd (false≢true z); motion = λ z. absurd (z refl); minimum = λ z. absurd (z refl) }
      settled-told e (wants c) k st o = at (can c m) refl st o
        where
          at : (t : Bool) → can c m ≡ t → Stands stepper net cs i (suc n) (cond t (with_cause 0 (perform c m)) (with_cause 3 m))
              → Only stepper net cs i (suc n) (cond t (with_cause 0 (perform c m)) (with_cause 3 m))
              → Told (suc n) (cond t (with_cause 0 (perform c m)) (with_cause 3 m))
          at true q st o = order-told ending (exec-by e _ o refl) only_one c k q refl o
          at false q st o = caused-told 3 (λ z. omega arith) st o

      framed-told : (d : Bool) (alone : Bool) → (taken r value (eqb mark 1)).answer ≡ Some d
          → Stands stepper net cs i (suc n) (execute (frame_in r d) alone m) → Only stepper net cs i (suc n) (execute (frame_in r d) alone m)
          → Told (suc n) (execute (frame_in r d) alone m)
      framed-told true alone e st o =
          let q : execute (frame_in r true) alone m ≡ with_cause 1 m = ((every_type stepper).cause (frame_in r true) alone m).damaged refl in
          subst (Told (suc n)) (sym q)
          (caused-told 1 (λ z. omega arith) (subst (Stands stepper net cs i (suc n)) q st) (subst (Only stepper net cs i (suc n)) q o))
      framed-told false alone e st o =
          let q : execute (frame_in r false) alone m ≡ settled Answers.stepper (request ending alone) m = settles Answers.stepper ending alone m refl refl in
          subst (Told (suc n)) (sym q)
          (settled-told e (request ending alone) (known ending alone) (subst (Stands stepper net cs i (suc n)) q st) (subst (Only stepper net cs i (suc n)) q o))

    made_told : (c : Call) (k : Stepper) → get_elem? cs n ≡ some c → Made stepper (after net cs i n) i m c k → Stands stepper net cs i (suc n) k
        → Only stepper net cs i (suc n) k → Told (suc n) k
    unfolding ticked
    made_told _ _ e (same c s _) st o = same-told m o refl refl (same-motion m.motion) (silent-none c e s)
    made_told _ _ e (framed mark x room d goes a u) st o = framed-told mark x room e goes u d _ a st o
    made_told _ _ e (timed samples _ _) st o =
        let x : Sample = sample_at stepper samples i in
        same-told (ticked x m) o refl refl (tick_same x m) (silent-none (tick samples) e tt)

-- ---- through any calls

told-on : (net : List ℕ) (cs : List Call) (i : ℕ) → Carries stepper net cs i (Told net cs i)
told-on net cs i n c m k g w st d st' o told = made_told net cs i n m st told c k g d st' o

-- at power-up nothing was sent
started-told : (net : List ℕ) (cs : List Call) (i : ℕ) → Told net cs i 0 started
started-told net cs i = record { waits = λ z. absurd (false≢true z); motion = λ z. absurd (z refl); minimum = λ z. absurd (z refl) }

-- a module of a valid record that moves has a minimum
has_minimum : (k : Stepper) → Fits k → Moves k → k.settings.minimum ≡ 0 → ⊥
has_minimum k t z q = at (good k t).motion
  where
    at : Steady k.settings.minimum k.motion → ⊥
    at (inl e) = z (ap (λ (p : Motion). p.speed) e)
    at (inr (h, l)) = omega (arith, h.known)

pub what_moves_was_sent : WhatMovesWasSent
what_moves_was_sent net types cs i n k p h l e =
    let r : List ℕ = setup_record net types in
    let v : ValidRecord r = kept.setup net types p in
    let (s, q) = stood_before stepper r cs i n k v h l e in
    let told = carried stepper r cs i (Told r cs i) v h (told-on r cs i) s q (subst (Told r cs i 0) (set_up_is stepper net types i s p q) (started-told r cs i)) n l k e in
    (λ z. (told.motion z, has_minimum k (fits_at stepper (after r cs i n) i k (valid-after r cs i n v h l) e) z), told.minimum)
