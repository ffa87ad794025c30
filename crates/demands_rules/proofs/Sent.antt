-- From setup, through any calls: what moves, or holds, was sent. Assumes nothing.
use mathlib.Core.Path.{◌≡◌, refl, sym, ap, subst, ◌∙◌}
use mathlib.Core.Logic.{◌⊎◌, inl, inr}
use mathlib.Core.List.{List}
use mathlib.Core.Bool.{Bool, true, false, cond, true≢false, false≢true}
use mathlib.Core.Option.{some}
use Prim.Native.Nat.{ℕ, suc, ◌≤◌}
use native.Mathlib.Omega.{arith}
use native.Mathlib.Nat.{le_refl, le_of_eq}
use lib.IntN.{ℤ, pos, nat_abs}
use lib.ListN.{length, get_elem?}
use lib.Dec.{eqb}
use Rattle.base_integers.specs.Bits.{is_set}
use Rattle.line_receiver.specs.declared.Receiver.{Receiver}
use Rattle.std.specs.Prelude.{Some}
use Rattle.line_receiver.specs.Receive.{taken}
use Rattle.line_receiver.specs.Frames.{Frame, frame_in}
use Rattle.module_rules.specs.declared.Fault.{Fault}
use Rattle.module_rules.specs.declared.Fault.TheVariants.{Unknown, Count, Value}
use Rattle.module_rules.specs.Rules.{Request, malformed, set, reset, wants, fault_cause, settled}
use Rattle.module_rules.proofs.Settled.{settles}
use Rattle.chain_rules.specs.Chain.{addresses, touched}
use Rattle.servo_rules.specs.declared.Halt.{Halt}
use Rattle.servo_rules.specs.declared.Halt.TheVariants.{Keep, Release, Abrupt, Smooth, Here}
use Rattle.servo_rules.specs.declared.Order.{Order}
use Rattle.servo_rules.specs.declared.Order.TheVariants.{ResetPosition, LoadTrajectory, Start, SetGain, Stop, SetHoming, ClearBits}
use Rattle.servo_rules.specs.declared.Mode.{Mode}
use Rattle.servo_rules.specs.declared.Mode.TheVariants.{Off, Pwm, Hold, Velocity, Trapezoid}
use Rattle.servo_rules.specs.declared.Rates.{Rates}
use Rattle.servo_rules.specs.declared.Run.{Run}
use Rattle.servo_rules.specs.declared.Load.{Load}
use Rattle.servo_rules.specs.declared.Carried.{Carried}
use Rattle.servo_rules.specs.declared.Sample.{Sample}
use Rattle.servo_rules.specs.declared.Servo.{Servo}
use Rattle.servo_rules.specs.Carried.{needed, carried_in}
use Rattle.servo_rules.specs.Asks.{halt_of, stop_count}
use Rattle.servo_rules.specs.State.{position, servo_off, started}
use Rattle.servo_rules.specs.Loads.{loaded, starts_now, to_speed, start}
use Rattle.servo_rules.specs.Homing.{changed, homing_halt}
use Rattle.servo_rules.specs.Perform.{reset_position, stopped, can, perform}
use Rattle.servo_rules.specs.Tick.{met, ticked}
use Rattle.servo_rules.specs.Answers as Answers
use Rattle.servo_rules.specs.Answers.{request, with_cause, execute}
use Rattle.servo_rules.specs.HomingPromises.{Acts, Unstopped}
use Rattle.servo_rules.proofs.Known.{spared as code_spared, Known, known, BitOf, halt_bits, halt_bits_lem}
use Rattle.servo_rules.proofs.Keeping.{by_test}
use Rattle.servo_rules.proofs.Starting.{starts, start_now}
use Rattle.servo_rules.proofs.Completing.{complete}
use Rattle.servo_rules.proofs.Loading.{loads}
use Rattle.servo_rules.proofs.Stopping.{stops}
use Rattle.servo_rules.proofs.Meeting.{distinct as halts-differ}
use Rattle.servo_rules.proofs.Ticking.{ticks}
use Rattle.servo_rules.proofs.FindingHome.{homing_ticks, Meeting, ran, ended, stands as Stands-by, slows, meeting}
use Rattle.servo_slot_rules.specs.Promises.{Fits}
use Rattle.servo_slot_rules.proofs.Modes.{InMode}
use Rattle.servo_slot_rules.proofs.Good.{good}
use Rattle.types_rules.specs.Table.{servo}
use Rattle.types_rules.specs.Types.{kind, slots}
use Rattle.types_rules.proofs.Promised.{every_type}
use Rattle.net_rules.specs.Record.{net_in}
use Rattle.api_rules.specs.Table.{byte_table}
use Rattle.api_rules.specs.Calls.{setup_record}
use Rattle.api_rules.specs.Promises.{ValidRecord, Passes}
use Rattle.api_rules.proofs.Kept.{kept}
use Rattle.demands_history_rules.specs.Calls.{Call, byte, tick, AllHanded}
use Rattle.demands_history_rules.proofs.Events.{below}
use Rattle.demands_rules.specs.Motion.{Moves}
use Rattle.demands_rules.specs.Question.{IsStart}
use Rattle.demands_rules.specs.Place.{after}
use Rattle.demands_rules.specs.ServoPlace.{servo_sample_at, Stands, Executed, Ticked, Homed}
use Rattle.demands_rules.specs.Loaded.{control, Has, Lacks, itself, by_start}
use Rattle.demands_rules.specs.Sent.{WholeLoad, Halts, Drops, encoder, Loaded, Given, WasSent, WhatMovesWasSent, number_in}
use Rattle.demands_rules.proofs.Reading.{spares, not_keep, keep_spares}
use Rattle.demands_rules.proofs.Alike.{Alike, alike, raw-back, shift_alike, Goes, tick_goes, tick_alike}
use Rattle.demands_rules.proofs.Making.{fits_at, Silent, Made, same, framed, timed, set_up_is}
use Rattle.demands_rules.proofs.Placing.{valid-after, untouched, stood_before, executed-by, Carries, carried}
use Rattle.demands_rules.proofs.Since.{none_yet, loaded_on}
use Rattle.demands_rules.proofs.Arming.{Armed, armed_on, started_armed}
use Rattle.demands_rules.proofs.Sending.{Replaces, brought, off-sent, start-sent, hold-sent, homed-sent, slow-sent}
use Rattle.demands_rules.proofs.SendingOn.{Only, alike-sent}

-- what takes a number's place drops a waiting load too
replaces_drops : (k : ℕ) (f : Frame) → Replaces k f → Drops f
replaces_drops k f (inl (c, h)) = inr (inl c)
replaces_drops k f (inr c) = inr (inr (inr (inl c)))

-- a code that is neither Load nor Hard Reset replaces no number
replaces_not : (c : ℕ) → eqb c 4 ≡ false → eqb c 15 ≡ false → (f : Frame) → f.code ≡ c → (k : ℕ) → Replaces k f → ⊥
replaces_not c n r f e k (inl (x, h)) = false≢true (sym n ∙ ap (λ (c : ℕ). eqb c 4) (sym e ∙ x))
replaces_not c n r f e k (inr x) = false≢true (sym r ∙ ap (λ (c : ℕ). eqb c 15) (sym e ∙ x))

-- the same servo with another cause drives alike
caused_alike : (m k : Servo) (c : ℕ) → Alike m k → Alike m (with_cause c k)
caused_alike m k c a = record {
  mode = a.mode;
  goal = a.goal;
  aim = a.aim;
  acceleration = a.acceleration;
  top = a.top;
  pulse = a.pulse;
  held = a.held;
  slower = a.slower;
}

-- a byte that asks for an abrupt stop has bit 4
abrupt_bit : (b : ℕ) → homing_halt b ≡ Abrupt → is_set 4 b ≡ true
unfolding homing_halt
abrupt_bit b = at (is_set 2 b) (is_set 4 b) (is_set 5 b)
  where
    at : (a c d : Bool) → cond a Release (cond c Abrupt (cond d Smooth Keep)) ≡ Abrupt → c ≡ true
    at true c d e = absurd (halts-differ Release Abrupt refl e)
    at false true d e = refl
    at false false true e = absurd (halts-differ Smooth Abrupt refl e)
    at false false false e = absurd (halts-differ Keep Abrupt refl e)

-- the numbers that a Load's bits 1 and 2 announce
velocity_is : (f : Frame) → Has 1 f → (carried_in f.content).velocity ≡ number_in 1 f
unfolding carried_in
velocity_is f h = ap (λ (t : Bool). cond t (number_in 1 f) 0) h

acceleration_is : (f : Frame) → Has 2 f → (carried_in f.content).acceleration ≡ number_in 2 f
unfolding carried_in
acceleration_is f h = ap (λ (t : Bool). cond t (number_in 2 f) 0) h

module _ (net : List ℕ) (cs : List Call) (i : ℕ) where
  -- the number was loaded by the last Load among the first n calls that carried it
  abbrev Rate : ℕ → ℕ → Bool → ℕ → Type 0
  Rate b x was n = was ≡ true → (f : Frame) × (x ≡ number_in b f) × Given net cs i b f n

  -- what was sent is what is kept and what is done
  record Told (n : ℕ) (m : Servo) : Type 0 where
    paced : Rate 1 m.settings.rates.velocity m.settings.rates.paced n
    ramped : Rate 2 m.settings.rates.acceleration m.settings.rates.ramped n
    waits : m.settings.load.waits ≡ true → (f : Frame) × (m.settings.load ≡ brought f) × Lacks 7 f × Loaded net cs i Drops f n
    sent : WasSent net cs i n m

  rate_on : (b : ℕ) (x : ℕ) (was : Bool) (n : ℕ) → ((g : Frame) → Executed net cs i n g → Replaces b g → ⊥) → Rate b x was n → Rate b x was (suc n)
  rate_on b x was n h r w = let (f, e, (c, l)) = r w in (f, e, (c, loaded_on servo needed net cs i (Replaces b) f n l h))

  module _ (n : ℕ) (m : Servo) (stands : Stands net cs i n m) (t : Fits m) (told : Told n m) where
    -- where no number is replaced
    rates-told : (k : Servo) → k.settings.rates ≡ m.settings.rates → ((b : ℕ) (g : Frame) → Executed net cs i n g → Replaces b g → ⊥)
        → (k.settings.load.waits ≡ true → (f : Frame) × (k.settings.load ≡ brought f) × Lacks 7 f × Loaded net cs i Drops f (suc n))
        → WasSent net cs i (suc n) k → Told (suc n) k
    rates-told k e h w s = record {
      paced = subst (λ (r : Rates). Rate 1 r.velocity r.paced (suc n)) (sym e) (rate_on 1 _ _ n (h 1) told.paced);
      ramped = subst (λ (r : Rates). Rate 2 r.acceleration r.ramped (suc n)) (sym e) (rate_on 2 _ _ n (h 2) told.ramped);
      waits = w;
      sent = s;
    }

    -- where no load is dropped
    quiet_told : (k : Servo) → Only net cs i (suc n) k → k.settings.rates ≡ m.settings.rates → k.settings.load ≡ m.settings.load
        → ((g : Frame) → Executed net cs i n g → Drops g → ⊥) → WasSent net cs i (suc n) k → Told (suc n) k
    quiet_told k o r l h s =
        rates-told k r (λ b g x z. h g x (replaces_drops b g z))
        (λ w. let (f, e, c, d) = told.waits (ap (λ (l : Load). l.waits) (sym l) ∙ w) in (f, l ∙ e, c, loaded_on servo needed net cs i Drops f n d h))
        s

    alike-told : (k : Servo) → Only net cs i (suc n) k → k.settings.rates ≡ m.settings.rates → k.settings.load ≡ m.settings.load
        → ((g : Frame) → Executed net cs i n g → Drops g → ⊥) → Alike m k → Told (suc n) k
    alike-told k o r l h a =
        quiet_told k o r l h (alike-sent net cs i n m k stands o a (λ g x z. h g x (inr (inr (inr (inr z))))) told.sent)

    -- where a load is dropped and no number replaced
    drop-told : (k : Servo) → k.settings.rates ≡ m.settings.rates → k.settings.load.waits ≡ false
        → ((b : ℕ) (g : Frame) → Executed net cs i n g → Replaces b g → ⊥) → WasSent net cs i (suc n) k → Told (suc n) k
    drop-told k r l h s = rates-told k r h (λ w. absurd (false≢true (sym l ∙ w))) s

    -- ---- the frame f is executed by this call, and no other
    module _ (f : Frame) (exec : Executed net cs i n f) (alone : (g : Frame) → Executed net cs i n g → g ≡ f) where
      spared : (P : Frame → Type 0) → (P f → ⊥) → (g : Frame) → Executed net cs i n g → P g → ⊥
      spared P h g x z = h (subst P (alone g x) z)

      -- a rate after a Load: its own number, or the one before
      rate-load : (b : ℕ) (old new : ℕ) (was now : Bool) → (f.code ≡ 4) × (length f.content ≡ needed (control f))
          → (Has b f → new ≡ number_in b f) → (Lacks b f → (new ≡ old) × (now ≡ was)) → Rate b old was n → Rate b new now (suc n)
      rate-load b old new was now w has lacks r = at (is_set b (control f)) refl
        where
          not-replaced : Lacks b f → Replaces b f → ⊥
          not-replaced e (inl (c, h)) = false≢true (sym e ∙ h)
          not-replaced e (inr c) = let z : ◌≡◌ {A = Bool} true false = ap (eqb 4) (sym w.0 ∙ c) in true≢false z

          at : (t : Bool) → is_set b (control f) ≡ t → Rate b new now (suc n)
          at true e q = (f, has e, (e, record { by = n; earlier = le_refl (suc n); executed = exec; load = w; last = none_yet servo net cs i (Replaces b) n }))
          at false e q =
              let (x, y) = lacks e in
              let (g, z, (c, l)) = r (sym y ∙ q) in
              (g, x ∙ z, (c, loaded_on servo needed net cs i (Replaces b) g n l (spared (Replaces b) (not-replaced e))))

      module _ (w : WholeLoad f) where
        abbrev c : Carried
        c = carried_in f.content

        loaded-paced : Rate 1 (loaded c m).settings.rates.velocity (loaded c m).settings.rates.paced (suc n)
        unfolding carried_in
        loaded-paced =
            rate-load 1 _ _ _ _ w (λ h. ((loads c m).velocity h).0 ∙ velocity_is f h) (λ h. (loads c m).no_velocity h) told.paced

        loaded-ramped : Rate 2 (loaded c m).settings.rates.acceleration (loaded c m).settings.rates.ramped (suc n)
        unfolding carried_in
        loaded-ramped =
            rate-load 2 _ _ _ _ w (λ h. ((loads c m).acceleration h).0 ∙ acceleration_is f h) (λ h. (loads c m).no_acceleration h) told.ramped

        load_told : Lacks 7 f → Only net cs i (suc n) (with_cause 0 (loaded c m)) → Told (suc n) (with_cause 0 (loaded c m))
        unfolding loaded
        load_told h o = record {
          paced = loaded-paced;
          ramped = loaded-ramped;
          waits = λ z. (f, refl, h, record { by = n; earlier = le_refl (suc n); executed = exec; load = w; last = none_yet servo net cs i Drops n });
          sent = alike-sent net cs i n m (with_cause 0 (loaded c m)) stands o (alike m (with_cause 0 (loaded c m)) refl refl refl refl)
              (spared Halts (λ z. let y : ◌≡◌ {A = Bool} true false = ap (eqb 4) (sym w.0 ∙ z.0) in true≢false y)) told.sent;
        }

        now-told : Has 7 f → can (LoadTrajectory c) m ≡ true → Only net cs i (suc n) (with_cause 0 (start (loaded c m))) → Told (suc n) (with_cause 0 (start (loaded c m)))
        unfolding loaded start carried_in
        now-told h q o =
            let s = (starts (loaded c m)).0 (sym ((start_now c m).now h) ∙ q) in
            record {
              paced = loaded-paced;
              ramped = loaded-ramped;
              waits = λ z. absurd (false≢true z);
              sent = start-sent net cs i n m (with_cause 0 (start (loaded c m))) stands o (loaded c m) f (itself exec w h) refl refl refl loaded-paced loaded-ramped
                  ((complete (loaded c m)).0 s.entire);
            }

      start-told : IsStart f → can Start m ≡ true → Only net cs i (suc n) (with_cause 0 (start m)) → Told (suc n) (with_cause 0 (start m))
      unfolding start
      start-told g q o =
          let s = (starts m).0 q in
          let (l, e, h, d) = told.waits s.waits in
          let none : (b : ℕ) (g : Frame) → Executed net cs i n g → Replaces b g → ⊥ = λ b. spared (Replaces b) (replaces_not 5 refl refl f g.1 b) in
          drop-told (with_cause 0 (start m)) refl refl none
          (start-sent net cs i n m (with_cause 0 (start m)) stands o m l (by_start f exec g h d) e refl refl
          (rate_on 1 _ _ n (none 1) told.paced) (rate_on 2 _ _ n (none 2) told.ramped)
          ((complete m).0 s.entire))

      -- ---- Stop, by its kind

      module _ (a : Bool) (x : ℕ) (code : f.code ≡ 7) where
        unreplaced : (b : ℕ) (g : Frame) → Executed net cs i n g → Replaces b g → ⊥
        unreplaced b = spared (Replaces b) (replaces_not 7 refl refl f code b)

        keep-told : (Drops f → ⊥) → Only net cs i (suc n) (with_cause 0 (stopped a Keep x m)) → Told (suc n) (with_cause 0 (stopped a Keep x m))
        unfolding stopped
        keep-told h o = alike-told (with_cause 0 (stopped a Keep x m)) o refl refl (spared Drops h) (alike m (with_cause 0 (stopped a Keep x m)) refl refl refl refl)

        -- a position on a stopped servo is where it was on the encoder
        counts-kept : (h : Halt) (y : ℕ) → encoder (with_cause 0 (stopped a h x m)) y ≡ encoder m y
        unfolding stopped
        counts-kept h y = refl

        stop-told : (h : Halt) → h ≡ halt_of (control f) → x ≡ number_in 0 f → length f.content ≡ stop_count (control f)
            → Only net cs i (suc n) (with_cause 0 (stopped a h x m)) → Told (suc n) (with_cause 0 (stopped a h x m))
        stop-told h e y len o = at h (subst (λ (h : Halt). BitOf h (halt_bits (control f))) (sym e) (halt_bits_lem (control f))) o
          where
            dropped-by : (h : Halt) → (h ≡ Keep → ⊥) → WasSent net cs i (suc n) (with_cause 0 (stopped a h x m)) → Told (suc n) (with_cause 0 (stopped a h x m))
            dropped-by h k s = drop-told (with_cause 0 (stopped a h x m)) ((loads (carried_in f.content) m).stopping a h x) ((stops a x m).waits h k) unreplaced s

            smooth : (d : Bool) → servo_off m.run.drive.mode ≡ d → Only net cs i (suc n) (with_cause 0 (stopped a Smooth x m)) → WasSent net cs i (suc n) (with_cause 0 (stopped a Smooth x m))
            smooth true q o = off-sent net cs i (suc n) _ ((stops a x m).slow_off q).mode
            smooth false q o =
                let s = (stops a x m).slow q in
                slow-sent net cs i n m _ stands o (inl (f, exec)) t q s.mode s.aim (le_of_eq (ap nat_abs s.speed)) told.sent

            at : (h : Halt) → BitOf h (halt_bits (control f))
                → Only net cs i (suc n) (with_cause 0 (stopped a h x m)) → Told (suc n) (with_cause 0 (stopped a h x m))
            at Keep b o = keep-told (keep_spares f code b) o
            at Release b o = dropped-by Release (not_keep Release refl) (off-sent net cs i (suc n) _ (stops a x m).release.mode)
            at Abrupt b o = dropped-by Abrupt (not_keep Abrupt refl)
                (hold-sent net cs i n m _ stands o f (position m) exec code (stops a x m).abrupt.mode (stops a x m).abrupt.setpoint (inl (b, counts-kept Abrupt (position m) ∙ raw-back m t)))
            at Smooth b o = dropped-by Smooth (not_keep Smooth refl) (smooth (servo_off m.run.drive.mode) refl o)
            at Here b o = dropped-by Here (not_keep Here refl)
                (hold-sent net cs i n m _ stands o f x exec code (stops a x m).here.mode (stops a x m).here.setpoint (inr (b, len ∙ ap (λ (t : Bool). cond t 5 1) b, counts-kept Here x ∙ ap (encoder m) y)))

      -- ---- any order

      shift-told : f.code ≡ 0 → Only net cs i (suc n) (with_cause 0 (reset_position m)) → Told (suc n) (with_cause 0 (reset_position m))
      unfolding reset_position
      shift-told e o =
          drop-told (with_cause 0 (reset_position m)) refl refl (λ b. spared (Replaces b) (replaces_not 0 refl refl f e b))
          (alike-sent net cs i n m (with_cause 0 (reset_position m)) stands o (caused_alike m (reset_position m) 0 (shift_alike m t))
          (spared Halts (λ z. let y : ◌≡◌ {A = Bool} true false = ap (eqb 0) (sym e ∙ z.0) in true≢false y)) told.sent)

      abbrev After : Servo → Type 0
      After k = Only net cs i (suc n) (with_cause 0 k) → Told (suc n) (with_cause 0 k)

      carry-told : WholeLoad f → can (LoadTrajectory (carried_in f.content)) m ≡ true → After (perform (LoadTrajectory (carried_in f.content)) m)
      unfolding carried_in
      carry-told w q =
          by_test After (starts_now (carried_in f.content)) (start (loaded (carried_in f.content) m)) (loaded (carried_in f.content) m)
          (λ h. now-told w h q) (λ h. load_told w h)

      order-told : (c : Order) → Known f (wants c) → can c m ≡ true → f.damaged ≡ false → After (perform c m)
      order-told ResetPosition k q d o = shift-told k o
      order-told (LoadTrajectory c) (w, e) q d o =
          subst (λ (c : Carried). can (LoadTrajectory c) m ≡ true → After (perform (LoadTrajectory c) m)) (sym e) (carry-told w) q o
      order-told Start (c, n0) q d o = start-told (d, c, n0) q o
      order-told (SetGain g) k q d o =
          alike-told (with_cause 0 (perform (SetGain g) m)) o refl refl (spared Drops (spares f k)) (alike m (with_cause 0 (perform (SetGain g) m)) refl refl refl refl)
      order-told (Stop a h x) (c, e, y, l, b, w) q d o = stop-told a x c h e y l o
      order-told (SetHoming b) k q d o =
          alike-told (with_cause 0 (perform (SetHoming b) m)) o refl refl (spared Drops (spares f (ap code_spared k.0))) (alike m (with_cause 0 (perform (SetHoming b) m)) refl refl refl refl)
      order-told ClearBits k q d o =
          alike-told (with_cause 0 (perform ClearBits m)) o refl refl (spared Drops (spares f k)) (alike m (with_cause 0 (perform ClearBits m)) refl refl refl refl)

      reset-told : Told (suc n) (with_cause 0 ((Answers.servo).renewed m))
      reset-told = record {
        paced = λ z. absurd (false≢true z);
        ramped = λ z. absurd (false≢true z);
        waits = λ z. absurd (false≢true z);
        sent = off-sent net cs i (suc n) _ refl;
      }

    -- ---- one call

    -- a call that executes no frame here and keeps what was loaded
    idle-told : (k : Servo) → Only net cs i (suc n) k → ((g : Frame) → Executed net cs i n g → ⊥)
        → k.settings.rates ≡ m.settings.rates → k.settings.load ≡ m.settings.load → (k.run.drive.mode ≡ Off) ⊎ Alike m k → Told (suc n) k
    idle-told k o h r l (inl e) = quiet_told k o r l (λ g x z. h g x) (off-sent net cs i (suc n) k e)
    idle-told k o h r l (inr a) = alike-told k o r l (λ g x z. h g x) a

    -- a frame that is not executed leaves its cause
    caused-told : (c : ℕ) → (c ≡ 0 → ⊥) → Stands net cs i (suc n) (with_cause c m) → Only net cs i (suc n) (with_cause c m) → Told (suc n) (with_cause c m)
    caused-told c z st o = idle-told (with_cause c m) o (λ g x. z (x.cause (with_cause c m) st)) refl refl (inr (alike m (with_cause c m) refl refl refl refl))

    fault-told : (x : Fault) → fault_cause x ≡ 0 → ⊥
    fault-told Unknown z = omega arith
    fault-told Count z = omega arith
    fault-told Value z = omega arith

    silent-none : (c : Call) → get_elem? cs n ≡ some c → Silent (after net cs i n) i c → (g : Frame) → Executed net cs i n g → ⊥
    silent-none c e s g x = untouched net cs i n c e s g x.met

    -- the frame that this call ends undamaged
    module _ (mark value : ℕ) (room : List ℕ) (call : get_elem? cs n ≡ some (byte mark value room)) (goes : Passes (byte_table (after net cs i n) mark room))
        (touches : touched true (net_in slots (after net cs i n)).receiver.address (addresses kind (net_in slots (after net cs i n)).modules) i ≡ true) where
      abbrev r : Receiver
      r = (net_in slots (after net cs i n)).receiver

      abbrev ending : Frame
      ending = frame_in r false

      exec-by : (taken r value (eqb mark 1)).answer ≡ Some false → (k : Servo) → Only net cs i (suc n) k → k.station.cause ≡ 0 → Executed net cs i n ending
      exec-by = executed-by servo net cs i n mark value room call goes touches

      only_one : (g : Frame) → Executed net cs i n g → g ≡ ending
      only_one g x = x.met.frame ∙ ap (frame_in r) x.undamaged

      settled-told : (alone : Bool) → (taken r value (eqb mark 1)).answer ≡ Some false → (q : Request Order) → Known ending q
          → Stands net cs i (suc n) (settled Answers.servo q m) → Only net cs i (suc n) (settled Answers.servo q m) → Told (suc n) (settled Answers.servo q m)
      settled-told alone e (malformed x) k st o = caused-told (fault_cause x) (fault-told x) st o
      settled-told alone e (set s) k st o =
          alike-told _ o refl refl (spared ending (exec-by e _ o refl) only_one Drops (spares ending k)) (alike m _ refl refl refl refl)
      settled-told alone e reset k st o = reset-told ending (exec-by e _ o refl) only_one
      settled-told alone e (wants c) k st o = at (can c m) refl st o
        where
          at : (t : Bool) → can c m ≡ t → Stands net cs i (suc n) (cond t (with_cause 0 (perform c m)) (with_cause 3 m)) → Only net cs i (suc n) (cond t (with_cause 0 (perform c m)) (with_cause 3 m))
              → Told (suc n) (cond t (with_cause 0 (perform c m)) (with_cause 3 m))
          at true q st o = order-told ending (exec-by e _ o refl) only_one c k q refl o
          at false q st o = caused-told 3 (λ z. omega arith) st o

      framed-told : (d : Bool) (alone : Bool) → (taken r value (eqb mark 1)).answer ≡ Some d
          → Stands net cs i (suc n) (execute (frame_in r d) alone m) → Only net cs i (suc n) (execute (frame_in r d) alone m) → Told (suc n) (execute (frame_in r d) alone m)
      framed-told true alone e st o =
          let q : execute (frame_in r true) alone m ≡ with_cause 1 m = ((every_type servo).cause (frame_in r true) alone m).damaged refl in
          subst (Told (suc n)) (sym q)
          (caused-told 1 (λ z. omega arith) (subst (Stands net cs i (suc n)) q st) (subst (Only net cs i (suc n)) q o))
      framed-told false alone e st o =
          let q : execute (frame_in r false) alone m ≡ settled Answers.servo (request ending alone) m = settles Answers.servo ending alone m refl refl in
          subst (Told (suc n)) (sym q)
          (settled-told alone e (request ending alone) (known ending alone) (subst (Stands net cs i (suc n)) q st) (subst (Only net cs i (suc n)) q o))

    -- a tick: what it meets ran before, has ended, is held or slowed down by homing
    tick-told : (x : Sample) → Fits (ticked x m) → Ticked net cs i n x → Armed net cs i n m → Only net cs i (suc n) (ticked x m)
        → ((g : Frame) → Executed net cs i n g → ⊥) → Told (suc n) (ticked x m)
    unfolding to_speed changed
    tick-told x t' tk armed o still = by (meeting x m)
      where
        rates : (ticked x m).settings.rates ≡ m.settings.rates
        rates = (ticks x m).rates

        homed : (h : Halt) → Acts h x m → Homed net cs i h n
        homed h a = record { sample = x; ticked = tk; before = m; stood = stands; acts = a }

        -- where homing's stop has dropped the load
        drops : (h : Halt) → Acts h x m → WasSent net cs i (suc n) (ticked x m) → Told (suc n) (ticked x m)
        drops h a = drop-told (ticked x m) rates (ap (λ (l : Load). l.waits) ((homing_ticks x m).drops h a)) (λ b g z. absurd (still g z))

        off-told : WasSent net cs i (suc n) (ticked x m) → ((h : Halt) × Acts h x m) ⊎ Unstopped x m → Told (suc n) (ticked x m)
        off-told s (inl (h, a)) = drops h a s
        off-told s (inr u) = quiet_told (ticked x m) o rates ((homing_ticks x m).load u) (λ g z d. still g z) s

        -- homing in progress has a byte
        searching : Acts Abrupt x m → m.homing.byte ≡ 0 → ⊥
        searching a z = true≢false (sym a.found ∙ ap (λ (b : ℕ). changed b m.latched.inputs x.inputs) z)

        abrupt : Acts Abrupt x m → WasSent net cs i (suc n) (ticked x m)
        abrupt a =
            let (f, c, s) = armed (searching a) in
            let g = (homing_ticks x m).holds a in
            homed-sent net cs i n m (ticked x m) stands o (homed Abrupt a) f (position (ticked x m)) s (abrupt_bit (control f) (ap homing_halt c ∙ a.asked))
            g.mode g.setpoint (raw-back (ticked x m) t' ∙ ap (λ (y : Sample). y.raw) (ticks x m).latched)

        -- after a smooth stop: off, or slower toward speed 0
        smooth : Acts Smooth x m → servo_off m.run.drive.mode ≡ false
            → (met x m).run ≡ to_speed m.run.profile.setpoint (pos 0) m.run.profile.acceleration m.run
            → Goes (met x m).run (ticked x m).run → WasSent net cs i (suc n) (ticked x m)
        smooth a on e (inl z) = off-sent net cs i (suc n) (ticked x m) z
        smooth a on e (inr (d, u, q)) =
            let v : (met x m).run.drive.mode ≡ Velocity = ap (λ (r : Run). r.drive.mode) e in
            let z : (met x m).run.profile.aim ≡ pos 0 = ap (λ (r : Run). r.profile.aim) e in
            slow-sent net cs i n m (ticked x m) stands o (inr (Smooth, homed Smooth a)) t on (d ∙ v) (q.aim ∙ z)
            (subst (λ (w : ℤ). nat_abs (ticked x m).run.profile.speed ≤ nat_abs w) (ap (λ (r : Run). r.profile.speed) e) (q.slower v z)) told.sent

        by : Meeting x m → Told (suc n) (ticked x m)
        by (ran u e) = idle-told (ticked x m) o still rates ((homing_ticks x m).load u) (tick_alike x m e)
        by (ended e) = off-told (off-sent net cs i (suc n) (ticked x m) (ap (λ (k : Servo). k.run.drive.mode) ((ticks x m).off e) ∙ e)) (homing_ticks x m).either
        by (Stands-by a) = drops Abrupt a (abrupt a)
        by (slows a on e) = drops Smooth a (smooth a on e (tick_goes x m))

    made_told : (c : Call) (k : Servo) → get_elem? cs n ≡ some c → Made servo (after net cs i n) i m c k → Stands net cs i (suc n) k → Only net cs i (suc n) k
        → Fits k → Armed net cs i n m → Told (suc n) k
    made_told _ _ e (same c s _) st o t' armed = idle-told m o (silent-none c e s) refl refl (inr (alike m m refl refl refl refl))
    made_told _ _ e (framed mark x room d goes a u) st o t' armed = framed-told mark x room e goes u d _ a st o
    made_told _ _ e (timed samples q _) st o t' armed =
        tick-told (servo_sample_at samples i) t' (record { samples = samples; call = e; done = q; own = refl }) armed o (silent-none (tick samples) e tt)

-- ---- through any calls

-- what was sent, and which Set Homing
abbrev Both : List ℕ → List Call → ℕ → ℕ → Servo → Type 0
Both net cs i n m = Told net cs i n m × Armed net cs i n m

told-on : (net : List ℕ) (cs : List Call) (i : ℕ) → ValidRecord net → AllHanded cs → Carries servo net cs i (Both net cs i)
told-on net cs i v h n c m k g w st d st' o (told, armed) = (
  made_told net cs i n m st (fits_at servo (after net cs i n) i m w st) told c k g d st' o
      (fits_at servo (after net cs i (suc n)) i k (valid-after net cs i (suc n) v h (below cs n c g)) st') armed,
  armed_on net cs i v h n c m k g w st d st' o armed,
)

-- at power-up nothing was sent
started-told : (net : List ℕ) (cs : List Call) (i : ℕ) → Told net cs i 0 started
started-told net cs i = record {
  paced = λ z. absurd (false≢true z);
  ramped = λ z. absurd (false≢true z);
  waits = λ z. absurd (false≢true z);
  sent = off-sent net cs i 0 started refl;
}

-- a servo of a valid record that moves is in a mode that moves
in_motion : (k : Servo) → Fits k → Moves k → (k.run.drive.mode ≡ Pwm) ⊎ ((k.run.drive.mode ≡ Velocity) ⊎ (k.run.drive.mode ≡ Trapezoid))
in_motion k t z = at k.run.drive.mode refl (good k t).sane.mode z
  where
    still : k.run.profile.speed ≡ pos 0 → k.run.drive.pulse ≡ pos 0 → Moves k → ⊥
    still s p (inl n) = n s
    still s p (inr n) = n p

    at : (d : Mode) → k.run.drive.mode ≡ d → InMode d k.latched.power k.run → Moves k → (k.run.drive.mode ≡ Pwm) ⊎ ((k.run.drive.mode ≡ Velocity) ⊎ (k.run.drive.mode ≡ Trapezoid))
    at Off e i z = absurd (still i.0.rest i.2 z)
    at Pwm e i z = inl e
    at Hold e i z = absurd (still i.0 i.1 z)
    at Velocity e i z = inr (inl e)
    at Trapezoid e i z = inr (inr e)

pub what_moves_was_sent : WhatMovesWasSent
what_moves_was_sent net types cs i n k p h l e =
    let r : List ℕ = setup_record net types in
    let v : ValidRecord r = kept.setup net types p in
    let (s, q) = stood_before servo r cs i n k v h l e in
    let first = subst (Both r cs i 0) (set_up_is servo net types i s p q) (started-told r cs i, started_armed r cs i) in
    let (told, armed) = carried servo r cs i (Both r cs i) v h (told-on r cs i v h) s q first n l k e in
    (in_motion k (fits_at servo (after r cs i n) i k (valid-after r cs i n v h l) e), told.sent)
