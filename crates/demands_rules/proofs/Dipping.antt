-- The enable line through any calls, and a servo that low power has turned off. Assumes nothing.
use mathlib.Core.Path.{◌≡◌, refl, sym, ap, ap₂, subst, ◌∙◌}
use mathlib.Core.Logic.{◌⊎◌, inl, inr}
use mathlib.Core.List.{List}
use mathlib.Core.Bool.{Bool, true, false}
use Prim.Native.Nat.{ℕ, suc, ◌+◌, ◌%◌, ◌^◌, ◌<◌}
use native.Mathlib.Omega.{arith}
use native.Mathlib.Nat.{le_refl}
use borrow.Author.Tests.{eqb-true, eqb-false}
use lib.Dec.{eqb}
use lib.IntN.{pos}
use Rattle.line_receiver.specs.Frames.{Frame, frame_in}
use Rattle.servo_motion.specs.Setpoint.{whole}
use Rattle.servo_rules.specs.declared.Halt.{Halt}
use Rattle.servo_rules.specs.declared.Halt.TheVariants.{Keep, Release, Abrupt, Smooth, Here}
use Rattle.servo_rules.specs.declared.Mode.TheVariants.{Off, Velocity, Trapezoid}
use Rattle.servo_rules.specs.declared.Order.{Order}
use Rattle.servo_rules.specs.declared.Order.TheVariants.{ResetPosition, LoadTrajectory, Start, SetGain, Stop, SetHoming, ClearBits}
use Rattle.servo_rules.specs.declared.Run.{Run}
use Rattle.servo_rules.specs.declared.Sample.{Sample}
use Rattle.servo_rules.specs.declared.Servo.{Servo}
use Rattle.servo_rules.specs.State.{position, servo_off, idled, off}
use Rattle.servo_rules.specs.Loads.{loaded, starts_now, to_speed, start}
use Rattle.servo_rules.specs.Stops.{smooth, halted_by}
use Rattle.servo_rules.specs.Perform.{stopped, perform}
use Rattle.servo_rules.specs.Tick.{ticked}
use Rattle.servo_rules.specs.Answers.{enable_line, with_cause, execute}
use Rattle.servo_rules.specs.StopPromises.{Released}
use Rattle.servo_rules.specs.TickPromises.{Switches}
use Rattle.servo_rules.specs.HomingPromises.{Acts, HeldHere}
use Rattle.servo_rules.specs.RestPromises.{Resting, TurnsOn}
use Rattle.servo_rules.proofs.Known.{Known, known}
use Rattle.servo_rules.proofs.Keeping.{by_test, either, distinct}
use Rattle.servo_rules.proofs.Framed.{leaves as Leaves-by}
use Rattle.servo_rules.proofs.Ticking.{ticks}
use Rattle.servo_rules.proofs.DriveBits.{amplifier_bit}
use Rattle.servo_rules.proofs.Shown.{enabled}
use Rattle.servo_rules.proofs.AtRest.{halted_rests, order_rests, stays_resting, Rousing, rouses, stays_off}
use Rattle.servo_slot_rules.specs.Promises.{Fits}
use Rattle.servo_slot_rules.proofs.Good.{good}
use Rattle.types_rules.specs.Table.{servo}
use Rattle.types_rules.specs.Types.{slots}
use Rattle.net_rules.specs.Record.{net_in}
use Rattle.api_rules.specs.Calls.{setup_record}
use Rattle.api_rules.specs.Promises.{ValidRecord}
use Rattle.api_rules.proofs.TickBounds.{own_ten}
use Rattle.api_rules.proofs.Kept.{kept}
use Rattle.demands_history_rules.specs.Calls.{Call, tick, AllHanded, leaves, left_by}
use Rattle.demands_history_rules.proofs.Calls.{call_kept}
use Rattle.demands_rules.specs.Motion.{AtRest}
use Rattle.demands_rules.specs.Place.{after}
use Rattle.demands_rules.specs.ServoPlace.{At, servo_sample_at, Stands, Executed, Ticked}
use Rattle.demands_rules.specs.Sent.{encoder}
use Rattle.demands_rules.specs.Dip.{ComesBack, HeldByHoming, OffUntilStarted, LastSwitch, Switched, not_yet, by_stop, by_reset, LineOf, EnabledWasSent}
use Rattle.demands_rules.proofs.Alike.{raw-back, shift_place}
use Rattle.demands_rules.proofs.Motion.{counted, resting_rests}
use Rattle.demands_rules.proofs.Making.{same, framed, timed, set_up_is}
use Rattle.demands_rules.proofs.Placing.{stood_before, calm, Carries, carried, carried_on}
use Rattle.demands_rules.proofs.Since.{none_on, none_yet}
use Rattle.demands_rules.proofs.EachCall.{each-call}
use Rattle.demands_rules.proofs.Sending.{whole_at}
use Rattle.demands_rules.proofs.EveryCall.{never}

-- ---- what frames keep but for those such as Q that are executed, and ticks always, is kept through calls with none such
pub record Lasts (Q : Frame → Type 0) (P : Servo → Type 0) : Type 0 where
  pub frame : (f : Frame) (alone : Bool) (m : Servo) → P m → (f.damaged ≡ false → (execute f alone m).station.cause ≡ 0 → Q f → ⊥) → P (execute f alone m)
  pub tick : (x : Sample) (m : Servo) → P m → P (ticked x m)

module _ (Q : Frame → Type 0) (P : Servo → Type 0) (l : Lasts Q P) (net : List ℕ) (cs : List Call) (i : ℕ) where
  lasts_on : ((j : ℕ) (f : Frame) → Executed net cs i j f → Q f → ⊥) → Carries servo net cs i (λ n k. P k)
  lasts_on u n _ m _ g w st (same c _ _) st' o p = p
  lasts_on u n _ m k g w st (framed mark x room d goes a t) st' o p =
      l.frame (frame_in (net_in slots (after net cs i n)).receiver d) _ m p (calm servo net cs i n mark x room Q d k g goes t a o (u n))
  lasts_on u n _ m _ g w st (timed samples _ _) st' o p = l.tick (servo_sample_at samples i) m p

  pub lasts : (m k : Servo) → ValidRecord net → AllHanded cs → At net i m → At (left_by cs net) i k
      → ((j : ℕ) (f : Frame) → Executed net cs i j f → Q f → ⊥) → P m → P k
  lasts m k v h e q u p = carried_on servo net cs i (λ n k. P k) v h (lasts_on u) m e p k q

-- ---- the amplifier bit

amplifier_lasts : (b : Bool) → Lasts Switches (λ k. k.run.drive.amplifier ≡ b)
amplifier_lasts b = record {
  frame = λ f alone m p n. amplifier_bit.frame f alone m n ∙ p;
  tick = λ x m p. amplifier_bit.tick x m ∙ p;
}

-- with power 1 the line is the bit
line_is : (m k : Servo) → k.run.drive.amplifier ≡ m.run.drive.amplifier → m.latched.power ≡ 1 → k.latched.power ≡ 1
    → enable_line k ≡ enable_line m
line_is m k e p q = at m.run.drive.amplifier refl
  where
    at : (b : Bool) → m.run.drive.amplifier ≡ b → enable_line k ≡ enable_line m
    at true a = (enabled k).high (e ∙ a) q ∙ sym ((enabled m).high a p)
    at false a = (enabled k).unset (e ∙ a) ∙ sym ((enabled m).unset a)

pub comes_back : ComesBack
comes_back net cs i m k v h e q u =
    let b : k.run.drive.amplifier ≡ m.run.drive.amplifier = lasts Switches _ (amplifier_lasts m.run.drive.amplifier) net cs i m k v h e q u refl in
    record { bit = b; back = line_is m k b; down = (enabled k).unpowered }

-- ---- off

-- at rest, with the setpoint at this count of the encoder
abbrev Stood : ℕ → Servo → Type 0
Stood raw m = Resting m × (encoder m (whole m.run.profile.setpoint) ≡ raw)

-- so it stays with every order that does not turn a servo on
halted_stood : (raw : ℕ) (a : Bool) (h : Halt) (x : ℕ) (m : Servo) → Stood raw m → ((h ≡ Abrupt) ⊎ (h ≡ Here) → ⊥) → Stood raw (stopped a h x m)
unfolding stopped off idled smooth to_speed
halted_stood raw a h x m (r, e) n =
    let q = halted_rests h (position m) x m.run r in
    (record { speed = q.speed; pulse = q.pulse; aim = q.aim; goal = q.goal }, ap (λ (s : ℕ). encoder m (whole s)) (by h n) ∙ e)
  where
    by : (h : Halt) → ((h ≡ Abrupt) ⊎ (h ≡ Here) → ⊥) → (halted_by h (position m) x m.run).profile.setpoint ≡ m.run.profile.setpoint
    by Keep n = refl
    by Release n = refl
    by Abrupt n = absurd (n (inl refl))
    by Smooth n =
        either (λ (s : Run). s.profile.setpoint ≡ m.run.profile.setpoint) (servo_off m.run.drive.mode) (off m.run)
        (to_speed m.run.profile.setpoint (pos 0) m.run.profile.acceleration m.run) refl refl
    by Here n = absurd (n (inr refl))

order_stood : (raw : ℕ) (c : Order) (m : Servo) → Fits m → (Rousing c → ⊥) → Stood raw m → Stood raw (perform c m)
unfolding loaded
order_stood raw ResetPosition m t n (r, e) = (order_rests ResetPosition m (counted m t) r (λ z. z), shift_place m t ∙ e)
order_stood raw (LoadTrajectory c) m t n s = by_test (Stood raw) (starts_now c) (start (loaded c m)) (loaded c m) (λ z. absurd (n z)) (λ z. s)
order_stood raw Start m t n s = absurd (n tt)
order_stood raw (SetGain g) m t n s = s
order_stood raw (Stop a h x) m t n s = halted_stood raw a h x m s n
order_stood raw (SetHoming b) m t n s = s
order_stood raw ClearBits m t n s = s

released_rests : (m : Servo) → Released m.run → Resting m
released_rests m r = record {
  speed = r.speed;
  pulse = r.pulse;
  aim = λ q. absurd (distinct Off Velocity refl (sym r.mode ∙ q));
  goal = λ q. absurd (distinct Off Trapezoid refl (sym r.mode ∙ q));
}

off_rests : (m : Servo) → Released m.run → AtRest m
off_rests m r = resting_rests m (released_rests m r)

-- off, or held where it was by homing
module _ (net : List ℕ) (cs : List Call) (i : ℕ) (v : ValidRecord net) (h : AllHanded cs)
    (u : (j : ℕ) (f : Frame) → Executed net cs i j f → TurnsOn f → ⊥) where
  abbrev Down : Servo → Type 0
  Down k = Released k.run ⊎ HeldByHoming net cs i k

  held : (k m : Servo) (b : HeldByHoming net cs i m) → Stood b.homed.sample.raw k → HeldByHoming net cs i k
  held k m b (r, e) = record { by = b.by; homed = b.homed; rests = r; place = e }

  frame-down : (n : ℕ) (m : Servo) (f : Frame) (alone : Bool) → f.damaged ≡ false → Executed net cs i n f
      → (execute f alone m).station.cause ≡ 0 → Fits m → Down m → Down (execute f alone m)
  frame-down n m f alone d x c t (inl r) = inl (stays_off.frame f alone m r (λ d c. u n f x))
  frame-down n m f alone d x c t (inr b) =
      Leaves-by Down f alone m (record {
        kept = λ s. inr (held _ m b (b.rests, b.place));
        renewed = λ d q. inl (record { mode = refl; speed = refl; output = refl; pulse = refl; cut = refl; memory = refl });
        performed = λ c d q z.
            inr (held _ m b
            (order_stood b.homed.sample.raw c m t (λ o. u n f x (rouses f c (subst (Known f) q (known f alone)) o)) (b.rests, b.place)));
      })

  -- a tick that homing's abrupt stop ends in holding
  now_held : (n : ℕ) (m : Servo) (x : Sample) → Fits (ticked x m) → Stands net cs i n m → Ticked net cs i n x → Acts Abrupt x m → HeldHere (ticked x m)
      → Resting (ticked x m) → HeldByHoming net cs i (ticked x m)
  now_held n m x t st k a g r = record {
    by = n;
    homed = record { sample = x; ticked = k; before = m; stood = st; acts = a };
    rests = r;
    place =
        ap (λ (s : ℕ). encoder (ticked x m) (whole s)) g.setpoint
        ∙ ap (encoder (ticked x m)) (whole_at (position (ticked x m)))
        ∙ raw-back (ticked x m) t
        ∙ ap (λ (x : Sample). x.raw) (ticks x m).latched;
  }

  tick_down : (n : ℕ) (m : Servo) (x : Sample) → Fits (ticked x m) → Fits m → Stands net cs i n m → Ticked net cs i n x
      → Down m → Down (ticked x m)
  tick_down n m x t' t st k (inl r) =
      by (stays_off.tick x m r) (stays_resting.tick x m (good m t).sane.profile.setpoint (released_rests m r)).0
    where
      by : Released (ticked x m).run ⊎ (Acts Abrupt x m × HeldHere (ticked x m)) → Resting (ticked x m) → Down (ticked x m)
      by (inl q) s = inl q
      by (inr (a, g)) s = inr (now_held n m x t' st k a g s)
  tick_down n m x t' t st k (inr b) = inr (by (stays_resting.tick x m (good m t).sane.profile.setpoint b.rests))
    where
      by : Resting (ticked x m) × (((ticked x m).run.profile.setpoint ≡ m.run.profile.setpoint) ⊎ (Acts Abrupt x m × HeldHere (ticked x m)))
          → HeldByHoming net cs i (ticked x m)
      by (s, inl e) = held _ m b (s, ap₂ (λ (p o : ℕ). (whole p + o) % 2 ^ 32) e (ticks x m).offset ∙ b.place)
      by (s, inr (a, g)) = now_held n m x t' st k a g s

  down-on : Carries servo net cs i (λ n. Down)
  down-on = each-call net cs i v h (λ n. Down) (record {
    same = λ n m u p. p;
    refused = λ n m c u p. refused m c p;
    done = λ n m f alone t d x one c p. frame-down n m f alone d x c t p;
    tick = λ n m x t t' u st k st' o p. tick_down n m x t' t st k p;
  })
    where
      refused : (m : Servo) (c : ℕ) → Down m → Down (with_cause c m)
      refused m c (inl r) = inl r
      refused m c (inr b) = inr (held _ m b (b.rests, b.place))

  off_or_held : (m k : Servo) → At net i m → At (left_by cs net) i k → Released m.run → Down k
  off_or_held m k e q r = carried_on servo net cs i (λ n. Down) v h down-on m e (inl r) k q

pub off_until_started : OffUntilStarted
off_until_started net samples cs i m k v b h e goes p q =
    let t : List ℕ = leaves net (tick samples) in
    let x : Sample = servo_sample_at samples i in
    let w : ValidRecord t = call_kept net (tick samples) b v in
    let s : At t i (ticked x m) = own_ten net samples i servo m v.1 b goes e in
    let r : Released (ticked x m).run = (ticks x m).low p in (
      λ u. off_or_held t cs i w h u (ticked x m) k s q r,
      λ n. never t cs i (ticked x m) k w h s q (off_rests (ticked x m) r) n,
    )

-- ---- from setup

module _ (net : List ℕ) (cs : List Call) (i : ℕ) where
  -- nothing is switched by call n
  module _ (n : ℕ) (u : (f : Frame) → Executed net cs i n f → Switches f → ⊥) where
    last_on : (j : ℕ) (f : Frame) → LastSwitch net cs i n j f → LastSwitch net cs i (suc n) j f
    last_on j f s = record { earlier = omega (arith, s.earlier); executed = s.executed; last = none_on servo net cs i Switches j n s.last u }

    quiet : (a : Bool) → Switched net cs i n a → Switched net cs i (suc n) a
    quiet _ (by_stop j f s c) = by_stop j f (last_on j f s) c
    quiet _ (by_reset j f s c) = by_reset j f (last_on j f s) c
    quiet _ (not_yet h) = not_yet (λ j f l x z. at j f l x z (eqb j n) refl)
      where
        at : (j : ℕ) (f : Frame) → j < suc n → Executed net cs i j f → Switches f → (t : Bool) → eqb j n ≡ t → ⊥
        at j f l x z true e = u f (subst (λ (j : ℕ). Executed net cs i j f) (eqb-true j n e) x) z
        at j f l x z false e = let k = eqb-false j n e in h j f (omega arith) x z

  abbrev Tells : ℕ → Servo → Type 0
  Tells n k = Switched net cs i n k.run.drive.amplifier

  kept_tells : (n : ℕ) (m k : Servo) → k.run.drive.amplifier ≡ m.run.drive.amplifier → ((g : Frame) → Executed net cs i n g → Switches g → ⊥)
      → Tells n m → Tells (suc n) k
  kept_tells n m k e u p = subst (Switched net cs i (suc n)) (sym e) (quiet n u m.run.drive.amplifier p)

  -- a frame that is executed: it switches, or it is another
  done_tells : (n : ℕ) (m : Servo) (f : Frame) (alone : Bool) → f.damaged ≡ false → Executed net cs i n f → ((g : Frame) → Executed net cs i n g → g ≡ f)
      → (execute f alone m).station.cause ≡ 0 → Tells n m → Tells (suc n) (execute f alone m)
  done_tells n m f alone z x one c p = at (eqb f.code 7) refl (eqb f.code 15) refl
    where
      now : LastSwitch net cs i (suc n) n f
      now = record { earlier = le_refl (suc n); executed = x; last = none_yet servo net cs i Switches n }

      neither : (f.code ≡ 7 → ⊥) → (f.code ≡ 15 → ⊥) → Switches f → ⊥
      neither s r (inl e) = s e
      neither s r (inr e) = r e

      at : (s : Bool) → eqb f.code 7 ≡ s → (r : Bool) → eqb f.code 15 ≡ r → Tells (suc n) (execute f alone m)
      at true e r y = let q = eqb-true _ 7 e in subst (Switched net cs i (suc n)) (sym (amplifier_bit.stop f alone m z q c)) (by_stop n f now q)
      at false e true y = let q = eqb-true _ 15 y in subst (Switched net cs i (suc n)) (sym (amplifier_bit.reset f alone m z q c)) (by_reset n f now q)
      at false e false y =
          let q = neither (eqb-false _ 7 e) (eqb-false _ 15 y) in
          kept_tells n m (execute f alone m) (amplifier_bit.frame f alone m (λ z c. q)) (λ g x z. q (subst Switches (one g x) z)) p

  switched_on_lem : ValidRecord net → AllHanded cs → Carries servo net cs i Tells
  switched_on_lem v h = each-call net cs i v h Tells (record {
    same = λ n m u p. kept_tells n m m refl (λ g x z. u g x) p;
    refused = λ n m c u p. kept_tells n m (with_cause c m) refl (λ g x z. u g x) p;
    done = λ n m f alone t. done_tells n m f alone;
    tick = λ n m x t t' u st k st' o p. kept_tells n m (ticked x m) (amplifier_bit.tick x m) (λ g x z. u g x) p;
  })

line_of : (k : Servo) → LineOf k.run.drive.amplifier k
line_of k = record { high = (enabled k).high; low = by }
  where
    by : (k.run.drive.amplifier ≡ false) ⊎ (k.latched.power ≡ 1 → ⊥) → enable_line k ≡ 0
    by (inl e) = (enabled k).unset e
    by (inr n) = (enabled k).unpowered n

pub enabled_was_sent : EnabledWasSent
enabled_was_sent net types cs i n k p h l e =
    let r : List ℕ = setup_record net types in
    let v : ValidRecord r = kept.setup net types p in
    let (s, q) = stood_before servo r cs i n k v h l e in
    let first : Switched r cs i 0 s.run.drive.amplifier =
    subst (λ (s : Servo). Switched r cs i 0 s.run.drive.amplifier) (set_up_is servo net types i s p q) (not_yet (λ j f l x z. omega arith)) in
    (k.run.drive.amplifier, carried servo r cs i (Tells r cs i) v h (switched_on_lem r cs i v h) s q first n l k e, line_of k)
