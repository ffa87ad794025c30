-- What the filter remembers between ticks, and through those that are cut. Assumes nothing.
use mathlib.Core.Path.{◌≡◌, refl, sym, ap, subst, ◌∙◌}
use mathlib.Core.Logic.{◌⊎◌, inl, inr}
use mathlib.Core.Bool.{Bool, true, false, true≢false, false≢true}
use Prim.Native.Nat.{ℕ}
use native.Mathlib.Omega.{arith}
use lib.IntN.{pos}
use Rattle.base_integers.specs.Bits.{is_set}
use Rattle.line_receiver.specs.Frames.{Frame}
use Rattle.module_rules.specs.declared.Fault.{Fault}
use Rattle.module_rules.specs.declared.Fault.TheVariants.{Unknown, Count, Value}
use Rattle.module_rules.specs.Rules.{Request, malformed, set, reset, wants, fault_cause}
use Rattle.module_rules.proofs.Settled.{settles, cause}
use Rattle.servo_filter.proofs.Answers.{cut-leaves}
use Rattle.servo_filter.specs.declared.Memory.{Memory}
use Rattle.servo_filter.specs.Filter.{blank, Told}
use Rattle.servo_rules.specs.declared.Carried.{Carried}
use Rattle.servo_rules.specs.declared.Halt.{Halt}
use Rattle.servo_rules.specs.declared.Halt.TheVariants.{Keep, Release, Abrupt, Smooth, Here}
use Rattle.servo_rules.specs.declared.Order.{Order}
use Rattle.servo_rules.specs.declared.Order.TheVariants.{ResetPosition, LoadTrajectory, Start, SetGain, Stop, SetHoming, ClearBits}
use Rattle.servo_rules.specs.declared.Way.{Way}
use Rattle.servo_rules.specs.declared.Way.TheVariants.{Pulse, Speed, Move}
use Rattle.servo_rules.specs.declared.Settings.{Settings}
use Rattle.servo_rules.specs.declared.Run.{Run}
use Rattle.servo_rules.specs.declared.Sample.{Sample}
use Rattle.servo_rules.specs.declared.Servo.{Servo}
use Rattle.servo_rules.specs.Carried.{carried_in}
use Rattle.servo_rules.specs.Asks.{one_halt}
use Rattle.servo_rules.specs.State.{position, servo_off, idled, off}
use Rattle.servo_rules.specs.Loads.{way_of, load_of, loaded, starts_now, to_speed, to_place, started_by, start}
use Rattle.servo_rules.specs.Stops.{holding, smooth, halted_by}
use Rattle.servo_rules.specs.Perform.{reset_position, stopped, can, perform}
use Rattle.servo_rules.specs.Tick.{followed_at, tripped, pulsed, met, ticked}
use Rattle.servo_rules.specs.Answers.{servo, request, execute}
use Rattle.servo_rules.specs.HomingPromises.{Acts}
use Rattle.servo_rules.specs.CutPromises.{BlanksByStop, Blanks, Remembers}
use Rattle.servo_rules.proofs.Keeping.{by_test}
use Rattle.servo_rules.proofs.Loading.{ways}
use Rattle.servo_rules.proofs.Bounds.{one_halt_lem}
use Rattle.servo_rules.proofs.Starting.{begins}
use Rattle.servo_rules.proofs.Known.{spared, first, Known, known, BitOf, halt_bits, halt_bits_lem}
use Rattle.servo_rules.proofs.Apart.{apart}
use Rattle.servo_rules.proofs.Framed.{leaves}
use Rattle.servo_rules.proofs.Meeting.{here, before, not_here, met_runs, by_power_lem}
use Rattle.servo_rules.proofs.Ends.{tick_ends}
use Rattle.servo_rules.proofs.FindingHome.{uncut}

-- the memory as it was
abbrev Same : Servo → Servo → Type 0
Same m n = n.run.memory ≡ m.run.memory

-- the orders that blank it: a PWM start, and every stop but Keep and a smooth one of a servo that is on
abbrev Blanking : Order → Servo → Type 0
Blanking ResetPosition m = ⊥
Blanking (LoadTrajectory c) m = (starts_now c ≡ true) × (way_of c.control ≡ Pulse)
Blanking Start m = m.settings.load.way ≡ Pulse
Blanking (SetGain t) m = ⊥
Blanking (Stop a h x) m = ((h ≡ Release) ⊎ ((h ≡ Abrupt) ⊎ (h ≡ Here))) ⊎ ((h ≡ Smooth) × (servo_off m.run.drive.mode ≡ true))
Blanking (SetHoming b) m = ⊥
Blanking ClearBits m = ⊥

started-same : (w : Way) (here : ℕ) (s : Settings) (r : Run) → (w ≡ Pulse → ⊥) → (started_by w here s r).memory ≡ r.memory
unfolding to_speed to_place
started-same Pulse here s r n = absurd (n refl)
started-same Speed here s r n = refl
started-same Move here s r n = refl

start-same : (m : Servo) → (m.settings.load.way ≡ Pulse → ⊥) → Same m (start m)
unfolding start
start-same m n = started-same m.settings.load.way (position m) m.settings m.run n

halted-same : (h : Halt) (here x : ℕ) (r : Run)
    → (((h ≡ Release) ⊎ ((h ≡ Abrupt) ⊎ (h ≡ Here))) ⊎ ((h ≡ Smooth) × (servo_off r.drive.mode ≡ true)) → ⊥)
    → (halted_by h here x r).memory ≡ r.memory
unfolding smooth to_speed
halted-same Keep here x r n = refl
halted-same Release here x r n = absurd (n (inl (inl refl)))
halted-same Abrupt here x r n = absurd (n (inl (inr (inl refl))))
halted-same Smooth here x r n =
    by_test (λ (s : Run). s.memory ≡ r.memory) (servo_off r.drive.mode) (off r) (to_speed r.profile.setpoint (pos 0) r.profile.acceleration r)
    (λ e. absurd (n (inr (refl, e))))
    (λ e. refl)
halted-same Here here x r n = absurd (n (inl (inr (inr refl))))

order_same : (c : Order) (m : Servo) → (Blanking c m → ⊥) → Same m (perform c m)
unfolding reset_position loaded load_of stopped
order_same ResetPosition m n = refl
order_same (LoadTrajectory c) m n =
    by_test (Same m) (starts_now c) (start (loaded c m)) (loaded c m) (λ e. start-same (loaded c m) (λ w. n (e, w))) (λ e. refl)
order_same Start m n = start-same m n
order_same (SetGain t) m n = refl
order_same (Stop a h x) m n = halted-same h (position m) x m.run n
order_same (SetHoming b) m n = refl
order_same ClearBits m n = refl

-- a control byte of a PWM load has bit 4 clear
pulses : Way → Bool
pulses Pulse = true
pulses Speed = false
pulses Move = false

pulse-bit : (control : ℕ) → way_of control ≡ Pulse → is_set 4 control ≡ false
unfolding pulses
pulse-bit control e = at (is_set 4 control) (is_set 5 control) refl refl
  where
    at : (s t : Bool) → is_set 4 control ≡ s → is_set 5 control ≡ t → is_set 4 control ≡ false
    at false t p q = p
    at true true p q = absurd (false≢true (ap pulses (sym ((ways control).1 p q) ∙ e)))
    at true false p q = absurd (false≢true (ap pulses (sym ((ways control).2 p q) ∙ e)))

-- a frame that asks for one has its code and its bits
blanks : (f : Frame) (c : Order) (m : Servo) → Known f (wants c) → Blanking c m → Blanks m f
unfolding carried_in
blanks f ResetPosition m k o = absurd o
blanks f (LoadTrajectory c) m (w, e) o =
    inl (w.0, ap starts_now (sym e) ∙ o.0, pulse-bit (first f) (ap (λ (c : Carried). way_of c.control) (sym e) ∙ o.1))
blanks f Start m (c, n) o = inr (inl (c, o))
blanks f (SetGain t) m k o = absurd o
blanks f (Stop a h x) m (c, e, y, n, b, w) o = inr (inr (inl (c, at o)))
  where
    bits : (j : Halt) → h ≡ j → BitOf j (halt_bits (first f))
    bits j q = subst (λ (j : Halt). BitOf j (halt_bits (first f))) (sym e ∙ q) (halt_bits_lem (first f))

    at : Blanking (Stop a h x) m → BlanksByStop m f
    at (inl (inl q)) = inl (bits Release q)
    at (inl (inr (inl q))) = inr (inl (bits Abrupt q))
    at (inl (inr (inr q))) = inr (inr (inl (bits Here q)))
    at (inr (q, s)) = inr (inr (inr (bits Smooth q, s)))
blanks f (SetHoming b) m k o = absurd o
blanks f ClearBits m k o = absurd o

frame_same : (f : Frame) (alone : Bool) (m : Servo) → (f.damaged ≡ false → (execute f alone m).station.cause ≡ 0 → Blanks m f → ⊥) → Same m (execute f alone m)
frame_same f alone m n = leaves (Same m) f alone m (record {
  kept = λ s. refl;
  renewed = λ d q. absurd (n d (done ((cause servo apart f alone m).renewed d q) refl) (inr (inr (inr (subst (Known f) q (known f alone))))));
  performed = λ c d q t.
      order_same c m (λ o.
      n d (done ((cause servo apart f alone m).executed c d q t) refl) (blanks f c m (subst (Known f) q (known f alone)) o));
})
  where
    done : {k : Servo} → execute f alone m ≡ k → k.station.cause ≡ 0 → (execute f alone m).station.cause ≡ 0
    done e z = ap (λ (k : Servo). k.station.cause) e ∙ z

-- ---- and the other way round

-- a frame of another code, or that any type takes, is none of these
no_other : (m : Servo) (f : Frame) (n : ℕ) → f.code ≡ n → (n ≡ 4 → ⊥) → (n ≡ 5 → ⊥) → (n ≡ 7 → ⊥) → (n ≡ 15 → ⊥) → Blanks m f → ⊥
no_other m f n e a b c d (inl x) = a (sym e ∙ x.0)
no_other m f n e a b c d (inr (inl x)) = b (sym e ∙ x.0)
no_other m f n e a b c d (inr (inr (inl x))) = c (sym e ∙ x.0)
no_other m f n e a b c d (inr (inr (inr x))) = d (sym e ∙ x)

not_spared : (m : Servo) (f : Frame) → spared f.code ≡ true → Blanks m f → ⊥
not_spared m f s (inl x) = true≢false (sym s ∙ ap spared x.0)
not_spared m f s (inr (inl x)) = true≢false (sym s ∙ ap spared x.0)
not_spared m f s (inr (inr (inl x))) = true≢false (sym s ∙ ap spared x.0)
not_spared m f s (inr (inr (inr x))) = true≢false (sym s ∙ ap spared x)

-- each by its own code
load_blanks : (m : Servo) (f : Frame) → f.code ≡ 4 → Blanks m f → (is_set 7 (first f) ≡ true) × (is_set 4 (first f) ≡ false)
load_blanks m f e (inl x) = (x.1, x.2)
load_blanks m f e (inr (inl x)) = absurd (omega (arith, sym e ∙ x.0))
load_blanks m f e (inr (inr (inl x))) = absurd (omega (arith, sym e ∙ x.0))
load_blanks m f e (inr (inr (inr x))) = absurd (omega (arith, sym e ∙ x))

start_blanks : (m : Servo) (f : Frame) → f.code ≡ 5 → Blanks m f → m.settings.load.way ≡ Pulse
start_blanks m f e (inl x) = absurd (omega (arith, sym e ∙ x.0))
start_blanks m f e (inr (inl x)) = x.1
start_blanks m f e (inr (inr (inl x))) = absurd (omega (arith, sym e ∙ x.0))
start_blanks m f e (inr (inr (inr x))) = absurd (omega (arith, sym e ∙ x))

stop_blanks : (m : Servo) (f : Frame) → f.code ≡ 7 → Blanks m f → BlanksByStop m f
stop_blanks m f e (inl x) = absurd (omega (arith, sym e ∙ x.0))
stop_blanks m f e (inr (inl x)) = absurd (omega (arith, sym e ∙ x.0))
stop_blanks m f e (inr (inr (inl x))) = x.1
stop_blanks m f e (inr (inr (inr x))) = absurd (omega (arith, sym e ∙ x))

pulse-blank : (m : Servo) → m.settings.load.way ≡ Pulse → (start m).run.memory ≡ blank
pulse-blank m e = ((begins m).pulse e).4

-- of two kinds of Stop one only
smooth-only : (m : Servo) (f : Frame) → one_halt (first f) ≡ true → is_set 3 (first f) ≡ true → BlanksByStop m f → servo_off m.run.drive.mode ≡ true
smooth-only m f w s (inl x) = absurd (false≢true (sym ((one_halt_lem (first f) w).single 1 3 (omega arith) (omega arith) (omega arith) x) ∙ s))
smooth-only m f w s (inr (inl x)) = absurd (false≢true (sym ((one_halt_lem (first f) w).single 2 3 (omega arith) (omega arith) (omega arith) x) ∙ s))
smooth-only m f w s (inr (inr (inl x))) = absurd (false≢true (sym ((one_halt_lem (first f) w).single 3 4 (omega arith) (omega arith) (omega arith) s) ∙ x))
smooth-only m f w s (inr (inr (inr x))) = x.1

keeps_none : (m : Servo) (f : Frame) → BitOf Keep (halt_bits (first f)) → BlanksByStop m f → ⊥
keeps_none m f b (inl x) = true≢false (sym x ∙ b.0)
keeps_none m f b (inr (inl x)) = true≢false (sym x ∙ b.1)
keeps_none m f b (inr (inr (inl x))) = true≢false (sym x ∙ b.3)
keeps_none m f b (inr (inr (inr x))) = true≢false (sym x.0 ∙ b.2)

halt-blank : (h : Halt) (here x : ℕ) (m : Servo) (f : Frame) → BitOf h (halt_bits (first f)) → one_halt (first f) ≡ true → BlanksByStop m f
    → (halted_by h here x m.run).memory ≡ blank
unfolding holding smooth off idled
halt-blank Keep here x m f b w o = absurd (keeps_none m f b o)
halt-blank Release here x m f b w o = refl
halt-blank Abrupt here x m f b w o = refl
halt-blank Smooth here x m f b w o = rw (smooth-only m f w b o) refl
halt-blank Here here x m f b w o = refl

order-blank : (c : Order) (m : Servo) (f : Frame) → Known f (wants c) → Blanks m f → (perform c m).run.memory ≡ blank
unfolding carried_in loaded load_of stopped
order-blank ResetPosition m f k o = absurd (no_other m f 0 k (λ e. omega arith) (λ e. omega arith) (λ e. omega arith) (λ e. omega arith) o)
order-blank (LoadTrajectory c) m f (w, e) o =
    let b = load_blanks m f w.0 o in
    let s : starts_now c ≡ true = ap starts_now e ∙ b.0 in
    let p : way_of c.control ≡ Pulse = ap (λ (c : Carried). way_of c.control) e ∙ (ways (first f)).0 b.1 in
    rw s (pulse-blank (loaded c m) p)
order-blank Start m f (c, n) o = pulse-blank m (start_blanks m f c o)
order-blank (SetGain t) m f k o = absurd (not_spared m f k o)
order-blank (Stop a h x) m f (c, e, y, n, b, w) o =
    halt-blank h (position m) x m f (subst (λ (h : Halt). BitOf h (halt_bits (first f))) (sym e) (halt_bits_lem (first f))) w (stop_blanks m f c o)
order-blank (SetHoming b) m f k o = absurd (not_spared m f (ap spared k.0) o)
order-blank ClearBits m f k o = absurd (not_spared m f k o)

fault_not_0 : (x : Fault) → fault_cause x ≡ 0 → ⊥
fault_not_0 Unknown e = omega arith
fault_not_0 Count e = omega arith
fault_not_0 Value e = omega arith

frame-blank : (f : Frame) (alone : Bool) (m : Servo) → f.damaged ≡ false → (execute f alone m).station.cause ≡ 0 → Blanks m f → (execute f alone m).run.memory ≡ blank
frame-blank f alone m d z o = by (request f alone) refl (known f alone)
  where
    by : (q : Request Order) → request f alone ≡ q → Known f q → (execute f alone m).run.memory ≡ blank
    by (malformed x) e k = absurd (fault_not_0 x (sym (ap (λ (k : Servo). k.station.cause) (settles servo f alone m d e)) ∙ z))
    by (set s) e k = absurd (not_spared m f k o)
    by reset e k = ap (λ (k : Servo). k.run.memory) (settles servo f alone m d e)
    by (wants c) e k = at (can c m) refl
      where
        at : (t : Bool) → can c m ≡ t → (execute f alone m).run.memory ≡ blank
        at true t = ap (λ (k : Servo). k.run.memory) ((cause servo apart f alone m).executed c d e t) ∙ order-blank c m f k o
        at false t =
            let three = ap (λ (k : Servo). k.station.cause) ((cause servo apart f alone m).not_now c d e t) in
            absurd (omega arith)

-- what a tick meets has the memory that there was, or is off, or holds by homing's abrupt stop
module _ (x : Sample) (m : Servo) where
  abbrev Remains : Run → Type 0
  Remains r = (r.memory ≡ m.run.memory) ⊎ (((servo_off r.drive.mode ≡ true) × (r.drive.cut ≡ false)) ⊎ Acts Abrupt x m)

  met-memory : Remains (met x m).run
  unfolding off idled smooth to_speed
  met-memory =
      let p : Remains (before x m) = by_power_lem Remains x.power m.run (λ e. inr (inl (refl, refl))) (λ n. inl refl) in
      met_runs x m Remains p (λ h a. by h a p)
    where
      slow : (r : Run) → Remains r → Remains (smooth r)
      slow r p = by_test Remains (servo_off r.drive.mode) (off r) (to_speed r.profile.setpoint (pos 0) r.profile.acceleration r)
          (λ e. inr (inl (refl, refl))) (λ e. on p e)
        where
          on : Remains r → servo_off r.drive.mode ≡ false → Remains (to_speed r.profile.setpoint (pos 0) r.profile.acceleration r)
          on (inl q) e = inl q
          on (inr (inl q)) e = absurd (false≢true (sym e ∙ q.0))
          on (inr (inr q)) e = inr (inr q)

      by : (h : Halt) → Acts h x m → Remains (before x m) → Remains (halted_by h (here x m) 0 (before x m))
      by Keep a p = p
      by Release a p = inr (inl (refl, refl))
      by Abrupt a p = inr (inr a)
      by Smooth a p = slow (before x m) p
      by Here a p = absurd (not_here m.homing.byte a.asked)

  -- a tick that is cut
  tick_same : (ticked x m).run.drive.cut ≡ true → (ticked x m).run.memory.integral ≡ m.run.memory.integral
  unfolding pulsed tripped idled off
  tick_same = by met-memory
    where
      by : Remains (met x m).run → (ticked x m).run.drive.cut ≡ true → (ticked x m).run.memory.integral ≡ m.run.memory.integral
      by (inl e) =
          let kept = ap (λ (y : Memory). y.integral) e in
          tick_ends (λ (s : Run). s.drive.cut ≡ true → s.memory.integral ≡ m.run.memory.integral) x m (record {
            off = λ q c. kept;
            pwm = λ q c. kept;
            output = λ s t q c.
                sym (ap (λ (t : Told). t.memory.integral) q)
                ∙ cut-leaves m.settings.tuning.gains (met x m).run.memory (followed_at (here x m) (met x m).run) (ap (λ (t : Told). t.cut) q ∙ c)
                ∙ kept;
            trip = λ q c. absurd (false≢true c);
          })
      by (inr (inl (o, k))) =
          tick_ends (λ (s : Run). s.drive.cut ≡ true → s.memory.integral ≡ m.run.memory.integral) x m (record {
            off = λ q c. absurd (false≢true (sym k ∙ c));
            pwm = λ q c. absurd (false≢true (sym k ∙ c));
            output = λ s t q c. absurd (false≢true (sym s ∙ o));
            trip = λ q c. absurd (false≢true c);
          })
      by (inr (inr a)) = λ c. absurd (false≢true (sym (uncut x m a) ∙ c))

pub remembers : Remembers
remembers = record { blanked = frame-blank; frame = frame_same; cut = tick_same }
