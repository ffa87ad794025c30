-- What sets and what clears the error bit and the amplifier bit. Assumes nothing.
use mathlib.Core.Path.{◌≡◌, refl, sym, ap, subst, ◌∙◌}
use mathlib.Core.Logic.{◌⊎◌, inl, inr}
use mathlib.Core.Bool.{Bool, true, false, false≢true}
use Prim.Native.Nat.{ℕ, ◌<◌}
use native.Mathlib.Omega.{arith}
use borrow.Author.Tests.{eqb-true, eqb-false}
use lib.ListN.{length, get_or}
use lib.Dec.{eqb}
use lib.IntN.{nat_abs}
use Rattle.base_integers.specs.Bits.{is_set}
use Rattle.base_layout.specs.Bytes.{of_le, read_at}
use Rattle.line_receiver.specs.Frames.{Frame}
use Rattle.module_rules.specs.declared.Fault.TheVariants.{Count, Value}
use Rattle.module_rules.specs.Rules.{Request, malformed, reset, wants, ranged, settled}
use Rattle.module_rules.proofs.Settled.{settles, cause}
use Rattle.servo_filter.specs.declared.Gains.{Gains}
use Rattle.servo_filter.specs.Filter.{Told}
use Rattle.servo_filter.proofs.Answers.{works, Ends, tripped, plain, cut, ends}
use Rattle.servo_rules.specs.declared.Halt.{Halt}
use Rattle.servo_rules.specs.declared.Order.{Order}
use Rattle.servo_rules.specs.declared.Order.TheVariants.{ResetPosition, LoadTrajectory, Start, SetGain, Stop, SetHoming, ClearBits}
use Rattle.servo_rules.specs.declared.Sample.{Sample}
use Rattle.servo_rules.specs.declared.Run.{Run}
use Rattle.servo_rules.specs.declared.Servo.{Servo}
use Rattle.servo_rules.specs.Asks.{halt_of, one_halt, stop_count, stop_meant}
use Rattle.servo_rules.specs.State.{position_at, position, idled, off}
use Rattle.servo_rules.specs.Loads.{loaded, starts_now, start}
use Rattle.servo_rules.specs.Perform.{reset_position, stopped, can, perform}
use Rattle.servo_rules.specs.Tick.{tripped as tripping, followed_at, pulsed, met, ticked}
use Rattle.servo_rules.specs.Answers.{servo, request, with_cause, execute}
use Rattle.servo_rules.specs.TickPromises.{followed, ErrorBit, Switches, AmplifierBit}
use Rattle.servo_rules.proofs.Keeping.{either, started_keeps, halted_keeps}
use Rattle.servo_rules.proofs.Known.{Known, known}
use Rattle.servo_rules.proofs.Coding.{codes}
use Rattle.servo_rules.proofs.Apart.{apart}
use Rattle.servo_rules.proofs.Framed.{leaves}
use Rattle.servo_rules.proofs.MeetingKeeps.{met_error, met_amplifier}
use Rattle.servo_rules.proofs.Ends.{answer, tick_ends}
use Rattle.servo_rules.proofs.Ticking.{ticks}
use Rattle.servo_rules.proofs.Shown.{enabled}

-- an error bit, and an amplifier bit, as it was
abbrev Error : Servo → Servo → Type 0
Error m n = n.run.drive.error ≡ m.run.drive.error

abbrev Amplifier : Servo → Servo → Type 0
Amplifier m n = n.run.drive.amplifier ≡ m.run.drive.amplifier

start_as : (m : Servo) → Error m (start m) × Amplifier m (start m)
unfolding start
start_as m = let k = started_keeps m.settings.load.way (position m) m.settings m.run in (k.error, k.amplifier)

-- an order that is no Clear Bits, and one that is no Stop
record OrderAs (c : Order) (m : Servo) : Type 0 where
  error : (c ≡ ClearBits → ⊥) → Error m (perform c m)
  amplifier : ((a : Bool) (h : Halt) (x : ℕ) → c ≡ Stop a h x → ⊥) → Amplifier m (perform c m)

order_as : (c : Order) (m : Servo) → OrderAs c m
unfolding reset_position loaded stopped
order_as ResetPosition m = record { error = λ b. refl; amplifier = λ b. refl }
order_as (LoadTrajectory c) m =
    let k = either (λ n. Error m n × Amplifier m n) (starts_now c) (start (loaded c m)) (loaded c m) (start_as (loaded c m)) (refl, refl) in
    record { error = λ b. k.0; amplifier = λ b. k.1 }
order_as Start m = record { error = λ b. (start_as m).0; amplifier = λ b. (start_as m).1 }
order_as (SetGain t) m = record { error = λ b. refl; amplifier = λ b. refl }
order_as (Stop a h x) m = record { error = λ b. (halted_keeps h (position m) x m.run).error; amplifier = λ b. absurd (b a h x refl) }
order_as (SetHoming b) m = record { error = λ b. refl; amplifier = λ b. refl }
order_as ClearBits m = record { error = λ b. absurd (b refl); amplifier = λ b. refl }

-- a filter that trips has seen an error above the limit
trip_far : (here : ℕ) (g : Gains) (r : Run) → (answer here g r).trips ≡ true → g.el < nat_abs (followed_at here r)
trip_far here g r q = by (ends g r.memory (followed_at here r))
  where
    not-told : (t : Told) → t.trips ≡ false → answer here g r ≡ t → ⊥
    not-told t f e = false≢true (sym f ∙ sym (ap (λ (t : Told). t.trips) e) ∙ q)

    by : Ends g r.memory (followed_at here r) → g.el < nat_abs (followed_at here r)
    by (tripped h) = h
    by (plain h l) = absurd (not-told _ refl ((works g r.memory (followed_at here r) h).plain l))
    by (cut h l) = absurd (not-told _ refl ((works g r.memory (followed_at here r) h).cut l))

-- an error bit as it was, or set by such an error
abbrev Marked : Sample → Servo → Run → Type 0
Marked x m r =
    (r.drive.error ≡ m.run.drive.error) ⊎ ((r.drive.error ≡ true) × (m.settings.tuning.gains.el < nat_abs (followed x m)))

tick_error : (x : Sample) (m : Servo) → Marked x m (ticked x m).run
unfolding pulsed tripping idled off
tick_error x m =
    tick_ends (Marked x m) x m (record {
      off = λ e. inl (met_error x m);
      pwm = λ q. inl (met_error x m);
      output = λ s t q. inl (met_error x m);
      trip = λ q. inr (refl, trip_far (position_at x m.counts) m.settings.tuning.gains (met x m).run q);
    })

pub error_bit : ErrorBit
error_bit = record {
  order = λ c m. (order_as c m).error;
  frame = λ f alone m r b.
      leaves (Error m) f alone m (record {
        kept = λ s. refl;
        renewed = λ d q. absurd (r d q);
        performed = λ c d q t. (order_as c m).error (λ e. b d (q ∙ ap wants e));
      });
  reset = λ m. refl;
  clear = λ m. refl;
  tick = tick_error;
}

tick_amplifier : (x : Sample) (m : Servo) → Amplifier m (ticked x m)
unfolding pulsed tripping idled off
tick_amplifier x m = tick_ends (λ (s : Run). s.drive.amplifier ≡ m.run.drive.amplifier) x m (record {
  off = λ e. met_amplifier x m;
  pwm = λ q. met_amplifier x m;
  output = λ s t q. met_amplifier x m;
  trip = λ q. met_amplifier x m;
})

latched_power : (x : Sample) (m : Servo) → (ticked x m).latched.power ≡ x.power
latched_power x m = ap (λ (x : Sample). x.power) (ticks x m).latched

-- a Stop and a Hard Reset that are executed
module _ (f : Frame) (alone : Bool) (m : Servo) where
  abbrev Puts : Bool → Servo → Type 0
  Puts b k = k.station.cause ≡ 0 → k.run.drive.amplifier ≡ b

  -- of what a frame asks, where it is not damaged
  abbrev Settled : Bool → Request Order → Type 0
  Settled b q = Puts b (settled servo q m)

  asked : (b : Bool) (q : Request Order) → f.damaged ≡ false → request f alone ≡ q → Settled b q → Puts b (execute f alone m)
  asked b q d e h = subst (Puts b) (sym (settles servo f alone m d e)) h

  stopped_puts : (b : Bool) (h : Halt) (x : ℕ) → Settled b (wants (Stop b h x))
  unfolding stopped
  stopped_puts b h x = either (Puts b) (can (Stop b h x) m) (with_cause 0 (stopped b h x m)) (with_cause 3 m) (λ z. refl) (λ z. absurd (omega arith))

  stop_puts : f.damaged ≡ false → f.code ≡ 7 → Puts (is_set 0 (get_or f.content 0 0)) (execute f alone m)
  unfolding stop_meant
  stop_puts d c =
      let x : ℕ = get_or f.content 0 0 in
      let q : Request Order = wants (Stop (is_set 0 x) (halt_of x) (of_le (read_at 4 1 f.content))) in
      asked (is_set 0 x) _ d ((codes f alone).stop c)
      (either (Settled (is_set 0 x)) (eqb (length f.content) (stop_count x)) (ranged (one_halt x) q) (malformed Count)
      (either (Settled (is_set 0 x)) (one_halt x) q (malformed Value) (stopped_puts (is_set 0 x) (halt_of x) _) (λ z. absurd (omega arith)))
      (λ z. absurd (omega arith)))

  reset_puts : f.damaged ≡ false → f.code ≡ 15 → Puts false (execute f alone m)
  reset_puts d c = at (eqb (length f.content) 0) refl
    where
      at : (t : Bool) → eqb (length f.content) 0 ≡ t → Puts false (execute f alone m)
      at true e = asked false reset d (((codes f alone).hard_reset c).0 (eqb-true _ _ e)) (λ z. refl)
      at false e = asked false (malformed Count) d (((codes f alone).hard_reset c).1 (eqb-false _ _ e)) (λ z. absurd (omega arith))

  others_keep : (f.damaged ≡ false → (execute f alone m).station.cause ≡ 0 → Switches f → ⊥) → Amplifier m (execute f alone m)
  others_keep n = leaves (Amplifier m) f alone m (record {
    kept = λ s. refl;
    renewed = λ d q. absurd (n d (done ((cause servo apart f alone m).renewed d q) refl) (inr (subst (Known f) q (known f alone))));
    performed = λ c d q t.
        (order_as c m).amplifier (λ a h x e.
        n d (done ((cause servo apart f alone m).executed c d q t) refl) (inl (subst (Known f) (q ∙ ap wants e) (known f alone)).0));
  })
    where
      done : {k : Servo} → execute f alone m ≡ k → k.station.cause ≡ 0 → (execute f alone m).station.cause ≡ 0
      done e z = ap (λ (k : Servo). k.station.cause) e ∙ z

pub amplifier_bit : AmplifierBit
amplifier_bit = record {
  stop = stop_puts;
  reset = reset_puts;
  frame = others_keep;
  tick = tick_amplifier;
  high = λ x m a p. (enabled (ticked x m)).high (tick_amplifier x m ∙ a) (latched_power x m ∙ p);
  unset = λ x m a. (enabled (ticked x m)).unset (tick_amplifier x m ∙ a);
  unpowered = λ x m p. (enabled (ticked x m)).unpowered (λ e. p (sym (latched_power x m) ∙ e));
}
