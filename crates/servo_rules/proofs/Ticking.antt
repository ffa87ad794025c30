-- What a tick does, by power, mode and following error. Assumes nothing.
use mathlib.Core.Path.{◌≡◌, refl, sym, ap, subst, ◌∙◌}
use mathlib.Core.Logic.{inl, inr}
use mathlib.Core.Bool.{Bool, true, false, cond, not, ◌&&◌, true≢false, false≢true}
use Prim.Native.Nat.{ℕ, ◌≤◌, ◌<◌}
use native.Mathlib.Omega.{arith}
use borrow.Author.Tests.{eq-eqb, ne_eqb, leb-true, leb-false}
use lib.Dec.{leb}
use lib.IntN.{ℤ, pos, nat_abs}
use Rattle.servo_filter.specs.declared.Gains.{Gains}
use Rattle.servo_filter.specs.Filter.{held, summed, Told}
use Rattle.servo_filter.proofs.Answers.{trips, works}
use Rattle.servo_rules.specs.declared.Mode.{Mode}
use Rattle.servo_rules.specs.declared.Mode.TheVariants.{Off, Pwm, Hold, Velocity, Trapezoid}
use Rattle.servo_rules.specs.declared.Drive.{Drive}
use Rattle.servo_rules.specs.declared.Run.{Run}
use Rattle.servo_rules.specs.declared.Sample.{Sample}
use Rattle.servo_rules.specs.declared.Servo.{Servo}
use Rattle.servo_rules.specs.State.{position_at, good, servo_off, idled, off}
use Rattle.servo_rules.specs.Tick.{advanced, put_out, tripped, worked_to, filtered_to, servoed, pulsed, driven_by, by_power, met, ticked}
use Rattle.servo_rules.specs.StopPromises.{Released}
use Rattle.servo_rules.specs.TickPromises.{followed, reaching, worked, Winds, Runs, Ticks}
use Rattle.servo_rules.proofs.Keeping.{Undriven, off_released}
use Rattle.servo_rules.proofs.Meeting.{latched_with, met_is, tick_is, by_power_lem}
use Rattle.servo_rules.proofs.MeetingKeeps.{met_released, met_undriven}
use Rattle.servo_rules.proofs.Ends.{answer, tick_ends}

pub tripped_released : (r : Run) → Released (tripped (advanced r) r) × ((tripped (advanced r) r).drive.error ≡ true)
unfolding tripped idled off
tripped_released r = (record { mode = refl; speed = refl; output = refl; pulse = refl; cut = refl; memory = refl }, refl)

module _ (power here : ℕ) (g : Gains) (r : Run) where
  in_mode : (k : Mode) → r.drive.mode ≡ k → driven_by r.drive.mode power here g r ≡ driven_by k power here g r
  in_mode k e = ap (λ (k : Mode). driven_by k power here g r) e

  -- a mode with a servo runs the filter
  by_filter : (k : Mode) → servo_off k ≡ false → driven_by k power here g r ≡ filtered_to (answer here g r) power (advanced r) r
  unfolding servoed
  by_filter Off e = absurd (true≢false e)
  by_filter Pwm e = absurd (true≢false e)
  by_filter Hold e = refl
  by_filter Velocity e = refl
  by_filter Trapezoid e = refl

  answered : servo_off r.drive.mode ≡ false → (t : Told) → answer here g r ≡ t
      → driven_by r.drive.mode power here g r ≡ filtered_to t power (advanced r) r
  answered s t e = by_filter r.drive.mode s ∙ ap (λ (t : Told). filtered_to t power (advanced r) r) e

-- what has no output in off has none there after power and homing
abbrev OffIsSilent : Drive → Type 0
OffIsSilent d = d.mode ≡ Off → d.output ≡ pos 0

undriven_silent : (d e : Drive) → Undriven d e → OffIsSilent d → OffIsSilent e
undriven_silent d e (inl h) s k = h.0 ∙ s (h.2 k)
undriven_silent d e (inr h) s k = h.0

pub met-silent : (x : Sample) (m : Servo) → OffIsSilent m.run.drive → OffIsSilent (met x m).run.drive
met-silent x m = met_undriven x m OffIsSilent undriven_silent

module _ (x : Sample) (m : Servo) where
  run_is : (ticked x m).run
      ≡ driven_by (met x m).run.drive.mode x.power (position_at x m.counts) m.settings.tuning.gains (met x m).run
  run_is = ap (λ (n : Servo). n.run) (tick_is x m)

  -- no output without power 1
  no_output : (x.power ≡ 1 → ⊥) → OffIsSilent m.run.drive → (ticked x m).run.drive.output ≡ pos 0
  unfolding pulsed put_out tripped idled off
  no_output n h = tick_ends (λ (s : Run). s.drive.output ≡ pos 0) x m (record {
    off = met-silent x m h;
    pwm = λ q. rw (ne_eqb _ _ n) refl;
    output = λ s t q. rw (ne_eqb _ _ n) refl;
    trip = λ q. refl;
  })

  -- at low power all is off: homing's abrupt stop is left out
  pub low_off : x.power ≡ 0 → Released (met x m).run
  low_off e =
      met_released x m (by_power_lem Released x.power m.run (λ z. off_released m.run) (λ n. absurd (n e)))
      (λ a. false≢true (ap (λ (p : ℕ). good p && not (by_power x.power m.run).drive.error) (sym e) ∙ a.now true))

  abbrev place : ℕ
  place = position_at x m.counts

  -- what the filter tells within EL, with the integral and the cut bit that it stores
  abbrev stored : ℤ → Bool → Told
  stored integral cut =
      record { trips = false; memory = record { integral = integral; previous = followed x m }; output = worked x m; cut = cut }

  -- a tick that runs, by what is told
  module _ (k : servo_off (met x m).run.drive.mode ≡ false) (integral : ℤ) (cut : Bool)
      (q : answer place m.settings.tuning.gains (met x m).run ≡ stored integral cut) where
    made : (ticked x m).run ≡ worked_to (stored integral cut) x.power (advanced (met x m).run) (met x m).run
    made = run_is ∙ answered x.power place m.settings.tuning.gains (met x m).run k (stored integral cut) q

    put_out_lem : x.power ≡ 1 → (ticked x m).run.drive.output ≡ worked x m
    unfolding put_out
    put_out_lem p = ap (λ (s : Run). s.drive.output) made ∙ ap (λ (t : Bool). cond t (worked x m) (pos 0)) (eq-eqb _ _ p)

    winds : Winds integral cut (ticked x m)
    winds = (ap (λ (s : Run). s.memory.integral) made, ap (λ (s : Run). s.drive.cut) made)

    going : (nat_abs (reaching x m) ≤ m.settings.tuning.gains.ol
        → Winds (summed m.settings.tuning.gains (met x m).run.memory (followed x m)) false (ticked x m))
        → (m.settings.tuning.gains.ol < nat_abs (reaching x m) → Winds (met x m).run.memory.integral true (ticked x m))
        → Runs x m (ticked x m)
    going p c = record {
      profile = ap (λ (s : Run). s.profile) made;
      previous = ap (λ (s : Run). s.memory.previous) made;
      mode = ap (λ (s : Run). s.drive.mode) made;
      error = ap (λ (s : Run). s.drive.error) made;
      output = put_out_lem;
      plain = p;
      cut = c;
    }

  runs : servo_off (met x m).run.drive.mode ≡ false
      → nat_abs (followed x m) ≤ m.settings.tuning.gains.el → Runs x m (ticked x m)
  runs k h = at (leb (nat_abs (reaching x m)) m.settings.tuning.gains.ol) refl
    where
      at : (t : Bool) → leb (nat_abs (reaching x m)) m.settings.tuning.gains.ol ≡ t → Runs x m (ticked x m)
      at true e =
          let l = leb-true _ _ e in
          let q = (works _ (met x m).run.memory (followed x m) h).plain l in
          going k _ false q (λ l. winds k _ false q) (λ z. absurd (omega arith))
      at false e =
          let l = leb-false _ _ e in
          let q = (works _ (met x m).run.memory (followed x m) h).cut l in
          going k _ true q (λ z. absurd (omega arith)) (λ l. winds k _ true q)

pub ticks : Ticks
unfolding pulsed put_out
ticks x m =
    let here : ℕ = position_at x m.counts in
    let g : Gains = m.settings.tuning.gains in
    let r : Run = (met x m).run in
    let e = tick_is x m in
    let in-run : (k : Mode) → r.drive.mode ≡ k → (ticked x m).run ≡ driven_by k x.power here g r =
    λ k q. run_is x m ∙ in_mode x.power here g r k q in
    record {
      latched = ap (λ (n : Servo). n.latched) e;
      last = ap (λ (n : Servo). n.counts.last) e;
      offset = ap (λ (n : Servo). n.counts.offset) e;
      station = ap (λ (n : Servo). n.station) e;
      tuning = ap (λ (n : Servo). n.settings.tuning) e;
      rates = ap (λ (n : Servo). n.settings.rates) e;
      low = λ z. let q = low_off x m z in subst Released (sym (in-run Off q.mode)) q;
      unpowered = no_output x m;
      off = λ k.
          e
          ∙ ap (λ (r : Run). latched_with x m (met x m).settings.load r (met x m).homing) (in_mode x.power here g r Off k)
          ∙ sym (met_is x m);
      pulse = λ k.
          let e : (ticked x m).run ≡ pulsed x.power g.ol r = in-run Pwm k in (
            ap (λ (s : Run). s.profile) e,
            ap (λ (s : Run). s.memory) e,
            ap (λ (s : Run). s.drive.mode) e ∙ k,
            ap (λ (s : Run). s.drive.pulse) e,
            λ p. ap (λ (s : Run). s.drive.output) e ∙ ap (λ (t : Bool). cond t (held g.ol r.drive.pulse) (pos 0)) (eq-eqb _ _ p),
            ap (λ (s : Run). s.drive.cut) e,
          );
      trip = λ k h.
          subst (λ (s : Run). Released s × (s.drive.error ≡ true))
          (sym (run_is x m ∙ answered x.power here g r k _ (trips g r.memory (followed x m) h))) (tripped_released r);
      runs = runs x m;
    }
