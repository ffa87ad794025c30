-- What homing finds, stores and stops. Assumes nothing.
use mathlib.Core.Path.{◌≡◌, refl, sym, ap, ap₂, subst, ◌∙◌}
use mathlib.Core.Logic.{◌⊎◌, inl, inr}
use mathlib.Core.List.{List, [], ◌∷◌}
use mathlib.Core.Bool.{Bool, true, false, cond, not, ◌&&◌, ◌||◌, true≢false, false≢true}
use Prim.Native.Nat.{ℕ, ◌+◌, ◌*◌, min}
use native.Mathlib.Omega.{arith}
use borrow.Author.Tests.{eqb-true, eqb-false, eq-eqb}
use lib.Dec.{eqb}
use lib.IntN.{ℤ, pos, nat_abs, ◌+ℤ◌, ◌*ℤ◌}
use Rattle.base_integers.specs.Bits.{bit, is_set}
use Rattle.servo_motion.specs.declared.Profile.{Profile}
use Rattle.servo_filter.specs.declared.Gains.{Gains}
use Rattle.servo_filter.specs.declared.Memory.{Memory}
use Rattle.servo_filter.specs.Filter.{held, drive, driven as drives, scaled, blank}
use Rattle.servo_filter.proofs.Held.{limits}
use Rattle.servo_rules.specs.declared.Halt.{Halt}
use Rattle.servo_rules.specs.declared.Halt.TheVariants.{Keep, Release, Abrupt, Smooth, Here}
use Rattle.servo_rules.specs.declared.Mode.TheVariants.{Off, Hold}
use Rattle.servo_rules.specs.declared.Homing.{Homing}
use Rattle.servo_rules.specs.declared.Run.{Run}
use Rattle.servo_rules.specs.declared.Sample.{Sample}
use Rattle.servo_rules.specs.declared.Servo.{Servo}
use Rattle.servo_rules.specs.State.{position, setpoint_at, servo_off, no_homing, no_load, with_homing, idled, off}
use Rattle.servo_rules.specs.Loads.{to_speed}
use Rattle.servo_rules.specs.Stops.{holding, smooth, halted_by, halted}
use Rattle.servo_rules.specs.Homing.{home_at, changed}
use Rattle.servo_rules.specs.Tick.{tripped, pulsed, advanced, followed_at, by_power, driven, met, ticked}
use Rattle.servo_rules.specs.TickPromises.{followed, reaching}
use Rattle.servo_rules.specs.HomingPromises.{Alike, All, FindsHome, after_power, Acts, Unstopped, HeldHere, HomingTick, HomingTicks, TickTurnsOn}
use Rattle.servo_rules.proofs.Meeting.{here, before, meets, tick_is, met_runs, by_power_lem, act_or_not, abrupt_or_not, not_here}
use Rattle.servo_rules.proofs.Ends.{tick_ends}
use Rattle.servo_rules.proofs.Ticking.{low_off, ticks}
use Rattle.servo_rules.proofs.Placing.{at_here}

-- ---- what changes

-- watched inputs have changed, or are alike
pub unchanged : (b x y : ℕ) → Alike b x y → changed b x y ≡ false
unfolding changed
unchanged b x y (e, f) = by (is_set 0 b) (is_set 1 b) e f
  where
    by : (p q : Bool) → (p ≡ true → bit 0 x ≡ bit 0 y) → (q ≡ true → bit 1 x ≡ bit 1 y)
        → (p && not (eqb (bit 0 x) (bit 0 y))) || (q && not (eqb (bit 1 x) (bit 1 y))) ≡ false
    by true true e f = rw (eq-eqb _ _ (e refl), eq-eqb _ _ (f refl)) refl
    by true false e f = rw (eq-eqb _ _ (e refl)) refl
    by false true e f = rw (eq-eqb _ _ (f refl)) refl
    by false false e f = refl

pub unchanged_same : (b x y : ℕ) → x ≡ y → changed b x y ≡ false
unchanged_same b x y e = unchanged b x y (λ t. ap (bit 0) e, λ t. ap (bit 1) e)

pub alike : (b x y : ℕ) → changed b x y ≡ false → Alike b x y
unfolding changed
alike b x y = by (is_set 0 b) (is_set 1 b) (eqb (bit 0 x) (bit 0 y)) (eqb (bit 1 x) (bit 1 y)) (eqb-true _ _) (eqb-true _ _)
  where
    by : (p q s t : Bool) → (s ≡ true → bit 0 x ≡ bit 0 y) → (t ≡ true → bit 1 x ≡ bit 1 y)
        → (p && not s) || (q && not t) ≡ false → (p ≡ true → bit 0 x ≡ bit 0 y) × (q ≡ true → bit 1 x ≡ bit 1 y)
    by p q true true g h c = (λ e. g refl, λ e. h refl)
    by p false true false g h c = (λ e. g refl, λ e. absurd (false≢true e))
    by p true true false g h c = absurd (or_set p c)
      where
        or_set : (p : Bool) → (p && false) || true ≡ false → ⊥
        or_set true c = true≢false c
        or_set false c = true≢false c
    by false q false true g h c = (λ e. absurd (false≢true e), λ e. h refl)
    by true q false true g h c = absurd (true≢false c)
    by false false false false g h c = (λ e. absurd (false≢true e), λ e. absurd (false≢true e))
    by false true false false g h c = absurd (true≢false c)
    by true q false false g h c = absurd (true≢false c)

-- ---- one tick

-- without a change what power leaves is met
pub met_none : (x : Sample) (m : Servo) → changed m.homing.byte m.latched.inputs x.inputs ≡ false → met x m ≡ after_power x m
met_none x m c = meets x m (λ (k : Servo). k ≡ after_power x m) (record {
  none = λ t. refl;
  found = λ t u. absurd (true≢false (sym t ∙ c));
  acts = λ h a. absurd (true≢false (sym a.found ∙ c));
})

-- without an error, now or before, the filter drives nothing
drives_nothing : (g : Gains) → drives g blank (pos 0) ≡ pos 0
unfolding drive
drives_nothing g =
    let h : held g.il (pos 0) ≡ pos 0 = (limits g.il 0).0 ∙ ap pos (zero-min g.il) in
    let z : g.kp * 0 + g.kd * 0 + g.ki * 0 ≡ 0 = omega arith in
    ap (λ (i : ℤ). pos (g.kp * 0 + g.kd * 0) +ℤ pos g.ki *ℤ i) h ∙ ap pos z
  where
    zero-min : (n : ℕ) → min 0 n ≡ 0
    zero-min n = omega arith

pub tick_none : (x : Sample) (m : Servo) → changed m.homing.byte m.latched.inputs x.inputs ≡ false
    → ticked x m ≡ driven (after_power x m)
unfolding ticked
tick_none x m c = ap driven (met_none x m c)

module _ (x : Sample) (m : Servo) where
  -- a tick without a change leaves homing, one with it ends it here
  homing_is : (ticked x m).homing ≡ (met x m).homing
  homing_is = ap (λ (n : Servo). n.homing) (tick_is x m)

  place_is : position (ticked x m) ≡ here x m
  place_is = ap position (tick_is x m)

  pub searches : changed m.homing.byte m.latched.inputs x.inputs ≡ false → (ticked x m).homing ≡ m.homing
  searches c = homing_is ∙ ap (λ (n : Servo). n.homing) (met_none x m c)

  pub finds : changed m.homing.byte m.latched.inputs x.inputs ≡ true → (ticked x m).homing ≡ home_at (position (ticked x m))
  finds c =
      homing_is
      ∙ meets x m (λ (n : Servo). n.homing ≡ home_at (here x m)) (record {
        none = λ e. absurd (true≢false (sym c ∙ e));
        found = λ e u. refl;
        acts = λ h a. refl;
      })
      ∙ ap home_at (sym place_is)

  -- what is met where a stop acts, and where none does
  pub met_stops : (h : Halt) → Acts h x m → met x m ≡ with_homing (home_at (here x m)) (halted h 0 (after_power x m))
  met_stops h a = meets x m (λ (n : Servo). n ≡ with_homing (home_at (here x m)) (halted h 0 (after_power x m))) (record {
    none = λ e. absurd (true≢false (sym a.found ∙ e));
    found = λ e u. absurd (u h a);
    acts = λ k b. ap (λ (k : Halt). with_homing (home_at (here x m)) (halted k 0 (after_power x m))) (sym b.asked ∙ a.asked);
  })

  met-plain : Unstopped x m → met x m ≡ with_homing (met x m).homing (after_power x m)
  met-plain u = meets x m (λ (n : Servo). n ≡ with_homing n.homing (after_power x m)) (record {
    none = λ e. refl;
    found = λ e v. refl;
    acts = λ h a. absurd (u h a);
  })

  load_is : (ticked x m).settings.load ≡ (met x m).settings.load
  load_is = ap (λ (n : Servo). n.settings.load) (tick_is x m)

  halt-drops : (h : Halt) → (h ≡ Keep → ⊥) → (halted h 0 (after_power x m)).settings.load ≡ no_load
  halt-drops Keep n = absurd (n refl)
  halt-drops Release n = refl
  halt-drops Abrupt n = refl
  halt-drops Smooth n = refl
  halt-drops Here n = refl

  powered-on : (x.power ≡ 0 → ⊥) → by_power x.power m.run ≡ m.run
  powered-on n = by_power_lem (λ (r : Run). r ≡ m.run) x.power m.run (λ e. absurd (n e)) (λ k. refl)

  -- an abrupt stop: the filter sees no error
  pub abrupt_runs : Acts Abrupt x m → (met x m).run ≡ holding (here x m) (before x m)
  abrupt_runs a = ap (λ (n : Servo). n.run) (met_stops Abrupt a)

  no_error : Acts Abrupt x m → followed x m ≡ pos 0
  unfolding advanced holding
  no_error a = ap (followed_at (here x m)) (abrupt_runs a) ∙ at_here (here x m) (omega arith)

  holds : Acts Abrupt x m → HeldHere (ticked x m)
  unfolding advanced holding
  holds a =
      let e = abrupt_runs a in
      let k : (met x m).run.drive.mode ≡ Hold = ap (λ (r : Run). r.drive.mode) e in
      let small : nat_abs (followed x m) ≡ 0 = ap nat_abs (no_error a) in
      let r = (ticks x m).runs (ap servo_off k) (omega arith) in
      record {
        mode = r.mode ∙ k;
        setpoint = ap (λ (p : Profile). p.setpoint) r.profile ∙ ap (λ (s : Run). (advanced s).setpoint) e ∙ ap setpoint_at (sym place_is);
      }

  -- and so puts out nothing that could be cut
  pub uncut : Acts Abrupt x m → (ticked x m).run.drive.cut ≡ false
  unfolding holding
  uncut a =
      let e = abrupt_runs a in
      let k : (met x m).run.drive.mode ≡ Hold = ap (λ (r : Run). r.drive.mode) e in
      let small : nat_abs (followed x m) ≡ 0 = ap nat_abs (no_error a) in
      let g : Gains = m.settings.tuning.gains in
      let none : nat_abs (reaching x m) ≡ 0 =
      ap₂ (λ (y : Memory) (z : ℤ). nat_abs (scaled (drives g y z))) (ap (λ (r : Run). r.memory) e) (no_error a)
      ∙ ap (λ (z : ℤ). nat_abs (scaled z)) (drives_nothing g) in
      (((ticks x m).runs (ap servo_off k) (omega arith)).plain (omega arith)).1

  tick_homes : HomingTick x m
  unfolding ticked changed
  tick_homes = record {
    stop = λ h a. ap driven (met_stops h a);
    drops = λ h a. load_is ∙ ap (λ (n : Servo). n.settings.load) (met_stops h a) ∙ halt-drops h a.stops;
    plain = λ u.
        ap driven (met-plain u)
        ∙ sym (ap (λ (n : Servo). with_homing (met x m).homing (driven n)) (met_none x (with_homing no_homing m) refl));
    runs = λ u n. ap (λ (n : Servo). n.run) (met-plain u) ∙ powered-on n;
    load = λ u. load_is ∙ ap (λ (n : Servo). n.settings.load) (met-plain u);
    holds = holds;
    either = act_or_not x m;
  }

pub homing_ticks : HomingTicks
homing_ticks = tick_homes

-- ---- what a tick meets, by what has acted

-- what ran; off; a hold by homing's abrupt stop; what ran, on its way to speed 0 by homing's smooth stop
pub data Meeting (x : Sample) (m : Servo) : Type 0 where
  ran : Unstopped x m → (met x m).run ≡ m.run → Meeting x m
  ended : (met x m).run.drive.mode ≡ Off → Meeting x m
  stands : Acts Abrupt x m → Meeting x m
  slows : Acts Smooth x m → servo_off m.run.drive.mode ≡ false
      → (met x m).run ≡ to_speed m.run.profile.setpoint (pos 0) m.run.profile.acceleration m.run → Meeting x m

pub meeting : (x : Sample) (m : Servo) → Meeting x m
unfolding smooth off idled
meeting x m = at (act_or_not x m) (eqb x.power 0) refl
  where
    stops : (h : Halt) → Acts h x m → (met x m).run ≡ halted_by h (here x m) 0 (before x m)
    stops h a = ap (λ (n : Servo). n.run) (met_stops x m h a)

    smooths : (r : Run) (t : Bool) → servo_off r.drive.mode ≡ t → before x m ≡ r → Acts Smooth x m → r ≡ m.run → Meeting x m
    smooths r true o b a e =
        ended (ap (λ (s : Run). s.drive.mode) (stops Smooth a ∙ ap smooth b) ∙ ap (λ (t : Bool). (cond t (off r) (to_speed r.profile.setpoint (pos 0) r.profile.acceleration r)).drive.mode) o)
    smooths r false o b a e =
        slows a (ap (λ (s : Run). servo_off s.drive.mode) (sym e) ∙ o)
        (stops Smooth a
        ∙ ap smooth b
        ∙ ap (λ (t : Bool). cond t (off r) (to_speed r.profile.setpoint (pos 0) r.profile.acceleration r)) o
        ∙ ap (λ (s : Run). to_speed s.profile.setpoint (pos 0) s.profile.acceleration s) e)

    by : (h : Halt) → Acts h x m → (x.power ≡ 0 → ⊥) → Meeting x m
    by Keep a n = absurd (a.stops refl)
    by Release a n = ended (ap (λ (s : Run). s.drive.mode) (stops Release a))
    by Abrupt a n = stands a
    by Smooth a n = smooths m.run (servo_off m.run.drive.mode) refl (powered-on x m n) a refl
    by Here a n = absurd (not_here m.homing.byte a.asked)

    at : ((h : Halt) × Acts h x m) ⊎ Unstopped x m → (t : Bool) → eqb x.power 0 ≡ t → Meeting x m
    at s true e = ended (low_off x m (eqb-true _ _ e)).mode
    at (inl (h, a)) false e = by h a (eqb-false _ _ e)
    at (inr u) false e = ran u ((homing_ticks x m).runs u (eqb-false _ _ e))

-- ---- from the command on

pub finds_home : FindsHome
finds_home b m [] e a = record {
  goes_on = refl;
  finds = λ x n. finds x m (found m.latched.inputs x.inputs (changed m.homing.byte m.latched.inputs x.inputs) refl n);
}
  where
    found : (i j : ℕ) (t : Bool) → changed m.homing.byte i j ≡ t → (Alike b i j → ⊥) → changed m.homing.byte i j ≡ true
    found i j true c n = c
    found i j false c n = absurd (n (alike b i j (ap (λ (b : ℕ). changed b i j) (sym e) ∙ c)))
finds_home b m (x ∷ xs) e (a, others) =
    let s : (ticked x m).homing ≡ m.homing = searches x m (ap (λ (b : ℕ). changed b m.latched.inputs x.inputs) e ∙ unchanged b _ _ a) in
    let l : (ticked x m).latched ≡ x = (ticks x m).latched in
    let r = finds_home b (ticked x m) xs (ap (λ (h : Homing). h.byte) s ∙ e) (later xs l others) in
    record {
      goes_on = r.goes_on ∙ s;
      finds = λ y n. r.finds y (λ k. n (along m.latched.inputs x.inputs y.inputs a (subst (λ (z : Sample). Alike b z.inputs y.inputs) l k)));
    }
  where
    -- alike is alike with what is alike
    along : (i j k : ℕ) → Alike b i j → Alike b j k → Alike b i k
    along i j k (p, q) (r, s) = (λ t. p t ∙ r t, λ t. q t ∙ s t)

    back : (i j : ℕ) → Alike b i j → Alike b j i
    back i j (p, q) = (λ t. sym (p t), λ t. sym (q t))

    later : (ys : List Sample) → (ticked x m).latched ≡ x → All (λ y. Alike b m.latched.inputs y.inputs) ys
        → All (λ y. Alike b (ticked x m).latched.inputs y.inputs) ys
    later [] l u = tt
    later (y ∷ ys) l (u, us) = (subst (λ (z : Sample). Alike b z.inputs y.inputs) (sym l) (along x.inputs m.latched.inputs y.inputs (back m.latched.inputs x.inputs a) u), later ys l us)

-- ---- no motion begins

-- off and PWM run no servo, and no stop but the abrupt one turns it on
met-off-mode : (x : Sample) (m : Servo) → servo_off m.run.drive.mode ≡ true → (Acts Abrupt x m → ⊥) → servo_off (met x m).run.drive.mode ≡ true
unfolding smooth off idled
met-off-mode x m o n =
    let p : servo_off (before x m).drive.mode ≡ true =
    by_power_lem (λ (r : Run). servo_off r.drive.mode ≡ true) x.power m.run (λ e. refl) (λ e. o) in
    met_runs x m (λ (r : Run). servo_off r.drive.mode ≡ true) p (λ h a. by h a p)
  where
    slow : (r : Run) → servo_off r.drive.mode ≡ true → servo_off (smooth r).drive.mode ≡ true
    slow r p = rw p refl

    by : (h : Halt) → Acts h x m → servo_off (before x m).drive.mode ≡ true → servo_off (halted_by h (here x m) 0 (before x m)).drive.mode ≡ true
    by Keep a p = p
    by Release a p = refl
    by Abrupt a p = absurd (n a)
    by Smooth a p = slow (before x m) p
    by Here a p = absurd (not_here m.homing.byte a.asked)

tick_off-mode : (x : Sample) (m : Servo) → servo_off (met x m).run.drive.mode ≡ true → servo_off (ticked x m).run.drive.mode ≡ true
unfolding pulsed tripped off idled
tick_off-mode x m o = tick_ends (λ (r : Run). servo_off r.drive.mode ≡ true) x m (record {
  off = λ q. o;
  pwm = λ q. o;
  output = λ s t q. o;
  trip = λ q. refl;
})

pub tick_turns_on : TickTurnsOn
tick_turns_on x m o on = at (abrupt_or_not x m)
  where
    at : Acts Abrupt x m ⊎ (Acts Abrupt x m → ⊥) → Acts Abrupt x m × HeldHere (ticked x m)
    at (inl a) = (a, holds x m a)
    at (inr n) = absurd (true≢false (sym (tick_off-mode x m (met-off-mode x m o n)) ∙ on))
