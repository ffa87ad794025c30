-- What profile and filter meet in a tick, after latch, power and homing. Assumes nothing.
use mathlib.Core.Path.{◌≡◌, refl, sym, ap, subst, ◌∙◌}
use mathlib.Core.Logic.{◌⊎◌, inl, inr}
use mathlib.Core.Bool.{Bool, true, false, cond, true≢false}
use Prim.Native.Nat.{ℕ}
use borrow.Author.Tests.{eqb-true, eqb-false}
use lib.Dec.{eqb}
use Rattle.base_integers.specs.Bits.{is_set}
use Rattle.servo_rules.specs.declared.Halt.{Halt}
use Rattle.servo_rules.specs.declared.Halt.TheVariants.{Keep, Release, Abrupt, Smooth, Here}
use Rattle.servo_rules.specs.declared.Homing.{Homing}
use Rattle.servo_rules.specs.declared.Load.{Load}
use Rattle.servo_rules.specs.declared.Run.{Run}
use Rattle.servo_rules.specs.declared.Sample.{Sample}
use Rattle.servo_rules.specs.declared.Settings.{Settings}
use Rattle.servo_rules.specs.declared.Servo.{Servo}
use Rattle.servo_rules.specs.State.{position_at, position, with_last, with_homing, with_load, dropped, off}
use Rattle.servo_rules.specs.Stops.{halted_by, drops, halted, can_halt}
use Rattle.servo_rules.specs.Homing.{home_at, changed, homing_halt, halted_or, homed}
use Rattle.servo_rules.specs.Tick.{driven_by, by_power, driven, met, ticked}
use Rattle.servo_rules.specs.HomingPromises.{after_power, Acts, Unstopped}
use Rattle.servo_rules.proofs.Keeping.{by_test, either}

-- ---- kinds of stop

-- those with different numbers are different
abbrev order : Halt → ℕ
order Keep = 0
order Release = 1
order Abrupt = 2
order Smooth = 3
order Here = 4

pub distinct : (j k : Halt) → eqb (order j) (order k) ≡ false → j ≡ k → ⊥
distinct j k s e = eqb-false _ _ s (ap order e)

-- none, or one of them
pub is_keep : (h : Halt) → (h ≡ Keep) ⊎ (h ≡ Keep → ⊥)
is_keep Keep = inl refl
is_keep Release = inr (distinct Release Keep refl)
is_keep Abrupt = inr (distinct Abrupt Keep refl)
is_keep Smooth = inr (distinct Smooth Keep refl)
is_keep Here = inr (distinct Here Keep refl)

-- homing has no Stop Here
pub not_here : (b : ℕ) → homing_halt b ≡ Here → ⊥
unfolding homing_halt
not_here b = at (is_set 2 b) (is_set 4 b) (is_set 5 b)
  where
    at : (a c d : Bool) → cond a Release (cond c Abrupt (cond d Smooth Keep)) ≡ Here → ⊥
    at true c d e = distinct Release Here refl e
    at false true d e = distinct Abrupt Here refl e
    at false false true e = distinct Smooth Here refl e
    at false false false e = distinct Keep Here refl e

-- ---- what is met

module _ (x : Sample) (m : Servo) where
  abbrev pub here : ℕ
  here = position_at x m.counts

  abbrev change : Bool
  change = changed m.homing.byte m.latched.inputs x.inputs

  abbrev halt : Halt
  halt = homing_halt m.homing.byte

  -- what holds where nothing is found, where something is and no stop acts, and where one acts
  pub record Meets (P : Servo → Type 0) : Type 0 where
    pub none : change ≡ false → P (after_power x m)
    pub found : change ≡ true → Unstopped x m → P (with_homing (home_at here) (after_power x m))
    pub acts : (h : Halt) → Acts h x m → P (with_homing (home_at here) (halted h 0 (after_power x m)))

  -- no stop acts where it is left out, and where there is none
  left_out : can_halt halt (after_power x m) ≡ false → Unstopped x m
  left_out s h a =
      true≢false (sym (a.now true) ∙ ap (λ (h : Halt). can_halt h (after_power x m)) (sym a.asked) ∙ s)

  no_stop : halt ≡ Keep → Unstopped x m
  no_stop e h a = a.stops (sym a.asked ∙ e)

  pub meets : (P : Servo → Type 0) → Meets P → P (met x m)
  unfolding met homed halted_or
  meets P e =
      by_test P change (with_homing (home_at here) (halted_or halt (after_power x m))) (after_power x m)
      (λ c.
      by_test (λ (n : Servo). P (with_homing (home_at here) n)) (can_halt halt (after_power x m)) (halted halt 0 (after_power x m)) (after_power x m)
      (λ s. stop c s (is_keep halt)) (λ s. e.found c (left_out s)))
      e.none
    where
      stop : change ≡ true → can_halt halt (after_power x m) ≡ true → (halt ≡ Keep) ⊎ (halt ≡ Keep → ⊥)
          → P (with_homing (home_at here) (halted halt 0 (after_power x m)))
      stop c s (inl k) =
          subst (λ (h : Halt). P (with_homing (home_at here) (halted h 0 (after_power x m)))) (sym k) (e.found c (no_stop k))
      stop c s (inr n) = e.acts halt (record { found = c; asked = refl; stops = n; now = λ a. s })

  -- a stop acts or none does
  pub act_or_not : ((h : Halt) × Acts h x m) ⊎ Unstopped x m
  act_or_not = meets (λ n. ((h : Halt) × Acts h x m) ⊎ Unstopped x m) (record {
    none = λ c. inr (λ h a. true≢false (sym a.found ∙ c));
    found = λ c u. inr u;
    acts = λ h a. inl (h, a);
  })

  pub abrupt_or_not : Acts Abrupt x m ⊎ (Acts Abrupt x m → ⊥)
  abrupt_or_not = at act_or_not
    where
      other : (h : Halt) → (h ≡ Abrupt → ⊥) → Acts h x m → Acts Abrupt x m → ⊥
      other h n a b = n (sym a.asked ∙ b.asked)

      by : (h : Halt) → Acts h x m → Acts Abrupt x m ⊎ (Acts Abrupt x m → ⊥)
      by Keep a = inr (other Keep (distinct Keep Abrupt refl) a)
      by Release a = inr (other Release (distinct Release Abrupt refl) a)
      by Abrupt a = inl a
      by Smooth a = inr (other Smooth (distinct Smooth Abrupt refl) a)
      by Here a = inr (other Here (distinct Here Abrupt refl) a)

      at : ((h : Halt) × Acts h x m) ⊎ Unstopped x m → Acts Abrupt x m ⊎ (Acts Abrupt x m → ⊥)
      at (inl (h, a)) = by h a
      at (inr u) = inr (u Abrupt)

  -- a servo with this load, this run and this homing, and all else as after the latch
  abbrev pub latched_with : Load → Run → Homing → Servo
  latched_with l r h = record {
    station = m.station;
    latched = x;
    counts = with_last (position m) m.counts;
    settings = with_load m.settings.rates l m.settings;
    run = r;
    homing = h;
  }

  -- so is what is met
  abbrev Itself : Servo → Type 0
  Itself n = n ≡ latched_with n.settings.load n.run n.homing

  pub met_is : Itself (met x m)
  met_is = meets Itself (record {
    none = λ c. refl;
    found = λ c u. refl;
    acts = λ h a.
        either (λ (t : Settings). Itself (record {
          station = m.station;
          latched = x;
          counts = with_last (position m) m.counts;
          settings = t;
          run = halted_by h here 0 (by_power x.power m.run);
          homing = home_at here;
        })) (drops h) (dropped m.settings) m.settings refl refl;
  })

  -- and a tick is that with what profile and filter make of the run
  pub tick_is : ticked x m
      ≡ latched_with (met x m).settings.load (driven_by (met x m).run.drive.mode x.power here m.settings.tuning.gains (met x m).run)
      (met x m).homing
  unfolding ticked
  tick_is = ap driven met_is

  -- what is met runs as after the power, or as one of the stops leaves that
  abbrev pub before : Run
  before = by_power x.power m.run

  pub met_runs : (P : Run → Type 0) → P before → ((h : Halt) → Acts h x m → P (halted_by h here 0 before)) → P (met x m).run
  met_runs P p h = meets (λ (n : Servo). P n.run) (record { none = λ c. p; found = λ c u. p; acts = h })

-- power leaves what runs, or ends it
pub by_power_lem : (P : Run → Type 0) (power : ℕ) (r : Run) → (power ≡ 0 → P (off r)) → ((power ≡ 0 → ⊥) → P r) → P (by_power power r)
unfolding by_power
by_power_lem P power r o p = by_test P (eqb power 0) (off r) r (λ e. o (eqb-true _ _ e)) (λ e. p (eqb-false _ _ e))
