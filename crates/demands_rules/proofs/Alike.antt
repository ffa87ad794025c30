-- What leaves a servo going to the same goal, in the encoder's counts. Assumes nothing.
use mathlib.Core.Path.{◌≡◌, refl, sym, ap, ap₂, subst, ◌∙◌}
use mathlib.Core.Logic.{◌⊎◌, inl, inr}
use mathlib.Core.Bool.{Bool, true, false, false≢true}
use Prim.Native.Nat.{ℕ, ◌+◌, ◌*◌, ◌%◌, ◌^◌, ◌≤◌, ◌<◌}
use native.Mathlib.Omega.{arith}
use native.Mathlib.Nat.{le_refl}
use borrow.Author.Tests.{leb-true}
use lib.IntN.{ℤ, pos, negsuc, nat_abs}
use lib.Signed.{le_z}
use Rattle.base_integers.specs.Whole.{less}
use Rattle.servo_motion.specs.declared.Profile.{Profile}
use Rattle.servo_motion.specs.Setpoint.{whole}
use Rattle.servo_motion.specs.Velocity.{toward}
use Rattle.servo_motion.specs.Profile.{stepped, by_trapezoid, by_velocity}
use Rattle.servo_motion.proofs.Velocity.{velocity}
use Rattle.servo_rules.specs.declared.Mode.{Mode}
use Rattle.servo_rules.specs.declared.Mode.TheVariants.{Off, Pwm, Hold, Velocity, Trapezoid}
use Rattle.servo_rules.specs.declared.Run.{Run}
use Rattle.servo_rules.specs.declared.Sample.{Sample}
use Rattle.servo_rules.specs.declared.Servo.{Servo}
use Rattle.servo_rules.specs.State.{position, idled, off}
use Rattle.servo_rules.specs.Perform.{shifted, reset_position}
use Rattle.servo_rules.specs.Tick.{advanced_by, advanced, tripped, pulsed, met, ticked}
use Rattle.servo_rules.proofs.Ends.{tick_ends}
use Rattle.servo_rules.proofs.Ticking.{ticks}
use Rattle.servo_rules.proofs.Keeping.{distinct}
use Rattle.servo_rules.proofs.Shifting.{Wraps, wraps, whole-shifted}
use Rattle.servo_slot_rules.specs.Promises.{Fits}
use Rattle.servo_slot_rules.proofs.Good.{good}
use Rattle.demands_rules.specs.Sent.{encoder}

-- k drives as m does, to the same goal
pub record Alike (m k : Servo) : Type 0 where
  pub mode : k.run.drive.mode ≡ m.run.drive.mode
  pub goal : encoder k k.run.profile.goal ≡ encoder m m.run.profile.goal
  pub aim : k.run.profile.aim ≡ m.run.profile.aim
  pub acceleration : k.run.profile.acceleration ≡ m.run.profile.acceleration
  pub top : k.run.profile.top ≡ m.run.profile.top
  pub pulse : k.run.drive.pulse ≡ m.run.drive.pulse
  pub held : m.run.drive.mode ≡ Hold → encoder k (whole k.run.profile.setpoint) ≡ encoder m (whole m.run.profile.setpoint)
  pub slower : m.run.drive.mode ≡ Velocity → m.run.profile.aim ≡ pos 0 → nat_abs k.run.profile.speed ≤ nat_abs m.run.profile.speed

-- the same profile, offset, mode and PWM value
pub alike : (m k : Servo) → k.run.profile ≡ m.run.profile → k.counts.offset ≡ m.counts.offset
    → k.run.drive.mode ≡ m.run.drive.mode → k.run.drive.pulse ≡ m.run.drive.pulse → Alike m k
alike m k p o d u = record {
  mode = d;
  goal = ap₂ (λ (x y : ℕ). (x + y) % 2 ^ 32) (ap (λ (p : Profile). p.goal) p) o;
  aim = ap (λ (p : Profile). p.aim) p;
  acceleration = ap (λ (p : Profile). p.acceleration) p;
  top = ap (λ (p : Profile). p.top) p;
  pulse = u;
  held = λ h. ap₂ (λ (x y : ℕ). (x + y) % 2 ^ 32) (ap (λ (p : Profile). whole p.setpoint) p) o;
  slower = λ v z. subst (λ (p : Profile). nat_abs p.speed ≤ nat_abs m.run.profile.speed) (sym p) (le_refl _);
}

-- ---- Reset Position

-- numbers that differ by whole turns
turned : (a b c d : ℕ) → c ≤ 1 → d ≤ 1 → a + c * 2 ^ 32 ≡ b + d * 2 ^ 32 → a % 2 ^ 32 ≡ b % 2 ^ 32
turned a b c d hc hd e = omega arith

-- what is taken off a position is put on the offset
pub put_on : (x raw offset : ℕ) → x < 2 ^ 32 → raw < 2 ^ 32 → offset < 2 ^ 32 → (less x (less raw offset) + raw) % 2 ^ 32 ≡ (x + offset) % 2 ^ 32
put_on x raw offset hx hr ho =
    let q = wraps raw offset hr ho in
    at (less raw offset) q (less x (less raw offset)) (wraps x (less raw offset) hx q.small)
  where
    at : (q : ℕ) → Wraps raw offset q → (r : ℕ) → Wraps x q r → (r + raw) % 2 ^ 32 ≡ (x + offset) % 2 ^ 32
    at q t r s = turned (r + raw) (x + offset) t.turns s.turns t.most s.most (omega (arith, t.sum, s.sum))

-- the position stands at the raw count
pub raw-back : (m : Servo) → Fits m → encoder m (position m) ≡ m.latched.raw
raw-back m t = let g = good m t in back m.latched.raw m.counts.offset (omega (arith, g.latched.1.1.0)) (omega (arith, g.counts.0))
  where
    back : (raw offset : ℕ) → raw < 2 ^ 32 → offset < 2 ^ 32 → (less raw offset + offset) % 2 ^ 32 ≡ raw
    back raw offset h k = omega arith

-- the setpoint is where it was on the encoder
pub shift_place : (m : Servo) → Fits m → encoder (reset_position m) (whole (reset_position m).run.profile.setpoint) ≡ encoder m (whole m.run.profile.setpoint)
unfolding reset_position shifted
shift_place m t =
    let g = good m t in
    let raw : ℕ = m.latched.raw in
    let s : ℕ = m.run.profile.setpoint in
    let hs : s < 2 ^ 48 = g.sane.profile.setpoint in
    ap (λ (w : ℕ). (w + raw) % 2 ^ 32) (whole-shifted s (position m) hs (omega arith))
    ∙ put_on (whole s) raw m.counts.offset (omega arith) (omega (arith, g.latched.1.1.0)) (omega (arith, g.counts.0))

pub shift_alike : (m : Servo) → Fits m → Alike m (reset_position m)
unfolding reset_position shifted
shift_alike m t =
    let g = good m t in
    let raw : ℕ = m.latched.raw in
    let offset : ℕ = m.counts.offset in
    let hr : raw < 2 ^ 32 = omega (arith, g.latched.1.1.0) in
    let ho : offset < 2 ^ 32 = omega (arith, g.counts.0) in
    record {
      mode = refl;
      goal = put_on m.run.profile.goal raw offset g.sane.profile.goal hr ho;
      aim = refl;
      acceleration = refl;
      top = refl;
      pulse = refl;
      held = λ h. shift_place m t;
      slower = λ v z. le_refl _;
    }

-- ---- a tick

-- between a number and 0 no size is larger
below_rest : (v w : ℤ) → le_z v w ≡ true → le_z w (pos 0) ≡ true → nat_abs w ≤ nat_abs v
below_rest v (pos b) e z = omega (arith, leb-true b 0 z)
below_rest (pos a) (negsuc b) e z = absurd (false≢true e)
below_rest (negsuc a) (negsuc b) e z = omega (arith, leb-true b a e)

above-rest : (v w : ℤ) → le_z (pos 0) w ≡ true → le_z w v ≡ true → nat_abs w ≤ nat_abs v
above-rest v (negsuc b) z e = absurd (false≢true z)
above-rest (pos a) (pos b) z e = omega (arith, leb-true b a e)
above-rest (negsuc a) (pos b) z e = absurd (false≢true e)

-- toward speed 0 no size grows
falls : (a : ℕ) (v : ℤ) → nat_abs (toward a (pos 0) v) ≤ nat_abs v
falls a v = at (le_z v (pos 0)) refl
  where
    at : (t : Bool) → le_z v (pos 0) ≡ t → nat_abs (toward a (pos 0) v) ≤ nat_abs v
    at true e = let h = (velocity a (pos 0) v).rises e in below_rest v (toward a (pos 0) v) h.0 h.1
    at false e = let h = (velocity a (pos 0) v).falls e in above-rest v (toward a (pos 0) v) h.0 h.1

-- what a tick's profile keeps, by mode
pub record Steps (k : Mode) (p q : Profile) : Type 0 where
  pub goal : q.goal ≡ p.goal
  pub aim : q.aim ≡ p.aim
  pub acceleration : q.acceleration ≡ p.acceleration
  pub top : q.top ≡ p.top
  pub held : k ≡ Hold → q.setpoint ≡ p.setpoint
  pub slower : k ≡ Velocity → p.aim ≡ pos 0 → nat_abs q.speed ≤ nat_abs p.speed

stays : (k : Mode) (p : Profile) → Steps k p p
stays k p = record { goal = refl; aim = refl; acceleration = refl; top = refl; held = λ h. refl; slower = λ v z. le_refl _ }

steps : (k : Mode) (p : Profile) → Steps k p (advanced_by k p)
unfolding by_trapezoid by_velocity stepped
steps Off p = stays Off p
steps Pwm p = stays Pwm p
steps Hold p = stays Hold p
steps Velocity p = record {
  goal = refl;
  aim = refl;
  acceleration = refl;
  top = refl;
  held = λ h. absurd (distinct Velocity Hold refl h);
  slower = λ v z. subst (λ (g : ℤ). nat_abs (toward p.acceleration g p.speed) ≤ nat_abs p.speed) (sym z) (falls p.acceleration p.speed);
}
steps Trapezoid p = record {
  goal = refl;
  aim = refl;
  acceleration = refl;
  top = refl;
  held = λ h. absurd (distinct Trapezoid Hold refl h);
  slower = λ v z. absurd (distinct Trapezoid Velocity refl v);
}

-- what a tick makes of what runs: off, or the same mode with such a profile
abbrev pub Goes : Run → Run → Type 0
Goes r n = (n.drive.mode ≡ Off) ⊎ ((n.drive.mode ≡ r.drive.mode) × (n.drive.pulse ≡ r.drive.pulse) × Steps r.drive.mode r.profile n.profile)

pub tick_goes : (x : Sample) (m : Servo) → Goes (met x m).run (ticked x m).run
unfolding pulsed tripped idled off advanced
tick_goes x m =
    let r : Run = (met x m).run in
    tick_ends (Goes r) x m (record {
      off = λ q. inr (refl, refl, stays r.drive.mode r.profile);
      pwm = λ q. inr (refl, refl, stays r.drive.mode r.profile);
      output = λ s t q. inr (refl, refl, steps r.drive.mode r.profile);
      trip = λ q. inl refl;
    })

-- a tick leaves the offset
pub same_offset : (x : Sample) (m : Servo) → (ticked x m).counts.offset ≡ m.counts.offset
same_offset x m = (ticks x m).offset

-- where what is met is what ran
pub tick_alike : (x : Sample) (m : Servo) → (met x m).run ≡ m.run → ((ticked x m).run.drive.mode ≡ Off) ⊎ Alike m (ticked x m)
tick_alike x m e = by (subst (λ (r : Run). Goes r (ticked x m).run) e (tick_goes x m))
  where
    by : Goes m.run (ticked x m).run → ((ticked x m).run.drive.mode ≡ Off) ⊎ Alike m (ticked x m)
    by (inl e) = inl e
    by (inr (d, u, s)) = inr (record {
      mode = d;
      goal = ap₂ (λ (x y : ℕ). (x + y) % 2 ^ 32) s.goal (same_offset x m);
      aim = s.aim;
      acceleration = s.acceleration;
      top = s.top;
      pulse = u;
      held = λ h. ap₂ (λ (x y : ℕ). (whole x + y) % 2 ^ 32) (s.held h) (same_offset x m);
      slower = s.slower;
    })
