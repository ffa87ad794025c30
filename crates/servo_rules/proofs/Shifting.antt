-- Reset Position: the wrapped counts and the setpoint shift alike, so what lies between any two of them stays. Assumes nothing.
use mathlib.Core.Path.{◌≡◌, refl, sym, ap, ap₂, ◌∙◌}
use Prim.Native.Nat.{ℕ, ◌+◌, ◌-◌, ◌*◌, ◌/◌, ◌%◌, ◌^◌, ◌≤◌, ◌<◌}
use native.Mathlib.Omega.{arith}
use lib.IntN.{pos, ◌-ℤ◌, ◌*ℤ◌}
use Rattle.base_integers.specs.Whole.{less, signed, difference}
use Rattle.servo_motion.specs.Setpoint.{whole, fraction, distance}
use Rattle.servo_rules.specs.State.{position, setpoint_at}
use Rattle.servo_rules.specs.Perform.{shifted, reset_position}
use Rattle.servo_rules.specs.StopPromises.{ResetsPosition, ShiftsNow}
use Rattle.base_integers.proofs.Same.{same_eq, eq_same}
use Rattle.servo_rules.proofs.Shown.{less_self}

-- a wrapped difference r of x and y: it and y make x, but for whole turns
pub record Wraps (x y r : ℕ) : Type 0 where
  pub turns : ℕ
  pub most : turns ≤ 1
  pub sum : r + y ≡ x + turns * 2 ^ 32
  pub small : r < 2 ^ 32

pub wraps : (x y : ℕ) → x < 2 ^ 32 → y < 2 ^ 32 → Wraps x y (less x y)
wraps x y h k = record { turns = 1 - (x + (2 ^ 32 - y)) / 2 ^ 32; most = omega arith; sum = omega arith; small = omega arith }

-- both less x: their difference stays
both_shift : (g w x a b r q : ℕ) → Wraps g x a → Wraps w x b → Wraps a b r → Wraps g w q → r ≡ q
both_shift g w x a b r q s t u v = omega (arith, s.most, s.sum, t.most, t.sum, u.most, u.sum, u.small, v.most, v.sum, v.small)

pub less_both : (g w x : ℕ) → g < 2 ^ 32 → w < 2 ^ 32 → x < 2 ^ 32 → less (less g x) (less w x) ≡ less g w
less_both g w x hg hw hx =
    let a = wraps g x hg hx in
    let b = wraps w x hw hx in
    both_shift g w x (less g x) (less w x) (less (less g x) (less w x)) (less g w) a b (wraps (less g x) (less w x) a.small b.small) (wraps g w hg hw)

-- a shifted setpoint: the whole part shifts by counts, the fraction stays
shift_setpoint : (w f x r t : ℕ) → f < 65536 → r < 2 ^ 32 → t ≤ 1 → r + x ≡ w + t * 2 ^ 32 → w < 2 ^ 32 → x < 2 ^ 32
    → (65536 * w + f + (2 ^ 48 - 65536 * x)) % 2 ^ 48 ≡ 65536 * r + f
shift_setpoint w f x r t hf hr ht e hw hx = omega arith

module _ (p x : ℕ) (h : p < 2 ^ 48) (k : x < 2 ^ 32) where
  shifted_is : (p + (2 ^ 48 - setpoint_at x)) % 2 ^ 48 ≡ 65536 * less (whole p) x + fraction p
  shifted_is =
      let e : p ≡ 65536 * whole p + fraction p = omega arith in
      let s = wraps (whole p) x (omega arith) k in
      ap (λ (p : ℕ). (p + (2 ^ 48 - setpoint_at x)) % 2 ^ 48) e
      ∙ shift_setpoint (whole p) (fraction p) x (less (whole p) x) s.turns (omega arith) s.small s.most s.sum (omega arith) k

  pub whole-shifted : whole ((p + (2 ^ 48 - setpoint_at x)) % 2 ^ 48) ≡ less (whole p) x
  whole-shifted = ap whole shifted_is ∙ upper (less (whole p) x) (fraction p) (omega arith)
    where
      upper : (r f : ℕ) → f < 65536 → whole (65536 * r + f) ≡ r
      upper r f h = omega arith

  part_shifted : fraction ((p + (2 ^ 48 - setpoint_at x)) % 2 ^ 48) ≡ fraction p
  part_shifted = ap fraction shifted_is ∙ lower (less (whole p) x) (fraction p) (omega arith)
    where
      lower : (r f : ℕ) → f < 65536 → fraction (65536 * r + f) ≡ f
      lower r f h = omega arith

-- nothing taken off
less_zero : (x : ℕ) → x < 2 ^ 32 → less x 0 ≡ x
less_zero x h = omega arith

-- the distance is made of the wrapped difference and the fraction
distance-same : (g p h q : ℕ) → less g (whole p) ≡ less h (whole q) → fraction p ≡ fraction q → distance g p ≡ distance h q
unfolding distance difference
distance-same g p h q e f = ap₂ (λ (n r : ℕ). signed n *ℤ pos 65536 -ℤ pos r) e f

pub resets_position : ResetsPosition
unfolding reset_position shifted difference
resets_position m c =
    let x : ℕ = position m in
    let p : ℕ = m.run.profile.setpoint in
    let hx : x < 2 ^ 32 = omega arith in
    let hp : p < 2 ^ 48 = c.profile.setpoint in
    let zero : less m.latched.raw m.latched.raw ≡ 0 = less_self m.latched.raw c.raw in
    let w = whole-shifted p x hp hx in
    let f = part_shifted p x hp hx in
    record {
      zero = zero;
      change = ap (λ (z : ℕ). less z (less m.counts.last x)) (zero ∙ sym (less_self x hx)) ∙ less_both x m.counts.last x hx c.last hx;
      far = distance-same (less m.run.profile.goal x) ((p + (2 ^ 48 - setpoint_at x)) % 2 ^ 48) m.run.profile.goal p
          (ap (less (less m.run.profile.goal x)) w ∙ less_both m.run.profile.goal (whole p) x c.profile.goal (omega arith) hx) f;
      following = ap signed (ap₂ less w zero ∙ less_zero (less (whole p) x) (omega arith));
      part = f;
      speed = refl;
      memory = refl;
      drive = refl;
      waits = refl;
      home = ap (less (less m.homing.home x)) zero ∙ less_zero (less m.homing.home x) (omega arith);
      homing = refl;
    }

pub shifts_now : ShiftsNow
shifts_now m = (same_eq m.run.profile.speed (pos 0), eq_same m.run.profile.speed (pos 0))
