-- Mirrored: a profile goes by the trapezoid's speeds, forth and back and through the wraps. Assumes nothing.
use mathlib.Core.Path.{◌≡◌, refl, sym, ap, ap₂, ◌∙◌}
use mathlib.Core.List.{List, ◌∷◌, map}
use mathlib.Core.Bool.{Bool, true, false}
use Prim.Native.Nat.{ℕ, zero, suc, ◌+◌, ◌-◌, ◌^◌, ◌≤◌, ◌<◌}
use native.Mathlib.Omega.{arith}
use lib.IntN.{ℤ, pos, neg_ℤ, nat_abs, ◌-ℤ◌}
use lib.Signed.{lt_z}
use Rattle.base_integers.proofs.Parts.{parts_neg, parts_diff, parts_same}
use Rattle.servo_motion.specs.declared.Profile.{Profile}
use Rattle.servo_motion.specs.Trapezoid.{next_speed}
use Rattle.servo_motion.specs.Setpoint.{moved}
use Rattle.servo_motion.specs.Profile.{Ranged, trapezoid, left, stepped, by_trapezoid, speeds}
use Rattle.servo_motion.specs.Promises.{CanStop, Running}
use Rattle.servo_motion.proofs.Speeds.{still_stops}
use Rattle.servo_motion.proofs.Apart.{moved-turned}
use Rattle.servo_motion.proofs.Runs.{taken, runs, in_range}
use Rattle.servo_rules.specs.Loads.{signed_by}
use Rattle.servo_rules.proofs.Signs.{signed_size, signed_zero, signed_itself}
use Rattle.demands_rules.specs.Quickest.{total, final, speeds_in, Mirrored}
use Rattle.demands_rules.proofs.Racing.{never_past}

-- ---- a size with a sign

signed-less : (b : Bool) (x y : ℕ) → y ≤ x → signed_by b x -ℤ signed_by b y ≡ signed_by b (x - y)
unfolding signed_by
signed-less true x y h =
    parts_same (neg_ℤ (pos x) -ℤ neg_ℤ (pos y)) (neg_ℤ (pos (x - y)))
    (omega (arith, parts_diff (neg_ℤ (pos x)) (neg_ℤ (pos y)), parts_neg (pos x), parts_neg (pos y), parts_neg (pos (x - y))))
signed-less false x y h = parts_same (pos x -ℤ pos y) (pos (x - y)) (omega (arith, parts_diff (pos x) (pos y)))

-- two moves one after another are one over both
moved_on : (b : Bool) (p x y : ℕ) → p < 2 ^ 48 → x + y < 2 ^ 47 → moved (moved p (signed_by b x)) (signed_by b y) ≡ moved p (signed_by b (x + y))
unfolding signed_by
moved_on true p x y h l =
    let s = moved-turned p (neg_ℤ (pos x)) h (omega (arith, parts_neg (pos x))) in
    let t = moved-turned (moved p (neg_ℤ (pos x))) (neg_ℤ (pos y)) s.small (omega (arith, parts_neg (pos y))) in
    let u = moved-turned p (neg_ℤ (pos (x + y))) h (omega (arith, parts_neg (pos (x + y)))) in
    omega (arith, s.meets, t.meets, u.meets, t.small, u.small, parts_neg (pos x), parts_neg (pos y), parts_neg (pos (x + y)))
moved_on false p x y h l =
    let s = moved-turned p (pos x) h (omega arith) in
    let t = moved-turned (moved p (pos x)) (pos y) s.small (omega arith) in
    let u = moved-turned p (pos (x + y)) h (omega arith) in
    omega (arith, s.meets, t.meets, u.meets, t.small, u.small)

-- ---- one tick

-- the new speed in either direction; with nothing left it is 0, which has no sign
signed_next : (a top d : ℕ) (b : Bool) (v : ℤ) → 0 < a → CanStop a top d (nat_abs v) → trapezoid a top (signed_by b d) v ≡ signed_by b (next_speed a top d (nat_abs v))
unfolding trapezoid signed_by
signed_next a top d false v h c = refl
signed_next a top zero true v h c =
    let z : next_speed a top 0 (nat_abs v) ≡ 0 = omega (arith, (still_stops a top 0 (nat_abs v) h c).0) in
    rw z refl
signed_next a top (suc d) true v h c = refl

-- a profile with this distance and this speed, both in one direction
pub record Goes (b : Bool) (d v : ℕ) (p : Profile) : Type 0 where
  pub ranged : Ranged p
  pub running : Running p
  pub far : left p ≡ signed_by b d
  pub speed : p.speed ≡ signed_by b v

module _ (b : Bool) (d v : ℕ) (p : Profile) (g : Goes b d v p) where
  abbrev pub faster : ℕ
  faster = next_speed p.acceleration p.top d v

  size_left : nat_abs (left p) ≡ d
  size_left = ap nat_abs g.far ∙ signed_size b d

  size_speed : nat_abs p.speed ≡ v
  size_speed = ap nat_abs g.speed ∙ signed_size b v

  pub can_stop : CanStop p.acceleration p.top d v
  can_stop = rw (size_left, size_speed) at g.running.stops

  pub next_is : (by_trapezoid p).speed ≡ signed_by b faster
  unfolding by_trapezoid stepped
  next_is =
      ap (λ (z : ℤ). trapezoid p.acceleration p.top z p.speed) g.far
      ∙ signed_next p.acceleration p.top d b p.speed g.running.force (rw size_left at g.running.stops)
      ∙ ap (λ (v : ℕ). signed_by b (next_speed p.acceleration p.top d v)) size_speed

  within-left : faster ≤ d
  within-left = (still_stops p.acceleration p.top d v g.running.force can_stop).0

  pub goes_on_lem : Goes b (d - faster) faster (by_trapezoid p)
  goes_on_lem = record {
    ranged = (in_range p g.ranged).0;
    running = runs p g.ranged g.running;
    far = taken p g.ranged g.running ∙ ap₂ (λ (x y : ℤ). x -ℤ y) g.far next_is ∙ signed-less b d faster within-left;
    speed = next_is;
  }

-- ---- n ticks

pub listed : (n : ℕ) (b : Bool) (d v : ℕ) (p : Profile) → Goes b d v p
    → speeds n by_trapezoid p ≡ map (signed_by b) (speeds_in n p.acceleration p.top d v)
unfolding speeds speeds_in by_trapezoid stepped
listed zero b d v p g = refl
listed (suc n) b d v p g =
    let w : ℕ = faster b d v p g in
    ap₂ (λ (x : ℤ) (xs : List ℤ). x ∷ xs) (next_is b d v p g) (listed n b (d - w) w (by_trapezoid p) (goes_on_lem b d v p g))

-- a profile at rest goes in the direction of its distance
pub sets_off : (p : Profile) → Ranged p → Running p → p.speed ≡ pos 0 → Goes (lt_z (left p) (pos 0)) (nat_abs (left p)) 0 p
sets_off p r s e = record {
  ranged = r;
  running = s;
  far = sym (signed_itself (left p));
  speed = e ∙ sym (signed_zero (lt_z (left p) (pos 0)));
}

pub mirrored : Mirrored
mirrored p n r s e = listed n (lt_z (left p) (pos 0)) (nat_abs (left p)) 0 p (sets_off p r s e)

-- the profile after n ticks
unfoldable pub after : ℕ → Profile → Profile
after zero p = p
after (suc n) p = after n (by_trapezoid p)

-- where it is then
pub record Gone (b : Bool) (d v : ℕ) (p : Profile) (xs : List ℕ) (q : Profile) : Type 0 where
  pub setpoint : q.setpoint ≡ moved p.setpoint (signed_by b (total xs))
  pub far : left q ≡ signed_by b (d - total xs)
  pub speed : q.speed ≡ signed_by b (final v xs)

still_there : (b : Bool) (p : ℕ) → p < 2 ^ 48 → p ≡ moved p (signed_by b 0)
still_there b p h =
    let t = moved-turned p (pos 0) h (omega arith) in
    rw (signed_zero b) (omega (arith, t.meets, t.small))

pub gone : (n : ℕ) (b : Bool) (d v : ℕ) (p : Profile) → d < 2 ^ 47 → Goes b d v p
    → Gone b d v p (speeds_in n p.acceleration p.top d v) (after n p)
unfolding speeds_in by_trapezoid stepped total final after
gone zero b d v p l g = record { setpoint = still_there b p.setpoint g.ranged.setpoint; far = let e : d ≡ d - 0 = omega arith in g.far ∙ ap (signed_by b) e; speed = g.speed }
gone (suc n) b d v p l g =
    let w : ℕ = faster b d v p g in
    let k = still_stops p.acceleration p.top d v g.running.force (can_stop b d v p g) in
    let rest : ℕ = total (speeds_in n p.acceleration p.top (d - w) w) in
    let m = never_past n p.acceleration p.top (d - w) w g.running.force k.1 in
    let i = gone n b (d - w) w (by_trapezoid p) (omega arith) (goes_on_lem b d v p g) in
    let e : d - w - rest ≡ d - (w + rest) = omega arith in
    record {
      setpoint =
          i.setpoint
          ∙ ap (λ (z : ℤ). moved (moved p.setpoint z) (signed_by b rest)) (next_is b d v p g)
          ∙ moved_on b p.setpoint w rest g.ranged.setpoint (omega (arith, k.0));
      far = i.far ∙ ap (signed_by b) e;
      speed = i.speed;
    }
