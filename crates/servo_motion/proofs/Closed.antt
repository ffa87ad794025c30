-- ClosedForm: the stopping sum in closed form. Assumes nothing.
use mathlib.Core.Path.{◌≡◌, refl, ap, ◌∙◌}
use Prim.Native.Nat.{ℕ, zero, suc, ◌+◌, ◌-◌, ◌*◌, ◌/◌, ◌≤◌, ◌<◌}
use native.Mathlib.Nat.{zero-mul, mul-zero, suc-mul, mul-suc, mul-add, mul_comm, le_of_suc-le-suc, div-add-mod', mod-lt, div-mul-le_self, div-lt_iff_lt-mul, le-mul_of_pos_right}
use native.Mathlib.Omega.{arith}
use Rattle.servo_motion.specs.Trapezoid.{stop}
use Rattle.servo_motion.specs.Quick.{braking_ticks, ClosedForm}
use Rattle.servo_motion.proofs.Stopping.{stop_zero, stop_step}

-- 0 + 1 + .. + (k - 1)
unfoldable up_to : ℕ → ℕ
up_to zero = 0
up_to (suc k) = k + up_to k

twice : (k : ℕ) → up_to k * 2 ≡ k * (k - 1)
unfolding up_to
twice zero = simp zero-mul
twice (suc zero) = refl
twice (suc (suc j)) =
    let i = twice (suc j) in
    let p : suc j - 1 ≡ j = omega arith in
    let q : suc (suc j) - 1 ≡ suc j = omega arith in
    rw q (omega (arith, rw p at i, mul-suc (suc j) j, suc-mul (suc j) (suc j)))

-- k terms, the last of them at most a
closed : (k w a : ℕ) → 0 < a → (k - 1) * a ≤ w → w ≤ k * a → stop w a + a * up_to k ≡ k * w
unfolding up_to
closed zero w a h p q = let z : w ≡ 0 = omega (arith, zero-mul a) in rw (z, stop_zero) (simp mul-zero)
closed (suc zero) w a h p q =
    let e : w - a ≡ 0 = omega (arith, suc-mul 0 a, zero-mul a) in
    omega (arith, rw (e, stop_zero) at (stop_step w a h), suc-mul 0 w, zero-mul w, mul-zero a)
closed (suc (suc k)) w a h p q =
    let j : suc (suc k) - 1 ≡ suc k = omega arith in
    let i : suc k - 1 ≡ k = omega arith in
    let r : suc k * a ≤ w = rw j at p in
    let s = suc-mul (suc k) a in
    let t = suc-mul k a in
    let x : ℕ = w - a in
    let e : w ≡ a + x = omega arith in
    let g = closed (suc k) x a h (rw i (omega arith)) (omega arith) in
    let m = ap (λ (y : ℕ). suc k * y) e ∙ mul-add (suc k) a x in
    omega (arith, stop_step w a h, suc-mul (suc k) w, mul-add a (suc k) (up_to (suc k)), mul_comm a (suc k))

above : (w a : ℕ) → 0 < a → w ≤ braking_ticks w a * a
above w a h = omega (arith, div-add-mod' (w + (a - 1)) a, mod-lt (w + (a - 1)) h)

one_less : (k w a : ℕ) → 0 < a → k * a ≤ w + (a - 1) → (k - 1) * a ≤ w
one_less zero w a h p = let e : 0 - 1 ≡ 0 = refl in omega (arith, zero-mul a)
one_less (suc k) w a h p = let e : suc k - 1 ≡ k = omega arith in rw e (omega (arith, suc-mul k a))

pub closed_form : ClosedForm
closed_form w a h =
    let k : ℕ = braking_ticks w a in
    let t : k * (k - 1) / 2 ≡ up_to k = omega (arith, twice k) in
    rw t (closed k w a h (one_less k w a h (div-mul-le_self (w + (a - 1)) a)) (above w a h))

-- no more ticks than 65,536ths of speed
pub ticks_most : (w a : ℕ) → 0 < a → braking_ticks w a ≤ w
ticks_most w a h = le_of_suc-le-suc ((div-lt_iff_lt-mul h).1 (omega (arith, suc-mul w a, le-mul_of_pos_right w h)))
