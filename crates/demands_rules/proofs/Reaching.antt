-- Reaching: the most that n ticks cover, worked out. Assumes nothing.
use mathlib.Core.Path.{◌≡◌}
use Prim.Native.Nat.{ℕ, zero, suc, ◌+◌, ◌-◌, ◌*◌, ◌/◌, ◌≤◌, ◌<◌}
use native.Mathlib.Nat.{le_antisymm, div-mul-le_self, div-add-mod', mod-lt}
use native.Mathlib.Omega.{arith}
use Rattle.servo_motion.specs.Trapezoid.{stop}
use Rattle.servo_motion.proofs.Stopping.{stop_zero, stop_step}
use Rattle.demands_rules.specs.Quickest.{reach, Reaching}
use Rattle.demands_rules.proofs.Arriving.{reach_brakes, brakes_reach}

-- h ticks that each go faster by a, and n more
climb : (h n a top v : ℕ) → 0 < a → v + h * a ≤ top → v + h * a ≤ n * a + a
    → reach (h + n) a top v + stop v a ≡ stop (v + h * a) a + reach n a top (v + h * a)
unfolding reach
climb zero n a top v p q t =
    let e : v + 0 * a ≡ v = omega arith in
    let z : 0 + n ≡ n = omega arith in
    rw (e, z) (omega arith)
climb (suc h) n a top v p q t =
    let i = climb h n a top (v + a) p (omega arith) (omega arith) in
    let e : v + a + h * a ≡ v + suc h * a = omega arith in
    let f : suc h + n ≡ suc (h + n) = omega arith in
    let g : v + a - a ≡ v = omega arith in
    rw f (omega (arith, rw e at i, rw g at (stop_step (v + a) a p)))

-- n ticks that each go slower by a
descend : (n a top v : ℕ) → 0 < a → n * a ≤ v + a → n * a ≤ top → reach n a top v ≡ stop (n * a) a
descend n a top v p q t = le_antisymm (reach_brakes n a top v p) (brakes_reach n a top v (n * a) p q (omega arith) t)

-- j ticks at top, and then down
cruise : (j m a top v : ℕ) → 0 < a → top ≤ v + a → m * a ≤ top → top ≤ m * a + a → reach (j + m) a top v ≡ j * top + stop (m * a) a
unfolding reach
cruise zero m a top v p q t u =
    let z : 0 + m ≡ m = omega arith in
    rw z (omega (arith, descend m a top v p (omega arith) t))
cruise (suc j) m a top v p q t u =
    let f : suc j + m ≡ suc (j + m) = omega arith in
    rw f (omega (arith, cruise j m a top (v + a) p (omega arith) t u))

-- twice the sum of h steps
twice : (h a : ℕ) → 0 < a → 2 * stop (h * a) a ≡ a * (h * (h + 1))
twice zero a p = let z : 0 * a ≡ 0 = omega arith in rw (z, stop_zero) (omega arith)
twice (suc h) a p =
    let e : suc h * a - a ≡ h * a = omega arith in
    let s = rw e at (stop_step (suc h * a) a p) in
    omega (arith, twice h a p, s)

-- up by h steps, and down by as many or one less
tent : (h l a top : ℕ) → 0 < a → h * a ≤ top → l * a ≤ h * a → h * a ≤ l * a + a → reach (h + l) a top 0 ≡ stop (h * a) a + stop (l * a) a
tent h l a top p q t u =
    let c = climb h l a top 0 p (omega arith) (omega arith) in
    let e : 0 + h * a ≡ h * a = omega arith in
    omega (arith, rw (e, stop_zero) at c, descend l a top (h * a) p (omega arith) (omega arith))

pub reaching : Reaching
reaching a top p = record {
  even = λ h q.
      let e : 2 * h ≡ h + h = omega arith in
      rw e (omega (arith, tent h h a top p q (omega arith) (omega arith), twice h a p));
  odd = λ h q.
      let e : 2 * h + 1 ≡ h + 1 + h = omega arith in
      rw e (omega (arith, tent (h + 1) h a top p q (omega arith) (omega arith), twice h a p, twice (h + 1) a p));
  long = λ j. long j (top / a) (div-mul-le_self top a) (omega (arith, div-add-mod' top a, mod-lt top p));
}
  where
    long : (j m : ℕ) → m * a ≤ top → top ≤ m * a + a → reach (2 * m + j) a top 0 ≡ a * (m * (m + 1)) + j * top
    long j m q t =
        let e : 2 * m + j ≡ m + (j + m) = omega arith in
        let z : 0 + m * a ≡ m * a = omega arith in
        let c = climb m (j + m) a top 0 p (omega arith) (omega arith) in
        rw e (omega (arith, rw (z, stop_zero) at c, cruise j m a top (m * a) p t q t, twice m a p))
