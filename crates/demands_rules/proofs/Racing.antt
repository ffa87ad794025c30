-- NoQuicker and NoSooner: the trapezoid against any other move, tick by tick. Assumes nothing.
use mathlib.Core.Path.{◌≡◌, refl}
use mathlib.Core.Logic.{◌⊎◌, inl, inr}
use mathlib.Core.List.{List, [], ◌∷◌, ◌++◌}
use Prim.Native.Nat.{ℕ, zero, suc, ◌+◌, ◌-◌, ◌≤◌, ◌<◌, min}
use native.Mathlib.Nat.{lt_of_not-le}
use native.Mathlib.Decide.{dec_le}
use native.Mathlib.Omega.{arith}
use lib.ListN.{take}
use Rattle.servo_motion.specs.Trapezoid.{stop, next_speed}
use Rattle.servo_motion.specs.Promises.{Asked, CanStop}
use Rattle.servo_motion.proofs.Stopping.{stop_zero, stop_step, stop_mono}
use Rattle.servo_motion.proofs.Speeds.{next, still_stops}
use Rattle.demands_rules.specs.Quickest.{total, final, Slow, Gentle, speeds_in, NoQuicker, NoSooner}

-- what moves at u still has to cover the sum of braking
needs : (a u : ℕ) (xs : List ℕ) → 0 < a → Gentle a u (xs ++ 0 ∷ []) → stop (u - a) a ≤ total xs
unfolding total
needs a u [] h g = let e : u - a ≡ 0 = omega (arith, g.1) in rw (e, stop_zero) (omega arith)
needs a u (x ∷ xs) h g =
    let i = needs a x xs h g.2 in
    let s = stop_step x a h in
    let j = stop_mono (u - a) x a h (omega (arith, g.1)) in
    omega arith

-- a speed that needs no more is no higher
pub stop-back : (p q a : ℕ) → 0 < a → stop p a ≤ stop q a → p ≤ q
stop-back p q a h k = either (dec_le p q)
  where
    either : Dec (p ≤ q) → p ≤ q
    either (yes y) = y
    either (no f) =
        let l = lt_of_not-le f in
        let m = stop_mono (q - a) (p - a) a h (omega arith) in
        omega (arith, stop_step p a h, stop_step q a h)

-- at rest any distance is enough
pub can-rest : (a top d : ℕ) → CanStop a top d 0
can-rest a top d = let z : 0 - a ≡ 0 = omega arith in record { slow = omega arith; room = rw (z, stop_zero) (omega arith) }

-- where the speed asked for is not the highest, one more could not stop
pub braked : (a top d v w : ℕ) → Asked a top d v w → w < min (v + a) top → d < stop (w + 1) a
braked a top d v w g l = either (dec_le (stop (w + 1) a) d)
  where
    either : Dec (stop (w + 1) a ≤ d) → d < stop (w + 1) a
    either (yes y) = let k = g.above (w + 1) (omega arith) y in absurd (omega arith)
    either (no f) = lt_of_not-le f

-- the trapezoid at v with d left, against a move at u with r left: it has covered no less, and where it is the slower it brakes already
record Ahead (a v d u r : ℕ) : Type 0 where
  covered : d ≤ r
  held : (u ≤ v) ⊎ (d ≤ stop (v + 1 - a) a)

-- one tick of both: the trapezoid's w, and the other's x, which leaves it r
module _ (a top v d u x r w : ℕ) (h : 0 < a) (g : Asked a top d v w) (p : Ahead a v d u (x + r)) (x-top : x ≤ top) (x-up : x ≤ u + a) (x-stops : stop (x - a) a ≤ r) where
  no_faster_lem : x ≤ w → Ahead a w (d - w) x r
  no_faster_lem l = let c = p.covered in record { covered = omega arith; held = inl l }

  -- a step that only the acceleration holds back is no slower than any other
  not_held : v + a ≤ w → (u ≤ v) ⊎ (d ≤ stop (v + 1 - a) a) → x ≤ w
  not_held l (inl k) = omega arith
  not_held l (inr k) = let b = stop-back w (v + 1 - a) a h (omega (arith, g.has)) in omega arith

  braking : w < x → w < v + a → Ahead a w (d - w) x r
  braking l k =
      let b = braked a top d v w g (omega arith) in
      let s = stop_step (w + 1) a h in
      let j = stop_mono (w + 1 - a) (x - a) a h (omega arith) in
      record { covered = omega arith; held = inr (omega arith) }

  both : Ahead a w (d - w) x r
  both = first (dec_le x w)
    where
      second : w < x → Dec (v + a ≤ w) → Ahead a w (d - w) x r
      second l (yes k) = no_faster_lem (not_held k p.held)
      second l (no f) = braking l (lt_of_not-le f)

      first : Dec (x ≤ w) → Ahead a w (d - w) x r
      first (yes l) = no_faster_lem l
      first (no f) = second (lt_of_not-le f) (dec_le (v + a) w)

-- after n ticks the other has covered no more, but for what it was behind
behind : (n a top v d u : ℕ) (xs : List ℕ) → 0 < a → CanStop a top d v → Ahead a v d u (total xs) → Slow top xs → Gentle a u (xs ++ 0 ∷ [])
    → total (take n xs) ≤ total (speeds_in n a top d v) + (total xs - d)
unfolding total speeds_in
behind zero a top v d u xs h c p s m = omega arith
behind (suc n) a top v d u [] h c p s m = omega arith
behind (suc n) a top v d u (x ∷ xs) h c p s m =
    let w : ℕ = next_speed a top d v in
    let k = still_stops a top d v h c in
    let q = both a top v d u x (total xs) w h (next a top d v c) p s.0 m.0 (needs a x xs h m.2) in
    let i = behind n a top w (d - w) x xs h k.1 q s.1 m.2 in
    omega (arith, k.0, q.covered, p.covered)

pub no_quicker : NoQuicker
no_quicker a top d xs h m n =
    let w = m.whole in
    let b = behind n a top 0 d 0 xs h (can-rest a top d) (record { covered = omega arith; held = inl (omega arith) }) m.slow m.gentle in
    omega arith

-- ---- what is covered, and the speed after it, never pass what was left

pub never_past : (n a top d v : ℕ) → 0 < a → CanStop a top d v → total (speeds_in n a top d v) ≤ d
unfolding total speeds_in
never_past zero a top d v h c = omega arith
never_past (suc n) a top d v h c =
    let k = still_stops a top d v h c in
    omega (arith, k.0, never_past n a top (d - next_speed a top d v) (next_speed a top d v) h k.1)

pub last_within : (n a top d v : ℕ) → 0 < a → CanStop a top d v → final v (speeds_in (suc n) a top d v) + total (speeds_in n a top d v) ≤ d
unfolding total final speeds_in
last_within zero a top d v h c = omega (arith, (still_stops a top d v h c).0)
last_within (suc n) a top d v h c =
    let k = still_stops a top d v h c in
    omega (arith, k.0, last_within n a top (d - next_speed a top d v) (next_speed a top d v) h k.1)

-- a tick at rest covers nothing
rest_covers : (n v : ℕ) (xs : List ℕ) → final v (take (suc n) xs) ≡ 0 → total (take n xs) ≡ total (take (suc n) xs)
unfolding total final
rest_covers zero v [] e = refl
rest_covers (suc n) v [] e = refl
rest_covers zero v (x ∷ xs) e = omega (arith, e)
rest_covers (suc n) v (x ∷ xs) e = let i = rest_covers n x xs e in omega arith

pub no_sooner : NoSooner
unfolding total
no_sooner a top d xs h z m zero e = absurd (omega (arith, e))
no_sooner a top d xs h z m (suc n) e =
    let w = never_past (suc n) a top d 0 h (can-rest a top d) in (
      omega (arith, no_quicker a top d xs h m (suc n)),
      λ r.
          omega (arith, rest_covers n 0 xs r, no_quicker a top d xs h m n, last_within n a top d 0 h (can-rest a top d)),
    )
