-- Arriving: the trapezoid is a move itself, and how many ticks it takes. Assumes nothing.
use mathlib.Core.Path.{◌≡◌, refl, sym, ap}
use mathlib.Core.List.{List, [], ◌∷◌, ◌++◌}
use Prim.Native.Nat.{ℕ, zero, suc, ◌+◌, ◌-◌, ◌*◌, ◌≤◌, ◌<◌, min}
use native.Mathlib.Nat.{lt_of_not-le}
use native.Mathlib.Decide.{dec_le}
use native.Mathlib.Omega.{arith}
use lib.ListN.{length}
use Rattle.servo_motion.specs.Trapezoid.{stop, next_speed}
use Rattle.servo_motion.specs.Promises.{CanStop}
use Rattle.servo_motion.proofs.Stopping.{stop_zero, stop_step}
use Rattle.servo_motion.proofs.Speeds.{next, still_stops}
use Rattle.demands_rules.specs.Quickest.{total, Slow, Gentle, Move, speeds_in, reach, Arriving}
use Rattle.demands_rules.proofs.Racing.{stop-back, can-rest, braked, never_past, last_within}

-- n ticks cover no more than braking from n a does
pub reach_brakes : (n a top v : ℕ) → 0 < a → reach n a top v ≤ stop (n * a) a
unfolding reach
reach_brakes zero a top v h = omega arith
reach_brakes (suc n) a top v h =
    let i = reach_brakes n a top (v + a) h in
    let e : suc n * a - a ≡ n * a = omega arith in
    omega (arith, rw e at (stop_step (suc n * a) a h))

-- and no less than braking from a speed that they can have and brake from
pub brakes_reach : (n a top v x : ℕ) → 0 < a → x ≤ v + a → x ≤ n * a → x ≤ top → stop x a ≤ reach n a top v
unfolding reach
brakes_reach zero a top v x h p q t = let z : x ≡ 0 = omega arith in rw (z, stop_zero) (omega arith)
brakes_reach (suc n) a top v x h p q t =
    let i = brakes_reach n a top (v + a) (x - a) h (omega arith) (omega arith) (omega arith) in
    omega (arith, stop_step x a h)

-- a higher speed before them covers no less, nor do more ticks; from top on a higher speed covers no more
reach_mono : (n a top u v : ℕ) → u ≤ v → reach n a top u ≤ reach n a top v
unfolding reach
reach_mono zero a top u v h = omega arith
reach_mono (suc n) a top u v h = let i = reach_mono n a top (u + a) (v + a) (omega arith) in omega arith

reach_more : (n a top v : ℕ) → reach n a top v ≤ reach (suc n) a top v
unfolding reach
reach_more n a top v = omega (arith, reach_mono n a top v (v + a) (omega arith))

reach_top : (n a top u v : ℕ) → top ≤ u → top ≤ v → reach n a top u ≡ reach n a top v
unfolding reach
reach_top zero a top u v p q = refl
reach_top (suc n) a top u v p q = let i = reach_top n a top (u + a) (v + a) (omega arith) (omega arith) in omega arith

-- each tick covers something
reach_some : (n a top v : ℕ) → 0 < a → 0 < top → n ≤ reach n a top v
unfolding reach
reach_some zero a top v h t = omega arith
reach_some (suc n) a top v h t = let i = reach_some n a top (v + a) h t in omega (arith, one n)
  where
    one : (n : ℕ) → 0 < suc n * a
    one n = omega arith

-- one tick leaves no more than the others can cover
module _ (n a top d v : ℕ) (h : 0 < a) (c : CanStop a top d v) (r : d ≤ reach (suc n) a top v) where
  abbrev w : ℕ
  w = next_speed a top d v

  w_brakes : w ≤ suc n * a
  w_brakes = stop-back w (suc n * a) a h (omega (arith, (next a top d v c).has, reach_brakes (suc n) a top v h))

  climbing : min (v + a) top ≤ w → Dec (v + a ≤ top) → d - w ≤ reach n a top w
  unfolding reach
  climbing l (yes t) =
      let e : w ≡ v + a = omega (arith, (next a top d v c).to) in
      rw e (omega (arith, w_brakes))
  climbing l (no f) =
      let t = lt_of_not-le f in
      let e : w ≡ top = omega (arith, (next a top d v c).to) in
      omega (arith, w_brakes, reach_top n a top w (v + a) (omega arith) (omega arith))

  braking : w < min (v + a) top → Dec (w + 1 ≤ suc n * a) → d - w ≤ reach n a top w
  braking l (yes t) =
      let b = braked a top d v w (next a top d v c) l in
      let s = stop_step (w + 1) a h in
      omega (arith, brakes_reach n a top w (w + 1 - a) h (omega arith) (omega arith) (omega arith))
  braking l (no f) =
      let t = lt_of_not-le f in
      let e : w ≡ suc n * a = omega (arith, w_brakes) in
      let s = stop_step w a h in
      let m : stop (suc n * a) a ≡ stop w a = ap (λ (x : ℕ). stop x a) (sym e) in
      omega (arith, reach_brakes (suc n) a top v h, brakes_reach n a top w (w - a) h (omega arith) (omega arith) (omega arith))

  left_over : d - w ≤ reach n a top w
  left_over = either (dec_le (min (v + a) top) w)
    where
      either : Dec (min (v + a) top ≤ w) → d - w ≤ reach n a top w
      either (yes l) = climbing l (dec_le (v + a) top)
      either (no f) = braking (lt_of_not-le f) (dec_le (w + 1) (suc n * a))

reaches : (n a top d v : ℕ) → 0 < a → CanStop a top d v → d ≤ reach n a top v → total (speeds_in n a top d v) ≡ d
unfolding total speeds_in reach
reaches zero a top d v h c r = omega arith
reaches (suc n) a top d v h c r =
    let k = still_stops a top d v h c in
    omega (arith, k.0, reaches n a top (d - next_speed a top d v) (next_speed a top d v) h k.1 (left_over n a top d v h c r))

-- ---- every move

-- what can still come to rest has ticks enough for it
slows : (a v : ℕ) (xs : List ℕ) → Gentle a v (xs ++ 0 ∷ []) → v ≤ suc (length xs) * a
slows a v [] g = omega (arith, g.1)
slows a v (x ∷ xs) g = let i = slows a x xs g.2 in omega (arith, g.1)

covers_most : (a top v : ℕ) (xs : List ℕ) → Slow top xs → Gentle a v (xs ++ 0 ∷ []) → total xs ≤ reach (length xs) a top v
unfolding total reach
covers_most a top v [] s g = omega arith
covers_most a top v (x ∷ xs) s g =
    let i = covers_most a top x xs s.1 g.2 in
    omega (arith, s.0, g.0, slows a x xs g.2, reach_mono (length xs) a top x (v + a) g.0)

-- ---- the trapezoid's own

slow_speeds : (n a top d v : ℕ) → 0 < a → CanStop a top d v → Slow top (speeds_in n a top d v)
unfolding speeds_in
slow_speeds zero a top d v h c = tt
slow_speeds (suc n) a top d v h c =
    let k = still_stops a top d v h c in
    (k.1.slow, slow_speeds n a top (d - next_speed a top d v) (next_speed a top d v) h k.1)

-- followed by speeds that are gentle from where they end
gentle_on : (n a top d v r : ℕ) (ys : List ℕ) → 0 < a → CanStop a top d v → total (speeds_in n a top d v) + r ≡ d
    → ((w : ℕ) → CanStop a top r w → Gentle a w ys) → Gentle a v (speeds_in n a top d v ++ ys)
unfolding speeds_in total
gentle_on zero a top d v r ys h c e f = f v (let z : d ≡ r = omega arith in rw z at c)
gentle_on (suc n) a top d v r ys h c e f =
    let w : ℕ = next_speed a top d v in
    let k = still_stops a top d v h c in
    let g = next a top d v c in
    (omega (arith, g.to), omega (arith, g.from), gentle_on n a top (d - w) w r ys h k.1 (omega arith) f)

front : (a v : ℕ) (xs ys : List ℕ) → Gentle a v (xs ++ ys) → Gentle a v xs
front a v [] ys g = tt
front a v (x ∷ xs) ys g = (g.0, g.1, front a x xs ys g.2)

length-speeds : (n a top d v : ℕ) → length (speeds_in n a top d v) ≡ n
unfolding speeds_in
length-speeds zero a top d v = refl
length-speeds (suc n) a top d v = ap suc (length-speeds n a top _ _)

module _ (a top d : ℕ) (h : 0 < a) where
  abbrev own : ℕ → List ℕ
  own n = speeds_in n a top d 0

  gentle_own : (n : ℕ) → Gentle a 0 (own n)
  gentle_own n =
      front a 0 (own n) []
      (gentle_on n a top d 0 (d - total (own n)) [] h (can-rest a top d) (omega (arith, never_past n a top d 0 h (can-rest a top d))) (λ w q. tt))

  -- with nothing left it can come to rest at once
  last_rests : (w : ℕ) → CanStop a top 0 w → Gentle a w (0 ∷ [])
  last_rests w c = (omega arith, omega (arith, c.room, stop_step (w - a) a h), tt)

  own-move : (n : ℕ) → total (own n) ≡ d → Move a top d (own n)
  own-move n e = record {
    slow = slow_speeds n a top d 0 h (can-rest a top d);
    gentle = gentle_on n a top d 0 0 (0 ∷ []) h (can-rest a top d) (omega arith) last_rests;
    whole = e;
  }

  no_more : (xs : List ℕ) → Move a top d xs → d ≤ reach (length xs) a top 0
  no_more xs m = let w = m.whole in omega (arith, covers_most a top 0 xs m.slow m.gentle)

pub arriving : Arriving
arriving a top d h t = record {
  slow = λ n. slow_speeds n a top d 0 h c;
  gentle = gentle_own a top d h;
  within = λ n. never_past n a top d 0 h c;
  exactly = λ n. (λ e. rw (length-speeds n a top d 0) at (no_more a top d h (speeds_in n a top d 0) (own-move a top d h n e)), all n);
  ends = reach_some d a top 0 h t;
  stays = λ n. reach_more n a top 0;
  rests = λ n r. omega (arith, all n r, last_within n a top d 0 h c);
  move = λ n r. own-move a top d h n (all n r);
  most = no_more a top d h;
}
  where
    c : CanStop a top d 0
    c = can-rest a top d

    all : (n : ℕ) → d ≤ reach n a top 0 → total (speeds_in n a top d 0) ≡ d
    all n r = reaches n a top d 0 h c r
