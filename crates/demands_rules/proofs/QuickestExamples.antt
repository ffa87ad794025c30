-- Beside the theorems of quickest moves: the trapezoid's lists and other moves, computed, and lists that lack one thing of a move and are ahead.
-- Assumes nothing.
use mathlib.Core.Path.{◌≡◌, refl}
use mathlib.Core.List.{List, [], ◌∷◌, ◌++◌}
use mathlib.Core.Bool.{Bool, true, false, ◌&&◌}
use Prim.Native.Nat.{ℕ, ◌+◌, ◌<◌, ◌≤◌}
use native.Mathlib.Omega.{arith}
use borrow.Author.Tests.{leb-true}
use lib.Dec.{eqb, leb, ltb}
use lib.ListN.{take}
use Rattle.servo_motion.specs.Trapezoid.{terms, stop, pick, greatest, next_speed}
use Rattle.net_rules.proofs.Tests.{and-true}
use Rattle.demands_rules.specs.Meaning.{gives, Holds}
use Rattle.demands_rules.specs.Quickest.{total, final, Slow, Gentle, Move, speeds_in, reach}
use Rattle.demands_rules.proofs.Racing.{no_quicker, no_sooner}

-- ---- the trapezoid's lists

-- bench sheet (f) and (g); V below A; d below A; d below both
pub lists : Holds (
    gives (speeds_in 5 2 5 12 0) (2 ∷ 4 ∷ 4 ∷ 2 ∷ 0 ∷ [])
    ∷ gives (speeds_in 5 2 5 11 0) (2 ∷ 4 ∷ 3 ∷ 2 ∷ 0 ∷ [])
    ∷ gives (speeds_in 5 5 2 7 0) (2 ∷ 2 ∷ 2 ∷ 1 ∷ 0 ∷ [])
    ∷ gives (speeds_in 2 5 9 3 0) (3 ∷ 0 ∷ [])
    ∷ gives (speeds_in 2 7 3 1 0) (1 ∷ 0 ∷ [])
    ∷ [])
unfolding speeds_in next_speed greatest pick stop terms
lists = (refl, (refl, (refl, (refl, (refl, tt)))))

-- each arrives in as many ticks as its distance needs, and not in one less
pub arrives : (12 ≤ reach 4 2 5 0) × (reach 3 2 5 0 < 12) × (7 ≤ reach 4 5 2 0) × (reach 3 5 2 0 < 7) × (3 ≤ reach 1 5 9 0)
unfolding reach
arrives = (omega arith, omega arith, omega arith, omega arith, omega arith)

-- ---- other lists of speeds, tried

abbrev is_slow : ℕ → List ℕ → Bool
is_slow top [] = true
is_slow top (x ∷ xs) = leb x top && is_slow top xs

abbrev is_gentle : ℕ → ℕ → List ℕ → Bool
is_gentle a v [] = true
is_gentle a v (x ∷ xs) = (leb x (v + a) && leb v (x + a)) && is_gentle a x xs

is_slow_lem : (top : ℕ) (xs : List ℕ) → is_slow top xs ≡ true → Slow top xs
is_slow_lem top [] e = tt
is_slow_lem top (x ∷ xs) e = let (p, q) = and-true (leb x top) (is_slow top xs) e in (leb-true x top p, is_slow_lem top xs q)

is_gentle_lem : (a v : ℕ) (xs : List ℕ) → is_gentle a v xs ≡ true → Gentle a v xs
is_gentle_lem a v [] e = tt
is_gentle_lem a v (x ∷ xs) e =
    let (p, q) = and-true (leb x (v + a) && leb v (x + a)) (is_gentle a x xs) e in
    let (r, s) = and-true (leb x (v + a)) (leb v (x + a)) p in
    (leb-true x (v + a) r, leb-true v (x + a) s, is_gentle_lem a x xs q)

is_move : (a top d : ℕ) (xs : List ℕ) → is_slow top xs ≡ true → is_gentle a 0 (xs ++ 0 ∷ []) ≡ true → total xs ≡ d → Move a top d xs
is_move a top d xs p q r = record { slow = is_slow_lem top xs p; gentle = is_gentle_lem a 0 (xs ++ 0 ∷ []) q; whole = r }

-- a softer move over the 12 of (f), one over 7 with V below A, one over 3 with d below A, and one tick over 2, whose list is shorter than the
-- trapezoid's 2, 0
pub softer : Move 2 5 12 (1 ∷ 3 ∷ 4 ∷ 3 ∷ 1 ∷ [])
unfolding total
softer = is_move 2 5 12 (1 ∷ 3 ∷ 4 ∷ 3 ∷ 1 ∷ []) refl refl refl

pub later : Move 5 2 7 (1 ∷ 2 ∷ 2 ∷ 2 ∷ 0 ∷ [])
unfolding total
later = is_move 5 2 7 (1 ∷ 2 ∷ 2 ∷ 2 ∷ 0 ∷ []) refl refl refl

pub brief : Move 5 9 3 (1 ∷ 2 ∷ [])
unfolding total
brief = is_move 5 9 3 (1 ∷ 2 ∷ []) refl refl refl

pub one_tick : Move 2 5 2 (2 ∷ [])
unfolding total
one_tick = is_move 2 5 2 (2 ∷ []) refl refl refl

-- so none of them is ahead at any time; that at rest at 7 after five ticks is not there before the trapezoid
pub softer_behind : (n : ℕ) → total (take n (1 ∷ 3 ∷ 4 ∷ 3 ∷ 1 ∷ [])) ≤ total (speeds_in n 2 5 12 0)
softer_behind = no_quicker 2 5 12 (1 ∷ 3 ∷ 4 ∷ 3 ∷ 1 ∷ []) (omega arith) softer

pub brief_behind : (n : ℕ) → total (take n (1 ∷ 2 ∷ [])) ≤ total (speeds_in n 5 9 3 0)
brief_behind = no_quicker 5 9 3 (1 ∷ 2 ∷ []) (omega arith) brief

pub no_sooner_there : (total (speeds_in 5 5 2 7 0) ≡ 7) × (final 0 (speeds_in 5 5 2 7 0) ≡ 0)
unfolding total final
no_sooner_there = let (t, r) = no_sooner 5 2 7 (1 ∷ 2 ∷ 2 ∷ 2 ∷ 0 ∷ []) (omega arith) (omega arith) later 5 refl in (t, r refl)

-- what a list has of a move over d: no speed above top, no change above a, rest within a of its last, d in all; and whether it is ahead after n ticks
abbrev tried : ℕ → ℕ → ℕ → ℕ → List ℕ → List Bool
tried a top d n xs =
    is_slow top xs
    ∷ is_gentle a 0 xs
    ∷ leb (final 0 xs) a
    ∷ eqb (total xs) d
    ∷ ltb (total (speeds_in n a top d 0)) (total (take n xs))
    ∷ []

-- Nothing of it can be left out: each of these lacks one thing alone, and is ahead.
pub needed : Holds (
    gives (tried 2 3 8 2 (2 ∷ 4 ∷ 2 ∷ [])) (false ∷ true ∷ true ∷ true ∷ true ∷ [])
    ∷ gives (tried 2 5 6 1 (3 ∷ 2 ∷ 1 ∷ [])) (true ∷ false ∷ true ∷ true ∷ true ∷ [])
    ∷ gives (tried 2 5 6 2 (2 ∷ 4 ∷ [])) (true ∷ true ∷ false ∷ true ∷ true ∷ [])
    ∷ gives (tried 2 5 2 2 (2 ∷ 2 ∷ [])) (true ∷ true ∷ true ∷ false ∷ true ∷ [])
    ∷ [])
unfolding total final speeds_in next_speed greatest pick stop terms
needed = (refl, (refl, (refl, (refl, tt))))
