-- The stopping sum without adding up its terms, and the trapezoid's speed without trying each (document 02, P6), with what is promised of
-- both. Each promise is proved under its own name, with a small first letter, in proofs/.
use Rattle.std.specs.Prelude.{◌≡◌, Bool, false, cond, ℕ, zero, suc, ◌+◌, ◌-◌, ◌*◌, ◌/◌, ◌^◌, ◌≤◌, ◌<◌, min, leb}
use Rattle.servo_motion.specs.Trapezoid.{stop, greatest, next_speed}
use Rattle.servo_motion.specs.Profile.{fastest}

-- 02 P6: how many ticks stopping from the speed w takes, the first of them at w: w / a, rounded up.
abbrev pub braking_ticks : ℕ → ℕ → ℕ
braking_ticks w a = (w + (a - 1)) / a

-- The closed form k w - a k (k - 1) / 2 is the stopping sum. It is said as a sum, since a difference would hide what is below 0.
abbrev pub ClosedForm : Type 0
ClosedForm = (w a : ℕ) → 0 < a → stop w a + a * (braking_ticks w a * (braking_ticks w a - 1) / 2) ≡ braking_ticks w a * w

-- The longest sum, of the greatest speed at acceleration 1, has over eighty million terms, and is still far below 2 ^ 64.
abbrev pub Longest : Type 0
Longest = (braking_ticks fastest 1 ≡ fastest) × (stop fastest 1 ≡ 3518437250826240)

-- 02 P6: the middle of a range; of two the upper.
abbrev pub middle : ℕ → ℕ → ℕ
middle lo hi = hi - (hi - lo) / 2

-- 02 P6: the lowest of what n halvings leave of the range from lo to hi: a middle that passes is kept with all above it, else all below it.
unfoldable pub halved : ℕ → (ℕ → Bool) → ℕ → ℕ → ℕ
halved zero ok lo hi = lo
halved (suc n) ok lo hi =
    cond (leb hi lo) lo (cond (ok (middle lo hi)) (halved n ok (middle lo hi) hi) (halved n ok lo (middle lo hi - 1)))

-- 02 P6: a test that, once failed, stays failed above.
abbrev pub StaysFailed : (ℕ → Bool) → Type 0
StaysFailed ok = (x y : ℕ) → x ≤ y → ok x ≡ false → ok y ≡ false

-- Of such a test, halving finds the greatest that passes; n halvings are enough for fewer than 2 ^ n numbers above the lowest.
abbrev pub Halving : Type 0
Halving = (ok : ℕ → Bool) → StaysFailed ok → (n lo hi : ℕ) → hi - lo < 2 ^ n → halved n ok lo hi ≡ greatest ok lo hi

-- Whether a speed can still stop is such a test: one that cannot rules out all above it.
abbrev pub StoppingStays : Type 0
StoppingStays = (a d : ℕ) → 0 < a → StaysFailed (λ w. leb (stop w a) d)

-- So the new speed is found in 27 halvings, whatever was loaded.
abbrev pub Quickly : Type 0
Quickly =
    (a top d v : ℕ)
    → 0 < a → top ≤ fastest
    → next_speed a top d v ≡ halved 27 (λ w. leb (stop w a) d) (v - a) (min (v + a) top)
