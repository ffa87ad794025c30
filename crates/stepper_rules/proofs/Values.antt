-- Speeds and item bytes as numbers: which are taken, and which are not. Assumes nothing.
use mathlib.Core.Path.{◌≡◌, refl, ap, ◌∙◌}
use mathlib.Core.Logic.{◌⊎◌, inl, inr}
use mathlib.Core.List.{[], ◌∷◌}
use mathlib.Core.Bool.{Bool, true, false, ◌&&◌}
use Prim.Native.Nat.{ℕ, ◌/◌, ◌%◌, ◌<◌, ◌≤◌}
use native.Mathlib.Omega.{arith}
use borrow.Author.Tests.{eqb-true, eqb-false, le-leb, leb-true}
use lib.Dec.{eqb, leb}
use Rattle.base_layout.proofs.Every.{every_hold}
use Rattle.stepper_rules.specs.Carried.{is_speed}
use Rattle.stepper_rules.specs.Answers.{shows}

-- a speed that can be asked for, and one that cannot
pub is_speed_lem : (v : ℕ) → 1 ≤ v → v ≤ 250 → is_speed v ≡ true
is_speed_lem v a b = rw (le-leb 1 v a, le-leb v 250 b) refl

pub no_speed : (v : ℕ) → (v ≡ 0) ⊎ (251 ≤ v) → is_speed v ≡ false
no_speed v (inl e) = ap is_speed e
no_speed v (inr h) = ap (λ (t : Bool). leb 1 v && t) (above (leb v 250) refl) ∙ none (leb 1 v)
  where
    above : (t : Bool) → leb v 250 ≡ t → t ≡ false
    above true e = let l : v ≤ 250 = leb-true v 250 e in absurd (omega arith)
    above false e = refl

    none : (t : Bool) → (t && false) ≡ false
    none true = refl
    none false = refl

-- a number or another
or_else : (b k : ℕ) {P : Type 0} → ((b ≡ k → ⊥) → P) → (b ≡ k) ⊎ P
or_else b k {P} f = at (eqb b k) refl
  where
    at : (t : Bool) → eqb b k ≡ t → (b ≡ k) ⊎ P
    at true e = inl (eqb-true b k e)
    at false e = inr (f (eqb-false b k e))

sixteen : (q : ℕ) → q % 16 ≡ 0 → q < 32 → 0 < q → q ≡ 16
sixteen q e l p = omega arith

pub shown_items : (b : ℕ) → shows b ≡ true → (b ≡ 0x00) ⊎ ((b ≡ 0x01) ⊎ ((b ≡ 0x20) ⊎ (b ≡ 0x21)))
shown_items b e =
    let h = every_hold (eqb (b / 2 % 16) 0 ∷ eqb (b / 64) 0 ∷ []) e in
    let low = eqb-true (b / 2 % 16) 0 h.0 in
    let high = eqb-true (b / 64) 0 h.1.0 in
    or_else b 0 (λ zero. or_else b 1 (λ one. or_else b 32 (λ n. let half = sixteen (b / 2) low (omega arith) (omega arith) in omega arith)))
