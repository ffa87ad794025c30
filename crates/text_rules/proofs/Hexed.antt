-- Hex digits: a character is one exactly where it has a value below 16. Assumes nothing.
use mathlib.Core.Path.{◌≡◌, refl, ap, ◌∙◌}
use mathlib.Core.List.{List, [], ◌∷◌}
use mathlib.Core.Bool.{Bool, true, false, cond, ◌&&◌}
use Prim.Native.Nat.{ℕ, zero, suc, ◌+◌, ◌-◌, ◌<◌}
use native.Mathlib.Omega.{arith}
use borrow.Author.Tests.{lt-ltb, le-ltb, ltb-true, ltb-false, eqb-true}
use lib.ListN.{length, get_or}
use lib.Dec.{eqb, ltb}
use Rattle.base_layout.proofs.Every.{every_hold}
use Rattle.text_rules.specs.Text.{Hex, figure, upper, lower}
use Rattle.text_rules.specs.Import.{value_of}

pub value_hex : {c d : ℕ} → Hex c d → value_of c ≡ d
unfolding value_of
value_hex {c} {d} (figure h e) = rw (le-ltb c 48 (omega arith), lt-ltb c 58 (omega arith)) (omega arith)
value_hex {c} {d} (upper g h e) =
    rw (le-ltb c 48 (omega arith), le-ltb c 58 (omega arith), le-ltb c 65 (omega arith), lt-ltb c 71 (omega arith)) (omega arith)
value_hex {c} {d} (lower g h e) =
    rw (le-ltb c 48 (omega arith), le-ltb c 58 (omega arith), le-ltb c 65 (omega arith), le-ltb c 71 (omega arith), le-ltb c 97 (omega arith), lt-ltb c 103 (omega arith))
    (omega arith)

pub hex_small : {c d : ℕ} → Hex c d → d < 16
hex_small (figure h e) = omega arith
hex_small (upper g h e) = h
hex_small (lower g h e) = h

-- which of the ranges a character is in
pub hex_value : (c : ℕ) → value_of c < 16 → Hex c (value_of c)
unfolding value_of
hex_value c h = go (ltb c 48) refl (ltb c 58) refl (ltb c 65) refl (ltb c 71) refl (ltb c 97) refl (ltb c 103) refl h
  where
    go : (p : Bool) → ltb c 48 ≡ p → (q : Bool) → ltb c 58 ≡ q → (r : Bool) → ltb c 65 ≡ r → (s : Bool) → ltb c 71 ≡ s → (t : Bool) → ltb c 97 ≡ t
        → (u : Bool) → ltb c 103 ≡ u
        → cond p 16 (cond q (c - 48) (cond r 16 (cond s (c - 55) (cond t 16 (cond u (c - 87) 16))))) < 16
        → Hex c (cond p 16 (cond q (c - 48) (cond r 16 (cond s (c - 55) (cond t 16 (cond u (c - 87) 16))))))
    go true a q b r d s e t f u g h = absurd (omega arith)
    go false a true b r d s e t f u g h =
        let x = ltb-false c 48 a in
        let y = ltb-true c 58 b in
        figure (omega arith) (omega arith)
    go false a false b true d s e t f u g h = absurd (omega arith)
    go false a false b false d true e t f u g h =
        let x = ltb-false c 65 d in
        let y = ltb-true c 71 e in
        upper (omega arith) (omega arith) (omega arith)
    go false a false b false d false e true f u g h = absurd (omega arith)
    go false a false b false d false e false f true g h =
        let x = ltb-false c 97 f in
        let y = ltb-true c 103 g in
        lower (omega arith) (omega arith) (omega arith)
    go false a false b false d false e false f false g h = absurd (omega arith)

-- a table of values from some character on is right, which computing tells, and so it is at each of its characters
unfoldable pub all_values : ℕ → List ℕ → Bool
all_values k [] = true
all_values k (x ∷ xs) = eqb x (value_of k) && all_values (suc k) xs

pub value_at : (k : ℕ) (xs : List ℕ) → all_values k xs ≡ true → (i : ℕ) → i < length xs → get_or xs i 0 ≡ value_of (k + i)
unfolding all_values
value_at k [] e i h = absurd (omega arith)
value_at k (x ∷ xs) e zero h = eqb-true _ _ (every_hold (eqb x (value_of k) ∷ all_values (suc k) xs ∷ []) e).0 ∙ ap value_of (let z : k ≡ k + 0 = omega arith in z)
value_at k (x ∷ xs) e (suc i) h =
    value_at (suc k) xs (every_hold (eqb x (value_of k) ∷ all_values (suc k) xs ∷ []) e).1.0 i (omega arith)
    ∙ ap value_of (let z : suc k + i ≡ k + suc i = omega arith in z)
