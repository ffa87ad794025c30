-- A table gives a number exactly when its line is the first that applies. Assumes nothing.
use mathlib.Core.Path.{◌≡◌, refl, sym}
use mathlib.Core.List.{List, [], ◌∷◌}
use mathlib.Core.Bool.{Bool, true, false}
use Prim.Native.Nat.{ℕ}
use native.Mathlib.Omega.{arith}
use Rattle.base_layout.specs.First.{Line, first, Given, here, later, NoneApplies, Numbered, Exactly}

first-given : (ls : List Line) (n : ℕ) → (n ≡ 0 → ⊥) → first ls ≡ n → Given n ls
first-given [] n h e = absurd (h (sym e))
first-given (l ∷ ls) n h e = go l.applies refl (first-given ls n h)
  where
    go : (t : Bool) → l.applies ≡ t → (first ls ≡ n → Given n ls) → Given n (l ∷ ls)
    go true q rest = here (rw q at e) q
    go false q rest = later q (rest (rw q at e))

pub given-first : {n : ℕ} {ls : List Line} → Given n ls → first ls ≡ n
given-first (here e q) = rw q e
given-first (later q g) = rw q (given-first g)

-- where none applies, each does not
pub none_applies : (ls : List Line) → Numbered ls → first ls ≡ 0 → NoneApplies ls
none_applies [] h e = tt
none_applies (l ∷ ls) h e = go l.applies refl (none_applies ls h.1)
  where
    go : (t : Bool) → l.applies ≡ t → (first ls ≡ 0 → NoneApplies ls) → (l.applies ≡ false) × NoneApplies ls
    go true q rest = let z = rw q at e in absurd (omega (arith, h.0))
    go false q rest = (q, rest (rw q at e))

pub none_first : (ls : List Line) → NoneApplies ls → first ls ≡ 0
none_first [] h = refl
none_first (l ∷ ls) h = rw h.0 (none_first ls h.1)

pub exactly : Exactly
exactly ls h = (
  λ n z. (λ e. first-given ls n z e, λ g. given-first g),
  (λ e. none_applies ls h e, λ n. none_first ls n),
)
