-- A list of tests of which every one holds, taken apart and put together. Assumes nothing.
use mathlib.Core.Path.{◌≡◌, refl, sym, ◌∙◌}
use mathlib.Core.List.{List, [], ◌∷◌, ◌++◌}
use mathlib.Core.Bool.{Bool, true, false}
use Prim.Native.Nat.{ℕ}
use Rattle.base_layout.specs.Every.{every, every_from}

-- every test of a list holds
abbrev pub Hold : List Bool → Type 0
Hold [] = Unit {0}
Hold (t ∷ ts) = (t ≡ true) × Hold ts

pub hold_left : (ts us : List Bool) → Hold (ts ++ us) → Hold ts
hold_left [] us h = tt
hold_left (t ∷ ts) us h = (h.0, hold_left ts us h.1)

pub hold_right : (ts us : List Bool) → Hold (ts ++ us) → Hold us
hold_right [] us h = h
hold_right (t ∷ ts) us h = hold_right ts us h.1

pub hold_both : (ts us : List Bool) → Hold ts → Hold us → Hold (ts ++ us)
hold_both [] us h k = k
hold_both (t ∷ ts) us h k = (h.0, hold_both ts us h.1 k)

stuck : (ts : List Bool) → every_from false ts ≡ false
stuck [] = refl
stuck (t ∷ ts) = stuck ts

from_hold : (ts : List Bool) (t : Bool) → every_from t ts ≡ true → Hold (t ∷ ts)
from_hold [] t e = (e, tt)
from_hold (u ∷ ts) true e = (refl, from_hold ts u e)
from_hold (u ∷ ts) false e = let z : false ≡ true = sym (stuck ts) ∙ e in (z, absurd (no_truth z))
  where
    no_truth : false ≡ true → ⊥
    no_truth z = let n : ◌≡◌ {A = ℕ} 0 1 = cc in absurd (omega native.Mathlib.Omega.arith)

pub every_hold : (ts : List Bool) → every ts ≡ true → Hold ts
every_hold [] e = tt
every_hold (t ∷ ts) e = from_hold ts t e

hold_from : (ts : List Bool) (t : Bool) → t ≡ true → Hold ts → every_from t ts ≡ true
hold_from [] t e h = e
hold_from (u ∷ ts) true e h = hold_from ts u h.0 h.1
hold_from (u ∷ ts) false e h = let z : false ≡ true = e in cc

pub hold_every : (ts : List Bool) → Hold ts → every ts ≡ true
hold_every [] h = refl
hold_every (t ∷ ts) h = hold_from ts t h.0 h.1
