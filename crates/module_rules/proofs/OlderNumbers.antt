-- Where document 01's number of a cause is 0. Assumes nothing.
use mathlib.Core.Path.{◌≡◌, refl}
use mathlib.Core.Bool.{Bool, true, false, cond, ◌||◌}
use Prim.Native.Nat.{ℕ}
use lib.Dec.{eqb}
use borrow.Author.Tests.{eqb-true}
use Rattle.module_rules.specs.Numbering.{older_number}

-- document 01's number is 0 where the cause is
pub zero_alike : (c : ℕ) → eqb (older_number c) 0 ≡ eqb c 0
zero_alike c = go (eqb c 4) (eqb c 5) refl refl
  where
    go : (a b : Bool) → eqb c 4 ≡ a → eqb c 5 ≡ b → eqb (cond (a || b) 2 c) 0 ≡ eqb c 0
    go true b p q = rw (eqb-true c 4 p) refl
    go false true p q = rw (eqb-true c 5 q) refl
    go false false p q = refl
