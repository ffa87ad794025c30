-- What the tests of the two calls say. Assumes nothing.
use mathlib.Core.Path.{◌≡◌, refl}
use mathlib.Core.List.{List}
use mathlib.Core.Bool.{Bool, true, false, ◌||◌}
use mathlib.Core.Logic.{◌⊎◌, inl, inr}
use Prim.Native.Nat.{ℕ, ◌≤◌}
use borrow.Author.Tests.{ltb-false}
use lib.ListN.{length}
use lib.Dec.{ltb}
use Rattle.host_rules.specs.Writing.{unfit}

pub or-false : (a b : Bool) → (a || b) ≡ false → (a ≡ false) × (b ≡ false)
or-false false b e = (refl, e)
or-false true b e = let z : true ≡ false = e in (z, cc)

pub or-true : (a b : Bool) → (a || b) ≡ true → (a ≡ true) ⊎ (b ≡ true)
or-true true b e = inl refl
or-true false b e = inr e

-- what the writer takes
pub fit : (a c : ℕ) (ds : List ℕ) → unfit a c ds ≡ false → (a ≤ 255) × (c ≤ 15) × (length ds ≤ 15)
fit a c ds e =
    let one = or-false (ltb 255 a || ltb 15 c) (ltb 15 (length ds)) e in
    let two = or-false (ltb 255 a) (ltb 15 c) one.0 in
    (ltb-false _ _ two.0, ltb-false _ _ two.1, ltb-false _ _ one.1)
