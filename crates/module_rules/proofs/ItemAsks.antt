-- What the commands that choose items ask, by whether there is such an item byte. Assumes nothing.
use mathlib.Core.Path.{◌≡◌, refl}
use mathlib.Core.List.{[], ◌∷◌}
use mathlib.Core.Bool.{Bool, cond}
use Prim.Native.Nat.{ℕ}
use Rattle.module_rules.specs.declared.Setting.TheVariants.{Define, Nothing}
use Rattle.module_rules.specs.declared.Fault.TheVariants.{Value}
use Rattle.module_rules.specs.Commands.{asked}
use Rattle.module_rules.specs.Rules.{malformed, set, Rules, request}
use Rattle.module_rules.specs.FramePromises.{undamaged}

module _ {M S C : Type 0} (T : Rules M S C) where
  -- what Define Status and Read Status ask, by whether there is such an item byte
  pub define_asks : (to b : ℕ) (alone t : Bool) → T.shows b ≡ t → request T (undamaged to 2 (b ∷ [])) alone ≡ cond t (set (Define b)) (malformed Value)
  unfolding request asked
  define_asks to b alone t e = rw e refl

  pub read_asks : (to b : ℕ) (alone t : Bool) → T.shows b ≡ t → request T (undamaged to 3 (b ∷ [])) alone ≡ cond t (set Nothing) (malformed Value)
  unfolding request asked
  read_asks to b alone t e = rw e refl
