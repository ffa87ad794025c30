-- What holds of every meaning that the step-motor module's own codes can have holds of the one that they have. Assumes nothing.
use mathlib.Core.Path.{◌≡◌}
use mathlib.Core.List.{List}
use mathlib.Core.Bool.{true}
use Prim.Native.Nat.{ℕ}
use borrow.Author.Tests.{eqb-true}
use lib.Dec.{eqb}
use Rattle.module_rules.specs.Rules.{Meaning, unknown, takes}
use Rattle.module_rules.proofs.Settled.{pick}
use Rattle.stepper_rules.specs.declared.Order.{Order}
use Rattle.stepper_rules.specs.declared.Order.TheVariants.{Start}
use Rattle.stepper_rules.specs.Asks.{load_meant, parameters_meant, stop_meant, own}

-- P of each meaning that a code and data bytes can have
pub record Each (P : Meaning Order → Type 0) (code : ℕ) (ds : List ℕ) : Type 0 where
  pub unknown : P unknown
  pub load : code ≡ 4 → P (load_meant ds)
  pub start : code ≡ 5 → P (takes 0 true Start)
  pub parameters : code ≡ 6 → P (parameters_meant ds)
  pub stop : code ≡ 7 → P (stop_meant ds)

pub own_means : (P : Meaning Order → Type 0) (code : ℕ) (ds : List ℕ) → Each P code ds → P (own code ds)
unfolding own
own_means P code ds e =
    pick P (eqb code 4) _ _ (λ t. e.load (eqb-true _ _ t))
    (pick P (eqb code 5) _ _ (λ t. e.start (eqb-true _ _ t))
    (pick P (eqb code 6) _ _ (λ t. e.parameters (eqb-true _ _ t))
    (pick P (eqb code 7) _ _ (λ t. e.stop (eqb-true _ _ t))
    e.unknown)))
