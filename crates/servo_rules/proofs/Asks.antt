-- What holds of every meaning that the servo's own codes can have holds of the one that they have. Assumes nothing.
use mathlib.Core.Path.{◌≡◌}
use mathlib.Core.List.{List}
use mathlib.Core.Bool.{true}
use Prim.Native.Nat.{ℕ}
use borrow.Author.Tests.{eqb-true}
use lib.Dec.{eqb}
use Rattle.module_rules.specs.Rules.{Meaning, unknown, takes}
use Rattle.module_rules.proofs.Settled.{pick}
use Rattle.servo_rules.specs.declared.Order.{Order}
use Rattle.servo_rules.specs.declared.Order.TheVariants.{ResetPosition, Start, ClearBits}
use Rattle.servo_rules.specs.Asks.{load_meant, gain_meant, stop_meant, homing_meant, own}

-- P of each meaning that a code and data bytes can have
pub record Each (P : Meaning Order → Type 0) (code : ℕ) (ds : List ℕ) : Type 0 where
  pub unknown : P unknown
  pub reset_position : code ≡ 0 → P (takes 0 true ResetPosition)
  pub load : code ≡ 4 → P (load_meant ds)
  pub start : code ≡ 5 → P (takes 0 true Start)
  pub gain : code ≡ 6 → P (gain_meant ds)
  pub stop : code ≡ 7 → P (stop_meant ds)
  pub homing : code ≡ 9 → P (homing_meant ds)
  pub clear_bits : code ≡ 11 → P (takes 0 true ClearBits)

pub own_means : (P : Meaning Order → Type 0) (code : ℕ) (ds : List ℕ) → Each P code ds → P (own code ds)
unfolding own
own_means P code ds e =
    pick P (eqb code 0) _ _ (λ t. e.reset_position (eqb-true _ _ t))
    (pick P (eqb code 4) _ _ (λ t. e.load (eqb-true _ _ t))
    (pick P (eqb code 5) _ _ (λ t. e.start (eqb-true _ _ t))
    (pick P (eqb code 6) _ _ (λ t. e.gain (eqb-true _ _ t))
    (pick P (eqb code 7) _ _ (λ t. e.stop (eqb-true _ _ t))
    (pick P (eqb code 9) _ _ (λ t. e.homing (eqb-true _ _ t))
    (pick P (eqb code 11) _ _ (λ t. e.clear_bits (eqb-true _ _ t))
    e.unknown))))))
