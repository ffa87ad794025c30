-- What holds of every meaning that the I/O module's own codes can have holds of the one that they have. Assumes nothing.
use mathlib.Core.List.{List}
use mathlib.Core.Bool.{true}
use Prim.Native.Nat.{ℕ}
use lib.ListN.{get_or}
use lib.Dec.{eqb}
use Rattle.module_rules.specs.Rules.{Meaning, unknown, takes}
use Rattle.module_rules.proofs.Settled.{pick}
use Rattle.inout_rules.specs.declared.Command.{Command}
use Rattle.inout_rules.specs.declared.Command.TheVariants.{Direction, Pwm, SynchOutput, Output, SynchStore, Timer, SynchInput}
use Rattle.inout_rules.specs.Pins.{bits_of}
use Rattle.inout_rules.specs.Asks.{own}

-- P of each meaning that a code and data bytes can have
pub record Each (P : Meaning Command → Type 0) (ds : List ℕ) : Type 0 where
  pub unknown : P unknown
  pub direction : P (takes 2 true (Direction (bits_of (get_or ds 0 0) (get_or ds 1 0))))
  pub pwm : P (takes 2 true (Pwm (get_or ds 0 0) (get_or ds 1 0)))
  pub synch_output : P (takes 0 true SynchOutput)
  pub output : P (takes 2 true (Output (bits_of (get_or ds 0 0) (get_or ds 1 0))))
  pub synch_store : P (takes 4 true (SynchStore (bits_of (get_or ds 0 0) (get_or ds 1 0)) (get_or ds 2 0) (get_or ds 3 0)))
  pub timer : P (takes 1 true (Timer (get_or ds 0 0)))
  pub synch_input : P (takes 0 true SynchInput)

pub own_means : (P : Meaning Command → Type 0) (code : ℕ) (ds : List ℕ) → Each P ds → P (own code ds)
unfolding own
own_means P code ds e =
    pick P (eqb code 0) _ _ (λ t. e.direction)
    (pick P (eqb code 4) _ _ (λ t. e.pwm)
    (pick P (eqb code 5) _ _ (λ t. e.synch_output)
    (pick P (eqb code 6) _ _ (λ t. e.output)
    (pick P (eqb code 7) _ _ (λ t. e.synch_store)
    (pick P (eqb code 8) _ _ (λ t. e.timer)
    (pick P (eqb code 12) _ _ (λ t. e.synch_input)
    e.unknown))))))
