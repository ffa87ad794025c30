-- Whether a touched module replies is judged before the frame. Assumes nothing.
use mathlib.Core.Path.{ap}
use mathlib.Core.List.{[]}
use mathlib.Core.Bool.{Bool, cond}
use Rattle.module_rules.specs.Kind.{Kind, executed}
use Rattle.module_rules.specs.Promises.{SpeaksBefore}

module _ {M S : Type 0} (K : Kind M S) where
  pub speaks_before : SpeaksBefore K
  speaks_before = (
    λ f m e. ap (λ (t : Bool). cond t (K.reply f (executed K f m)) []) e,
    λ f m e. ap (λ (t : Bool). cond t (K.reply f (executed K f m)) []) e,
  )
