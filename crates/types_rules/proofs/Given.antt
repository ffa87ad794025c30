-- What a tick leaves, by whether the sample that it hands over is of the module's type. Of the pairs of types this file and `own_of` speak alone.
-- Assumes nothing.
use mathlib.Core.Path.{◌≡◌, refl, ap}
use mathlib.Core.Bool.{Bool, true, false, true≢false}
use mathlib.Core.Option.{Option, some, none}
use Rattle.types_rules.specs.Table.{ModuleType, servo, inout, stepper, Of, SampleOf, rules_of, own_of}
use Rattle.types_rules.specs.Types.{AnySample, given}

-- a sample that is a type's own is of that type
pub own_is : (t : ModuleType) (x : AnySample) (y : SampleOf t) → own_of t x ≡ some y → x ≡ (t, y)
own_is servo (servo, x) y e = let z : x ≡ y = cc in ap (λ (y : SampleOf servo). let s : AnySample = (servo, y) in s) z
own_is servo (inout, x) y e = let z : ◌≡◌ {A = Bool} true false = cc in absurd (true≢false z)
own_is servo (stepper, x) y e = let z : ◌≡◌ {A = Bool} true false = cc in absurd (true≢false z)
own_is inout (servo, x) y e = let z : ◌≡◌ {A = Bool} true false = cc in absurd (true≢false z)
own_is inout (inout, x) y e = let z : x ≡ y = cc in ap (λ (y : SampleOf inout). let s : AnySample = (inout, y) in s) z
own_is inout (stepper, x) y e = let z : ◌≡◌ {A = Bool} true false = cc in absurd (true≢false z)
own_is stepper (servo, x) y e = let z : ◌≡◌ {A = Bool} true false = cc in absurd (true≢false z)
own_is stepper (inout, x) y e = let z : ◌≡◌ {A = Bool} true false = cc in absurd (true≢false z)
own_is stepper (stepper, x) y e = let z : x ≡ y = cc in ap (λ (y : SampleOf stepper). let s : AnySample = (stepper, y) in s) z

-- and a sample of a type is its own
pub own_of_lem : (t : ModuleType) (x : SampleOf t) → own_of t (t, x) ≡ some x
own_of_lem servo x = refl
own_of_lem inout x = refl
own_of_lem stepper x = refl

-- what holds of a module, and of it after a tick with its own sample, holds whatever the sample's type is
pub by_own : (t : ModuleType) (P : Of t → Type 0) (x : AnySample) (m : Of t) → P m
    → ((y : SampleOf t) → x ≡ (t, y) → P ((rules_of t).tick y m)) → P (given t (own_of t x) m)
by_own t P x m h g = at (own_of t x) refl
  where
    at : (o : Option (SampleOf t)) → own_of t x ≡ o → P (given t o m)
    at none e = h
    at (some y) e = g y (own_is t x y e)

-- a sample of another type changes nothing
pub another : (t : ModuleType) (x : AnySample) (m : Of t) → ((rules_of x.0).number ≡ (rules_of t).number → ⊥) → given t (own_of t x) m ≡ m
another t x m n = at (own_of t x) refl
  where
    at : (o : Option (SampleOf t)) → own_of t x ≡ o → given t o m ≡ m
    at none e = refl
    at (some y) e = absurd (n (ap (λ (s : AnySample). (rules_of s.0).number) (own_is t x y e)))
