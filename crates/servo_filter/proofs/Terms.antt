-- Terms: u is the sum of its three terms, each with its own gain. Assumes nothing.
use mathlib.Core.Path.{◌≡◌, sym, ap, ap₂, ◌∙◌}
use lib.IntN.{ℤ, pos, ◌+ℤ◌, ◌-ℤ◌, ◌*ℤ◌, zero-*ℤ, +ℤ_idl, +ℤ_idr}
use Rattle.servo_filter.specs.Filter.{drive, summed}
use Rattle.servo_filter.specs.Promises.{Terms}

-- a term without its gain adds nothing
no_first : (x y z : ℤ) → pos 0 *ℤ x +ℤ y +ℤ z ≡ y +ℤ z
no_first x y z = ap (λ (w : ℤ). w +ℤ y +ℤ z) (zero-*ℤ x) ∙ ap (λ (w : ℤ). w +ℤ z) (+ℤ_idl y)

no_second : (x y z : ℤ) → x +ℤ pos 0 *ℤ y +ℤ z ≡ x +ℤ z
no_second x y z = ap (λ (w : ℤ). x +ℤ w +ℤ z) (zero-*ℤ y) ∙ ap (λ (w : ℤ). w +ℤ z) (+ℤ_idr x)

no_third : (x z : ℤ) → x +ℤ pos 0 *ℤ z ≡ x
no_third x z = ap (λ (w : ℤ). x +ℤ w) (zero-*ℤ z) ∙ +ℤ_idr x

pub terms : Terms
unfolding drive
terms g m e =
    let p : ℤ = pos g.kp *ℤ e in
    let d : ℤ = pos g.kd *ℤ (e -ℤ m.previous) in
    let i : ℤ = pos g.ki *ℤ summed g m e in
    let first : p +ℤ pos 0 *ℤ (e -ℤ m.previous) +ℤ pos 0 *ℤ summed g m e ≡ p =
    no_second p (e -ℤ m.previous) (pos 0 *ℤ summed g m e) ∙ no_third p (summed g m e) in
    let second : pos 0 *ℤ e +ℤ d +ℤ pos 0 *ℤ summed g m e ≡ d = no_first e d (pos 0 *ℤ summed g m e) ∙ no_third d (summed g m e) in
    let third : pos 0 *ℤ e +ℤ pos 0 *ℤ (e -ℤ m.previous) +ℤ i ≡ i =
    no_first e (pos 0 *ℤ (e -ℤ m.previous)) i ∙ ap (λ (w : ℤ). w +ℤ i) (zero-*ℤ (e -ℤ m.previous)) ∙ +ℤ_idl i in
    record {
      proportional = first;
      derivative = second;
      integral = third;
      sum = sym (ap₂ ◌+ℤ◌ (ap₂ ◌+ℤ◌ first second) third);
    }
