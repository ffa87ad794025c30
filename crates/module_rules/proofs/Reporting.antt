-- How a reply is put together, bit by bit of the item byte. Assumes nothing.
use mathlib.Core.Path.{◌≡◌, refl, ap₂}
use mathlib.Core.List.{◌++◌}
use mathlib.Core.Bool.{Bool}
use Prim.Native.Nat.{ℕ, ◌+◌, ◌*◌, ◌/◌, ◌%◌}
use native.Mathlib.Omega.{arith}
use borrow.Author.Tests.{eq-eqb, ne_eqb}
use Rattle.module_rules.specs.Report.{item, chosen, report}
use Rattle.module_rules.specs.FramePromises.{Reported}

pub reported : Reported
unfolding report
reported = record {
  whole = λ status items sizes numbers. refl;
  present = λ above k x ks xs.
      let odd : (1 + 2 * above) % 2 ≡ 1 = omega arith in
      let half : (1 + 2 * above) / 2 ≡ above = omega arith in
      ap₂ (λ (t : Bool) (b : ℕ). item t k x ++ chosen b ks xs) (eq-eqb _ _ odd) half;
  absent = λ above k x ks xs.
      let half : 2 * above / 2 ≡ above = omega arith in
      ap₂ (λ (t : Bool) (b : ℕ). item t k x ++ chosen b ks xs) (ne_eqb (2 * above % 2) 1 (λ e. omega arith)) half;
  example = refl;
}
