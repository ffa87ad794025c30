-- `inout_perform::blended` meets its contract. What is kept of x and what is kept of y share no bit, so that both together are the sum. Assumes nothing.
use Rattle.std.proofs.Common.{◌≡◌, sym, ap, ◌∙◌, arith, ℕ, ◌+◌, ◌-◌, ◌%◌, ◌^◌, ◌<◌, bit_and, bit_or}
use Rattle.std.proofs.lemmas.Nat.{and_le_l, and_le_r, and_comm, and_assoc, and_mask, and-not, or_disjoint}
use Rattle.std.specs.Int.Bits.{and_self}
use Rattle.inout_rules.proofs.Blend.{blend_is}
use Rattle.inout_perform.proofs.blended.Goals as goal

apart : (d x y : ℕ) → d < 2 ^ 16 → bit_and (bit_and x d) (bit_and y (65535 - d)) ≡ 0
apart d x y h =
    let n : ℕ = 65535 - d in
    let swapped : bit_and d (bit_and y n) ≡ bit_and (bit_and d n) y = ap (bit_and d) (and_comm y n) ∙ sym (and_assoc y d n) in
    omega (arith, and-not 16 d d h h, and_self d, and_comm d n, and_assoc (bit_and y n) x d, swapped, and_le_l (bit_and d n) y, and_le_r x (bit_and d (bit_and y n)))

pub returns : goal.returns
returns c =
    let d : ℕ = c.args.direction in
    let x : ℕ = c.args.x in
    let y : ℕ = c.args.y in
    let rest : bit_and y (65535 - d) ≡ y - bit_and y d =
    omega (arith, and-not 16 d y c.ranges.direction.fits c.ranges.y.fits, and_comm y d, and_comm y (65535 - d)) in
    and_mask (bit_or (bit_and x d) (bit_and y (65535 - d))) 12
    ∙ ap (λ (n : ℕ). n % 2 ^ 12) (or_disjoint _ _ (apart d x y c.ranges.direction.fits) ∙ ap (λ (n : ℕ). bit_and x d + n) rest)
    ∙ sym (blend_is 12 d x y)
