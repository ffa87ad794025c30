-- `host_status::take_status` meets its contract. Assumes nothing.
use Rattle.std.proofs.Common.{◌≡◌, ap, ap₂, ◌∙◌, ℕ, List, length, Bool, ◌&&◌, eqb}
use Rattle.types_rules.specs.Types.{type_in, sizes_of, shows_of}
use Rattle.types_rules.proofs.Owed.{owes}
use Rattle.module_rules.proofs.Items.{at_most_four}
use Rattle.host_rules.specs.Reading.{needed_for, suits, status_of}
use Rattle.host_status.proofs.take_status.Goals as goal

-- items and length suit the type
suited : (kind items : ℕ) (reply : List ℕ) {sizes : List ℕ} {shown : Bool} {n : ℕ} → sizes ≡ sizes_of kind → shown ≡ shows_of kind items → n ≡ needed_for items sizes
    → (shown && eqb (length reply) n) ≡ suits kind items reply
suited kind items reply s h n = ap₂ (λ (a b : Bool). a && b) h (ap (eqb (length reply)) (n ∙ ap (needed_for items) s))

pub returns-then-not-is_known : goal.returns-then-not-is_known
unfolding status_of
returns-then-not-is_known c = rw (← c.is_known.ensures, c.if-not-is_known.true)

pub returns-then-not-is_shown-long : goal.returns-then-not-is_shown-long
unfolding status_of
returns-then-not-is_shown-long c =
    let a = c.args in
    let s = suited a.kind a.items a.reply.now c.sizes_of-sizes.ensures c.is_shown.ensures c.needed.ensures in
    rw (← c.is_known.ensures, c.if-not-is_known.false, ← s, c.if-not-is_shown-long.true)

pub returns-then-not-is_summed : goal.returns-then-not-is_summed
unfolding status_of
returns-then-not-is_summed c =
    let a = c.args in
    let s = suited a.kind a.items a.reply.now c.sizes_of-sizes.ensures c.is_shown.ensures c.needed.ensures in
    rw (← c.is_known.ensures, c.if-not-is_known.false, ← s, c.if-not-is_shown-long.false, ← c.is_summed.ensures, c.if-not-is_summed.true)

pub read-requires-clause-by_index : goal.read-requires-clause-by_index
read-requires-clause-by_index c = λ i. rw c.sizes_of-sizes.ensures (at_most_four _ (owes (type_in c.args.kind)).four i)

pub returns : goal.returns
unfolding status_of
returns c =
    let a = c.args in
    let s = suited a.kind a.items a.reply.now c.sizes_of-sizes.ensures c.is_shown.ensures c.needed.ensures in
    rw (← c.is_known.ensures, c.if-not-is_known.false, ← s, c.if-not-is_shown-long.false, ← c.is_summed.ensures, c.if-not-is_summed.false, ← c.sizes_of-sizes.ensures, c.read.ensures)
