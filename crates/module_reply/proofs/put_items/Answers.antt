-- `module_reply::put_items` meets its contract. The invariant: the items left, put where the loop is, give the whole. Assumes nothing.
use Rattle.std.proofs.Common.{◌≡◌, List, ℕ, [], ◌∷◌, ◌∙◌, sym, refl, arith, ◌⊎◌, inl, inr}
use Rattle.std.proofs.lemmas.Slice.Zip.{Zip-more, either_empty_from_Zip}
use Rattle.std.specs.Iterator.Adapters.{zip_first, zip_second}
use Rattle.std.specs.Slice.Iter.{iter_rest}
use Rattle.base_layout.proofs.Pasted.{pasted_none}
use Rattle.module_rules.specs.Report.{chosen}
use Rattle.module_rules.proofs.Items.{turn}
use Rattle.module_reply.proofs.put_items.Goals as goal
use Rattle.module_reply.proofs.put_items.Goals.{In-None}

pub loop-size-preserved : goal.loop-size-preserved
loop-size-preserved c =
    let l = c.loop-size in
    let next = c.next.new.self in
    let ks : List ℕ = iter_rest (zip_first next) in
    let xs : List ℕ = iter_rest (zip_second next) in
    let m = Zip-more l.size-iterator next c.next.result (c.in-Some.size, c.in-Some.number) c.in-Some.is c.next.ensures.steps in
    let e = c.put_item-at.ensures in
    let i = rw (m.0, m.1) at l.invariant in
    let t = turn l.room (c.in-Some.size.now ∷ ks) (c.in-Some.number.now ∷ xs) l.at l.left 0 (omega arith) (omega arith) (omega arith) in
    (omega arith, rw e.value (omega (arith, t.0)), rw (e.value, e.room_after) (t.1 ∙ i.2), rw e.value (t.2 ∙ i.3))

chosen_none : (b : ℕ) (ks xs : List ℕ) → (ks ≡ []) ⊎ (xs ≡ []) → chosen b ks xs ≡ []
chosen_none b ks xs (inl e) = rw e refl
chosen_none b [] xs (inr e) = refl
chosen_none b (k ∷ ks) xs (inr e) = rw e refl

none_left : (c : In-None) → chosen c.loop-size.left (iter_rest (zip_first c.loop-size.size-iterator)) (iter_rest (zip_second c.loop-size.size-iterator)) ≡ []
none_left c = chosen_none _ _ _ (either_empty_from_Zip c.loop-size.size-iterator c.next.new.self c.next.result c.in-None.is c.next.ensures.steps)

pub returns-clause-value : goal.returns-clause-value
returns-clause-value c =
    let i = rw (none_left c) at c.loop-size.invariant in
    omega (arith, i.3)

pub returns-clause-room_after : goal.returns-clause-room_after
returns-clause-room_after c =
    let i = rw (none_left c) at c.loop-size.invariant in
    sym (pasted_none c.loop-size.at c.loop-size.room) ∙ i.2
