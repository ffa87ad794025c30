-- `replay_play::take_module` meets its contract. Assumes nothing.
use mathlib.Core.Path.{◌≡◌, refl, sym, ap, ◌∙◌}
use mathlib.Core.List.{[], ◌∷◌, ◌++◌}
use mathlib.Core.Bool.{Bool, true, false, not, ◌||◌}
use Prim.Native.Nat.{ℕ, ◌+◌}
use lib.ListN.{length, take}
use lib.Dec.{leb}
use Rattle.types_rules.specs.Types.{known}
use Rattle.net_rules.specs.Calls.{fresh}
use Rattle.base_layout.proofs.Pasted.{pasted_none}
use Rattle.replay_file.specs.declared.Course.TheVariants.{GoesOn}
use Rattle.replay_file.specs.Turns.{turned, types_after, samples_after, net_after, text_after}
use Rattle.replay_file.proofs.Gathered.{module_bad, module-good, types-put, types-taken, types_more, samples-put}
use Rattle.net_rules.specs.Record.{chain_most}
use Rattle.replay_play.proofs.take_module.Goals as goal
use Rattle.replay_play.proofs.take_module.Goals.{Else-at-n}

-- what the test that failed says
module _ (c : Else-at-n) where
  test : ((c.args.at.running || leb chain_most c.args.at.count) || not (known c.args.t)) ≡ false
  test = rw c.is_known.ensures at c.if-at-n.false

first_false : (p q : Bool) → (p || q) ≡ false → p ≡ false
first_false true q e = e
first_false false q e = refl

pub returns-then-at-n : goal.returns-then-at-n
unfolding turned types_after samples_after net_after text_after
returns-then-at-n c =
    let s = c in
    let a = s.args in
    let h = s.requires.held in
    let e = c.bad.ensures in
    let t = rw c.is_known.ensures at c.if-at-n.true in
    rw (module_bad a.at a.types.now a.samples.now a.net.now a.t h.size h.most t) (record { value = e.value; types_after = refl; samples_after = refl; net_after = refl; out_after = e.out_after })

pub returns : goal.returns
unfolding turned types_after samples_after net_after text_after
returns c =
    let s = c in
    let a = s.args in
    let h = s.requires.held in
    let t = test (goal.at.returns c).Else-at-n in
    let m = types_more a.at a.types.now a.samples.now a.net.now a.t h.size h.most t in
    let k = types-taken a.at a.types.now a.samples.now a.net.now a.t h.size h.most t in
    let g = module-good a.at a.types.now a.samples.now a.net.now a.t h.size h.most t in
    let n : a.at.count + 1 ≡ length (take a.at.count a.types.now ++ a.t ∷ []) = sym m ∙ ap length k in
    rw g (record {
      value = c.joined.ensures ∙ rw (first_false a.at.running _ (first_false _ _ t)) (ap (λ (k : ℕ). record { next = record { offset = a.at.offset + 2; count = k; running = false }; took = 2; wrote = 0; course = GoesOn }) n);
      types_after = types-put a.at a.types.now a.samples.now a.net.now a.t h.size h.most t;
      samples_after =
          c.put_unmeasured.ensures
          ∙ samples-put a.at a.types.now a.samples.now a.net.now a.t h.size h.most t h.room h.blank;
      net_after = c.set_up.ensures ∙ ap fresh k;
      out_after = sym (pasted_none 0 a.out.now);
    })
