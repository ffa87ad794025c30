-- `replay_file::Place::bad` meets its contract. Assumes nothing.
use mathlib.Core.Path.{refl, ap, ◌∙◌}
use mathlib.Core.List.{[], ◌∷◌}
use Prim.Native.Nat.{ℕ, ◌≤◌}
use native.Mathlib.Omega.{arith}
use lib.ListN.{length}
use Rattle.base_text.specs.Digits.{decimal}
use Rattle.replay_print.specs.Text.{bad_line}
use Rattle.replay_file.specs.declared.Course.TheVariants.{Over}
use Rattle.replay_file.specs.Turns.{turned}
use Rattle.replay_print.proofs.Text.{offset_short, bad_length, all_put}
use Rattle.replay_file.proofs.Place.bad.Goals as goal
use Rattle.replay_file.proofs.Place.bad.Goals.{Start}

short : (c : Start) → length (decimal c.args.self.offset) ≤ 20
short c = offset_short c.args.self.offset c.requires.0

pub put_decimal-n-requires : goal.put_decimal-n-requires
put_decimal-n-requires c = let n = short (goal.at.put_decimal-n-requires c).Start in omega (arith, c.put_all.auto, c.requires)

pub bounds-out-n : goal.bounds-out-n
bounds-out-n c = let n = short (goal.at.bounds-out-n c).Start in omega (arith, c.put_decimal-n.ensures.value, c.put_decimal-n.auto, c.put_all.auto, c.requires)

pub returns : goal.returns
unfolding bad_line turned
returns c =
    let s = (goal.at.returns c).Start in
    let a = s.args in
    let d = c.put_decimal-n.ensures in
    let h = c.put_all.ensures in
    let n = short s in record { value = c.stays.ensures ∙ ap (λ (k : ℕ). record { next = a.self; took = 0; wrote = k; course = Over }) (omega (arith, bad_length a.self.offset, d.value)); out_after = all_put 0 10 _ 4 (98 ∷ 97 ∷ 100 ∷ 32 ∷ []) (decimal a.self.offset) a.out.now (omega (arith, s.requires)) h refl d.out_after (omega (arith, d.value)) }
