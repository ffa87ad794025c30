-- `replay_feed::take_byte` meets its contract. Assumes nothing.
use mathlib.Core.Path.{refl, ap, ◌∙◌}
use mathlib.Core.List.{List}
use mathlib.Core.Bool.{true}
use Prim.Native.Nat.{ℕ, ◌+◌, ◌≤◌}
use native.Mathlib.Omega.{arith}
use borrow.Author.Tests.{lt-leb, le-leb}
use lib.ListN.{length, get_or, replicate}
use lib.Dec.{eqb}
use Rattle.base_layout.specs.Bytes.{pasted}
use Rattle.types_rules.specs.Types.{slots}
use Rattle.net_rules.specs.Record.{net_in, chain_most, room_size}
use Rattle.net_rules.specs.Calls.{byte_of}
use Rattle.net_rules.proofs.Valid.{valid_is}
use Rattle.net_rules.proofs.Exact.{length-modules}
use Rattle.replay_file.proofs.Spoken.{lengths_small, text_is}
use Rattle.replay_file.specs.Records.{line_byte}
use Rattle.replay_file.specs.Turns.{turned, net_after, text_after}
use Rattle.replay_file.specs.declared.Course.TheVariants.{GoesOn}
use Rattle.replay_feed.proofs.take_byte.Goals as goal
use Rattle.replay_feed.proofs.take_byte.Goals.{Start}

most : (s : Start) → length (net_in slots s.args.net.now).modules ≤ chain_most
most s = let v = valid_is slots s.args.net.now s.requires.net_value.0 in omega (arith, v.most, length-modules slots s.args.net.now)

pub returns-then-mark-gt1 : goal.returns-then-mark-gt1
unfolding line_byte turned net_after text_after
returns-then-mark-gt1 c = let e = c.bad.ensures in rw (lt-leb _ 1 c.if-mark-gt1.true) record { value = e.value; net_after = refl; out_after = e.out_after }

pub put_replies-wrote-requires : goal.put_replies-wrote-requires
put_replies-wrote-requires c =
    let s = (goal.at.put_replies-wrote-requires c).Start in
    let a = s.args in
    let e = c.byte-called.ensures in
    record { by_index = λ i. lengths_small (net_in slots a.net.now) (byte_of (get_or a.body.now 1 0) (eqb (get_or a.body.now 0 0) 1)) (most s) e.value i; room_size_in_bounds = (omega (arith, c.byte-called.auto), s.requires.offset_bound.1) }

pub returns : goal.returns
unfolding line_byte turned net_after text_after
returns c =
    let s = (goal.at.returns c).Start in
    let a = s.args in
    let e = c.byte-called.ensures in
    let p = c.put_replies-wrote.ensures in
    let t = text_is (net_in slots a.net.now) (byte_of (get_or a.body.now 1 0) (eqb (get_or a.body.now 0 0) 1)) (most s) e.value (replicate room_size 0) e.room_after in
    rw (le-leb (get_or a.body.now 0 0) 1 (omega (arith, c.if-mark-gt1.false))) record {
      value = c.went.ensures
          ∙ ap (λ (k : ℕ). record { next = record { offset = a.at.offset + 3; count = a.at.count; running = true }; took = 3; wrote = k; course = GoesOn }) (p.value ∙ ap length t);
      net_after = e.net_after;
      out_after = p.out_after ∙ ap (λ (x : List ℕ). pasted 0 x a.out.now) t;
    }
