-- `replay_feed::measured` meets its contract. Assumes nothing.
use mathlib.Core.Path.{sym, ap, ◌∙◌}
use Prim.Native.Nat.{ℕ}
use lib.ListN.{take, drop, length-drop}
use lib.Seq.{take-length}
use Rattle.replay_file.proofs.Measured.{ten_put}
use Rattle.replay_feed.proofs.measured.Goals as goal

pub returns : goal.returns
returns c =
    let s = c in
    let body = s.args.body.now in
    ten_put s.args.t body _ s.requires.1 s.requires.0 (ap (λ (n : ℕ). take n (drop 1 body)) (sym (length-drop 1 body)) ∙ take-length (drop 1 body))
    c.put_all.ensures
