-- `net_record::set_up` meets its contract. Assumes nothing.
use mathlib.Core.Path.{◌≡◌, refl, ap, ◌∙◌}
use mathlib.Core.List.{[], ◌∷◌, ◌++◌}
use Prim.Native.Nat.{ℕ}
use lib.ListN.{length, replicate, set}
use Rattle.base_layout.specs.Bytes.{pasted}
use Rattle.line_receiver.specs.Receive.{idle}
use Rattle.net_rules.proofs.Calls.{set_up_is}
use Rattle.net_rules.specs.Record.{record_size, count_at, receiver_bytes}
use Rattle.net_record.proofs.set_up.Goals as goal

-- the number of modules in a cleared record: its head is an idle receiver and that number
counted : (n : ℕ) → set (replicate record_size 0) count_at n ≡ pasted 0 (receiver_bytes idle ++ n ∷ []) (replicate record_size 0)
unfolding receiver_bytes
counted n = refl

pub returns : goal.returns
returns c =
    let types = c.args.types.now in
    let filled = c.fill.ensures.after (λ _ same. same) in
    let cleared : c.fill.new.self ≡ replicate record_size 0 = filled ∙ ap (λ (k : ℕ). replicate k 0) c.requires.0 in
    set_up_is c.args.net.now types c.requires.0 filled (rw cleared (counted (length types))) c.power_up_each.ensures
