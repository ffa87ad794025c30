-- Which kinds there are: a record of each that is taken, computed, and any other kind is bad. Assumes nothing.
use mathlib.Core.Path.{◌≡◌, refl}
use mathlib.Core.List.{List, [], ◌∷◌}
use lib.ListN.{replicate}
use Prim.Native.Nat.{ℕ, zero, suc, ◌<◌, ◌≤◌}
use native.Mathlib.Omega.{arith}
use borrow.Author.Tests.{ne_eqb}
use Rattle.line_receiver.specs.Receive.{taken}
use Rattle.chain_rules.specs.Chain.{Net, byte_step}
use Rattle.types_rules.specs.Types.{Module}
use Rattle.net_rules.specs.Calls.{set_up}
use Rattle.replay_file.specs.Records.{Stage, gathering, running, bad, body_length, kinds, line_byte, unmeasured, measured, sample_record, net_record, record_step, replayed}
use Rattle.replay_file.specs.Promises.{Taken, KnownKinds}

each-taken : (k : ℕ) → k < kinds → Taken k
unfolding taken byte_step body_length line_byte net_record record_step replayed measured sample_record
each-taken zero h = record { type = 2; body = 2 ∷ []; silent = refl }
each-taken (suc zero) h = record { type = 2; body = 0 ∷ 0 ∷ []; silent = refl }
each-taken (suc (suc zero)) h = record { type = 0; body = replicate 8 0; silent = refl }
each-taken (suc (suc (suc zero))) h = record { type = 2; body = replicate 10 0; silent = refl }
each-taken (suc (suc (suc (suc zero)))) h = record { type = 2; body = []; silent = refl }
each-taken (suc (suc (suc (suc (suc zero))))) h = record { type = 3; body = 0 ∷ 0 ∷ []; silent = refl }
each-taken (suc (suc (suc (suc (suc (suc k)))))) h = absurd (omega arith)

net_unknown : (k : ℕ) (n : Net Module) (list body : List ℕ) → kinds ≤ k → net_record k n list body ≡ bad
unfolding net_record
net_unknown k n list body h =
    rw (ne_eqb k 1 (λ e. omega arith), ne_eqb k 2 (λ e. omega arith), ne_eqb k 3 (λ e. omega arith), ne_eqb k 4 (λ e. omega arith), ne_eqb k 5 (λ e. omega arith))

unknown_bad : (s : Stage) (k : ℕ) (body : List ℕ) → kinds ≤ k → record_step s k body ≡ bad
unfolding record_step
unknown_bad (gathering []) k body h = rw (ne_eqb k 0 (λ e. omega arith))
unknown_bad (gathering (t ∷ ts)) k body h =
    rw (ne_eqb k 0 (λ e. omega arith)) (net_unknown k (set_up (t ∷ ts)) (unmeasured (t ∷ ts)) body h)
unknown_bad (running n list) k body h = rw (ne_eqb k 0 (λ e. omega arith)) (net_unknown k n list body h)

pub known_kinds : KnownKinds
known_kinds = record { taken = each-taken; unknown = unknown_bad }
