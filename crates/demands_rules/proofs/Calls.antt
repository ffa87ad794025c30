-- Any calls. Assumes nothing.
use mathlib.Core.Path.{◌≡◌, refl, sym, ap, ap₂, ◌∙◌}
use mathlib.Core.Logic.{◌⊎◌, inl, inr}
use mathlib.Core.List.{List, [], ◌∷◌, ◌++◌}
use Prim.Native.Nat.{ℕ}
use Rattle.chain_rules.specs.Chain.{Net, Reply, flat}
use Rattle.chain_rules.proofs.Taking.{flat_append}
use Rattle.types_rules.specs.Types.{Module, AnySample, kind, slots}
use Rattle.types_rules.proofs.Laws.{lawful}
use Rattle.net_rules.specs.Record.{net_in, stored}
use Rattle.net_rules.proofs.Stored.{there}
use Rattle.api_rules.specs.Table.{byte_table, tick_table}
use Rattle.api_rules.specs.Calls.{byte_record, tick_record}
use Rattle.api_rules.specs.Promises.{ValidRecord, Refuses, Passes}
use Rattle.api_rules.proofs.Kept.{kept, holds}
use Rattle.api_rules.proofs.Refused.{refused, done}
use Rattle.demands_history_rules.specs.Events.{Event, event, run}
use Rattle.demands_history_rules.specs.Calls.{Call, byte, tick, AllHanded, refusals, leaves, left_by, writes, written_by, does, done_by}
use Rattle.demands_history_rules.proofs.Calls.{passes?, call_kept, refused_leaves, refused_writes, passed-leaves, passed-writes}
use Rattle.net_rules.proofs.Types.{types, stored_over}
use Rattle.demands_rules.proofs.Types.{event_types, call_types}
use Rattle.demands_rules.specs.Motion.{FromSetup, AnyCalls, RefusedIsNoStep}

pub from_setup : FromSetup
from_setup net types p = (kept.setup net types p, holds.setup net types p)

-- the events of a list of calls, by whether the first is refused
pub done-passed : (c : Call) (cs : List Call) (net : List ℕ) → Passes (refusals net c) → done_by (c ∷ cs) net ≡ does (net_in slots net) c ∷ done_by cs (leaves net c)
done-passed c cs net p =
    ap (λ (l : List (Event (List AnySample))). l ++ done_by cs (leaves net c)) (sym (done (refusals net c) [] (does (net_in slots net) c ∷ []) refl p))

done_refused : (c : Call) (cs : List Call) (net : List ℕ) → Refuses (refusals net c) → done_by (c ∷ cs) net ≡ done_by cs (leaves net c)
done_refused c cs net r =
    ap (λ (l : List (Event (List AnySample))). l ++ done_by cs (leaves net c)) (sym (refused (refusals net c) [] (does (net_in slots net) c ∷ []) refl r))

-- ---- the bytes that hold nothing

-- a call leaves the record as it was, or with another network of the same types in it
record Left (net r : List ℕ) : Type 0 where
  net' : Net Module
  types : types net'.modules ≡ types (net_in slots net).modules
  left : r ≡ stored slots net' net

passed-stored : (net : List ℕ) (c : Call) → Passes (refusals net c) → leaves net c ≡ stored slots (event kind (does (net_in slots net) c) (net_in slots net)).net net
unfolding byte_record tick_record
passed-stored net (byte mark x room) p = sym (done (byte_table net mark room) net _ refl p)
passed-stored net (tick samples) p = sym (done (tick_table net samples) net _ refl p)

left_by_lem : (net : List ℕ) (c : Call) → ValidRecord net → Left net (leaves net c)
left_by_lem net c v = at (passes? (refusals net c))
  where
    same : leaves net c ≡ net → Left net (leaves net c)
    same e = record { net' = net_in slots net; types = refl; left = e ∙ sym (there lawful net v.1 v.0) }

    at : Passes (refusals net c) ⊎ Refuses (refusals net c) → Left net (leaves net c)
    at (inl p) = record { net' = (event kind (does (net_in slots net) c) (net_in slots net)).net; types = event_types c (net_in slots net); left = passed-stored net c p }
    at (inr r) = same (refused_leaves net c r)

-- a network of the same types, written into the record after any calls, is as if written into the record before them
written_after : (net : List ℕ) (cs : List Call) (n : Net Module) → ValidRecord net → AllHanded cs → types n.modules ≡ types (net_in slots net).modules
    → stored slots n (left_by cs net) ≡ stored slots n net
written_after net [] n v h e = refl
written_after net (c ∷ cs) n v h e =
    let l = left_by_lem net c v in
    written_after (leaves net c) cs n (call_kept net c h.0 v) h.1 (e ∙ sym (call_types net c h.0 v))
    ∙ ap (stored slots n) l.left
    ∙ stored_over l.net' n net v.1 v.0 l.types e

-- ---- any calls

record Ran (net : List ℕ) (cs : List Call) : Type 0 where
  valid : ValidRecord (left_by cs net)
  network : net_in slots (left_by cs net) ≡ (run kind (done_by cs net) (net_in slots net)).net
  replies : written_by cs net ≡ flat (run kind (done_by cs net) (net_in slots net)).replies

ran : (net : List ℕ) (cs : List Call) → ValidRecord net → AllHanded cs → Ran net cs
ran net [] v h = record { valid = v; network = refl; replies = refl }
ran net (c ∷ cs) v h = at (passes? (refusals net c)) (ran (leaves net c) cs (call_kept net c h.0 v) h.1)
  where
    later : List (Event (List AnySample))
    later = done_by cs (leaves net c)

    at : Passes (refusals net c) ⊎ Refuses (refusals net c) → Ran (leaves net c) cs → Ran net (c ∷ cs)
    at (inl p) t =
        let e : net_in slots (leaves net c) ≡ (event kind (does (net_in slots net) c) (net_in slots net)).net = passed-leaves net c h.0 v p in
        let d = done-passed c cs net p in
        let says : List Reply = (event kind (does (net_in slots net) c) (net_in slots net)).replies in
        record {
          valid = t.valid;
          network =
              t.network
              ∙ ap (λ (n : Net Module). (run kind later n).net) e
              ∙ ap (λ (l : List (Event (List AnySample))). (run kind l (net_in slots net)).net) (sym d);
          replies =
              ap₂ (λ (a b : List ℕ). a ++ b) (passed-writes net c p) (t.replies ∙ ap (λ (n : Net Module). flat (run kind later n).replies) e)
              ∙ sym (flat_append says (run kind later (event kind (does (net_in slots net) c) (net_in slots net)).net).replies)
              ∙ ap (λ (l : List (Event (List AnySample))). flat (run kind l (net_in slots net)).replies) (sym d);
        }
    at (inr r) t =
        let e : net_in slots (leaves net c) ≡ net_in slots net = ap (net_in slots) (refused_leaves net c r) in
        let d = done_refused c cs net r in
        record {
          valid = t.valid;
          network =
              t.network
              ∙ ap (λ (n : Net Module). (run kind later n).net) e
              ∙ ap (λ (l : List (Event (List AnySample))). (run kind l (net_in slots net)).net) (sym d);
          replies =
              ap (λ (l : List ℕ). l ++ written_by cs (leaves net c)) (refused_writes net c r)
              ∙ t.replies
              ∙ ap (λ (n : Net Module). flat (run kind later n).replies) e
              ∙ ap (λ (l : List (Event (List AnySample))). flat (run kind l (net_in slots net)).replies) (sym d);
        }

types_after_lem : (net : List ℕ) (cs : List Call) → ValidRecord net → AllHanded cs → types (net_in slots (left_by cs net)).modules ≡ types (net_in slots net).modules
types_after_lem net [] v h = refl
types_after_lem net (c ∷ cs) v h = types_after_lem (leaves net c) cs (call_kept net c h.0 v) h.1 ∙ call_types net c h.0 v

pub any_calls : AnyCalls
any_calls net cs v h =
    let r = ran net cs v h in
    record {
      valid = r.valid;
      network = r.network;
      bytes =
          sym (there lawful (left_by cs net) r.valid.1 r.valid.0)
          ∙ written_after net cs (net_in slots (left_by cs net)) v h (types_after_lem net cs v h)
          ∙ ap (λ (n : Net Module). stored slots n net) r.network;
      replies = r.replies;
    }

pub refused_is_no_step : RefusedIsNoStep
refused_is_no_step net [] later c r = (
  ap (left_by later) (refused_leaves net c r),
  ap₂ (λ (a b : List ℕ). a ++ b) (refused_writes net c r) (ap (written_by later) (refused_leaves net c r)),
)
refused_is_no_step net (b ∷ before) later c r =
    let ih = refused_is_no_step (leaves net b) before later c r in
    (ih.0, ap (λ (l : List ℕ). writes net b ++ l) ih.1)
