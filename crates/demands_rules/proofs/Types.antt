-- A module stays of its type, whatever call comes; its type and its record tell it. Assumes nothing.
use mathlib.Core.Path.{◌≡◌, sym, ap, subst, subst_refl, ◌∙◌}
use mathlib.Core.HLevel.{hedberg}
use mathlib.Core.Logic.{◌⊎◌, inl, inr}
use mathlib.Core.List.{List}
use Prim.Native.Nat.{ℕ}
use native.Mathlib.Decide.{ℕ_discrete}
use lib.Dec.{eqb}
use Rattle.chain_rules.specs.Chain.{Net}
use Rattle.types_rules.specs.Table.{ModuleType, Of, rules_of}
use Rattle.types_rules.specs.Types.{Module, kind, type_in, slots}
use Rattle.types_rules.proofs.Laws.{type_back}
use Rattle.net_rules.specs.Record.{net_in}
use Rattle.net_rules.specs.Calls.{byte_of, samples_for}
use Rattle.net_rules.proofs.Types.{type_of, types, byte_types, timed_types}
use Rattle.api_rules.specs.Promises.{ValidRecord, Refuses, Passes}
use Rattle.demands_history_rules.specs.Events.{event}
use Rattle.demands_history_rules.specs.Calls.{Call, byte, tick, Handed, refusals, leaves, does}
use Rattle.demands_history_rules.proofs.Calls.{passes?, refused_leaves, passed-leaves}

pub event_types : (c : Call) (n : Net Module) → types (event kind (does n c) n).net.modules ≡ types n.modules
event_types (byte mark x room) n =
    byte_types n (byte_of x (eqb mark 1))
event_types (tick samples) n = timed_types (samples_for n samples) n.modules

pub call_types : (net : List ℕ) (c : Call) → Handed c → ValidRecord net → types (net_in slots (leaves net c)).modules ≡ types (net_in slots net).modules
call_types net c h v = at (passes? (refusals net c))
  where
    at : Passes (refusals net c) ⊎ Refuses (refusals net c) → types (net_in slots (leaves net c)).modules ≡ types (net_in slots net).modules
    at (inl p) = ap (λ (n : Net Module). types n.modules) (passed-leaves net c h v p) ∙ event_types c (net_in slots net)
    at (inr r) = ap (λ (s : List ℕ). types (net_in slots s).modules) (refused_leaves net c r)

-- ---- type and record

-- types are told apart by their numbers
type_discrete : Discrete ModuleType
type_discrete t u = at (ℕ_discrete (rules_of t).number (rules_of u).number)
  where
    at : Dec ((rules_of t).number ≡ (rules_of u).number) → Dec (t ≡ u)
    at (yes e) = yes (sym (type_back t) ∙ ap type_in e ∙ type_back u)
    at (no n) = no (λ e. n (ap (λ (t : ModuleType). (rules_of t).number) e))

-- so a module has one record of its type, and a module whose type is t has one
pub own_same : (t : ModuleType) (m k : Of t) → ◌≡◌ {A = Module} (t, m) (t, k) → m ≡ k
own_same t m k e =
    sym (subst_refl Of {x = t} m)
    ∙ ap (λ (p : t ≡ t). subst Of p m) (hedberg type_discrete t t (λ i. t) (λ i. (e i).0))
    ∙ (λ i. coe i 1 (j. Of (e j).0) (e i).1)

pub of_type_lem : (t : ModuleType) (x : Module) → type_of x ≡ t → (m : Of t) × (x ≡ (t, m))
of_type_lem t (u, x) e = (subst Of e x, λ i. (e i, coe 0 i (j. Of (e j)) x))
