-- Demand 1 of a step-motor module, through the exported calls. Assumes nothing.
use mathlib.Core.Path.{◌≡◌, refl, sym, ap, subst, ◌∙◌}
use mathlib.Core.Logic.{◌⊎◌, inl, inr}
use mathlib.Core.List.{List, [], ◌∷◌}
use mathlib.Core.Bool.{Bool, cond}
use mathlib.Core.Option.{some}
use Prim.Native.Nat.{ℕ, zero, suc, ◌<◌}
use native.Mathlib.Omega.{arith}
use lib.ListN.{length, take, drop}
use Rattle.stepper_rules.specs.declared.Motion.{Motion}
use Rattle.stepper_rules.specs.declared.Stepper.{Stepper}
use Rattle.stepper_rules.specs.State.{rest}
use Rattle.stepper_rules.specs.Ramp.{onward, ticked}
use Rattle.types_rules.specs.Table.{stepper}
use Rattle.types_rules.specs.Types.{slots}
use Rattle.net_rules.specs.Record.{net_in}
use Rattle.api_rules.specs.Promises.{ValidRecord}
use Rattle.api_rules.proofs.TickBounds.{own_ten}
use Rattle.demands_history_rules.specs.Calls.{Call, tick, Handed, AllHanded, leaves, left_by}
use Rattle.demands_history_rules.proofs.Events.{below}
use Rattle.demands_rules.specs.Place.{AtOf, sample_at, after}
use Rattle.demands_rules.specs.SettingOut.{CallStarts}
use Rattle.demands_rules.proofs.Making.{same_place, fits_at, made, was_there, set_up_is}
use Rattle.demands_rules.proofs.Placing.{call_at, valid-after}
use Rattle.demands_rules.proofs.SettingOut as AnyType
use Rattle.demands_rules.proofs.Buffers.{never_of_any_type}
use Rattle.demands_stepper_rules.specs.Motion.{Rests, Moves, Starts, EveryCall, Never, NeverFromSetup, NeverInBuffers, StopInputEnds}
use Rattle.demands_stepper_rules.proofs.Starting.{sets_out}

-- a call starts a module that is at rest, or leaves it there
started_or_rests : (net : List ℕ) (c : Call) (i : ℕ) (m k : Stepper) → Handed c → ValidRecord net → AtOf stepper net i m → AtOf stepper (leaves net c) i k
    → Rests m → CallStarts stepper Starts net i m c ⊎ Rests k
started_or_rests net c i m k h v e q r =
    let (k', q', d) = made stepper net c i m h v e in
    subst (λ (k : Stepper). CallStarts stepper Starts net i m c ⊎ Rests k) (same_place stepper (net_in slots (leaves net c)).modules i k' k q' q)
    (AnyType.stays stepper Rests Starts sets_out net c i m k' (fits_at stepper net i m v e) r d)

pub every_call : EveryCall
every_call = record {
  command = λ net c i m k h v e q r z. moving k z (started_or_rests net c i m k h v e q r);
  tick = λ net samples i m k b v e q r. resting k (started_or_rests net (tick samples) i m k b v e q r);
  setup = λ net types i k p e. subst Rests (set_up_is stepper net types i k p e) refl;
}
  where
    moving : {A : Type 0} (k : Stepper) → Moves k → A ⊎ Rests k → A
    moving k z (inl s) = s
    moving k z (inr r) = absurd (z r)

    resting : (k : Stepper) → ⊥ ⊎ Rests k → Rests k
    resting k (inl n) = absurd n
    resting k (inr r) = r

pub never : Never
never = AnyType.never stepper Rests Starts sets_out

pub never_from_setup : NeverFromSetup
never_from_setup = AnyType.never_from_setup stepper Rests Starts sets_out

pub never_in_buffers : NeverInBuffers
never_in_buffers = never_of_any_type stepper Rests Starts sets_out

-- ---- the stop input

-- the first calls, and then the others
left_then : (j : ℕ) (cs : List Call) (net : List ℕ) → left_by (drop j cs) (left_by (take j cs) net) ≡ left_by cs net
left_then zero cs net = refl
left_then (suc j) [] net = refl
left_then (suc j) (c ∷ cs) net = left_then j cs (leaves net c)

later-handed : (j : ℕ) (cs : List Call) → AllHanded cs → AllHanded (drop j cs)
later-handed zero cs h = h
later-handed (suc j) [] h = tt
later-handed (suc j) (c ∷ cs) h = later-handed j cs h.1

pub stop_input_ends : StopInputEnds
unfolding ticked
stop_input_ends net cs i n x m v h t s st =
    let l : n < length cs = below cs n _ t.call in
    let (c, g, z, hc) = call_at cs net n l h in
    let is : c ≡ tick t.samples = let y : some c ≡ some (tick t.samples) = sym g ∙ t.call in cc in
    let w : ValidRecord (after net cs i n) = valid-after net cs i n v h (omega arith) in
    let w' : ValidRecord (after net cs i (suc n)) = valid-after net cs i (suc n) v h l in
    let st' : AtOf stepper (leaves (after net cs i n) (tick t.samples)) i m =
    subst (λ (r : List ℕ). AtOf stepper r i m) (z ∙ ap (leaves (after net cs i n)) is) st in
    let (before, at) = was_there stepper (after net cs i n) (tick t.samples) i m (subst Handed is hc) w st' in
    let after-it : m ≡ ticked (sample_at stepper t.samples i) before =
    same_place stepper (net_in slots (leaves (after net cs i n) (tick t.samples))).modules i m _ st'
    (own_ten (after net cs i n) t.samples i stepper before w.1 (subst Handed is hc) t.done at) in
    let ended : m.motion ≡ rest =
    ap (λ (m : Stepper). m.motion) after-it ∙ ap (λ (t : Bool). cond t rest (onward before.motion)) (ap (λ x. x.stop) (sym t.own) ∙ s) in (
      ended,
      λ k e moves.
          never (after net cs i (suc n)) (drop (suc n) cs) i m k w' (later-handed (suc n) cs h) st
          (subst (λ (r : List ℕ). AtOf stepper r i k) (sym (left_then (suc n) cs net)) e) (ap (λ (p : Motion). p.speed) ended) moves,
    )
