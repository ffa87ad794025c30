-- What time makes of what runs of a module of any type: a step by a tick that is done, and nothing by any other call. Assumes nothing.
use mathlib.Core.Path.{◌≡◌, refl, subst}
use mathlib.Core.Logic.{◌⊎◌, inl, inr}
use mathlib.Core.List.{List}
use mathlib.Core.Bool.{Bool}
use Prim.Native.Nat.{ℕ, zero, suc}
use Rattle.line_receiver.specs.Frames.{Frame}
use Rattle.module_rules.specs.Rules.{settled, request, with_cause}
use Rattle.types_rules.specs.Table.{ModuleType, Of, SampleOf, rules_of}
use Rattle.api_rules.specs.Table.{tick_table}
use Rattle.api_rules.specs.Promises.{Passes, Refuses}
use Rattle.api_rules.proofs.Refused as Refused
use Rattle.demands_history_rules.specs.Calls.{Call, byte, tick}
use Rattle.demands_history_rules.proofs.Calls.{passes?}
use Rattle.demands_rules.specs.Place.{sample_at, in_time, ticks_of}

-- ---- so many steps

unfoldable pub stepped : {P : Type 0} → (P → P) → ℕ → P → P
stepped step zero p = p
stepped step (suc n) p = stepped step n (step p)

-- ---- a type's laws

-- of a type: what runs, its step, what disturbs it, with which samples it makes its step, and when it runs at all
module _ (t : ModuleType) {P : Type 0} (part : Of t → P) (step : P → P) (Disturbs : Frame → Type 0) (Good : SampleOf t → Of t → Type 0)
    (Runs : P → Type 0) where
  -- another cause leaves what runs, and so does what an undamaged frame asks, unless it disturbs; a tick makes a step of what runs, which runs on
  pub record Steps : Type 0 where
    pub caused : (c : ℕ) (m : Of t) → part (with_cause (rules_of t) c m) ≡ part m
    pub asked : (f : Frame) (alone : Bool) (m : Of t) → (Disturbs f → ⊥) → part (settled (rules_of t) (request (rules_of t) f alone) m) ≡ part m
    pub tick : (x : SampleOf t) (m : Of t) → Runs (part m) → Good x m → part ((rules_of t).tick x m) ≡ step (part m)
    pub runs : (p : P) → Runs p → Runs (step p)

  module _ (law : Steps) where
    -- k has made n steps more than m
    abbrev Later : ℕ → Of t → Of t → Type 0
    Later n m k = part k ≡ stepped step n (part m)

    -- time makes a step of a tick that is done, and nothing of anything else
    pub time-steps : (net : List ℕ) (i : ℕ) (c : Call) (m : Of t) → Runs (part m)
        → ((samples : List ℕ) → c ≡ tick samples → Passes (tick_table net samples) → Good (sample_at t samples i) m)
        → Later (ticks_of net c) m (in_time t net i c m)
    unfolding stepped
    time-steps net i (byte mark x room) m e q = refl
    time-steps net i (tick samples) m e q = at (passes? (tick_table net samples))
      where
        done : Of t
        done = (rules_of t).tick (sample_at t samples i) m

        at : Passes (tick_table net samples) ⊎ Refuses (tick_table net samples) → Later (ticks_of net (tick samples)) m (in_time t net i (tick samples) m)
        at (inl p) =
            subst (λ (j : ℕ). Later j m (in_time t net i (tick samples) m)) (Refused.done (tick_table net samples) 0 1 refl p)
            (subst (Later 1 m) (Refused.done (tick_table net samples) m done refl p) (law.tick _ m e (q samples refl p)))
        at (inr r) =
            subst (λ (j : ℕ). Later j m (in_time t net i (tick samples) m)) (Refused.refused (tick_table net samples) 0 1 refl r)
            (subst (Later 0 m) (Refused.refused (tick_table net samples) m done refl r) refl)
