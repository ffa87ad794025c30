-- What runs of a module of any type, through calls that do not disturb it: a step for each tick that is done. Assumes nothing.
use mathlib.Core.Path.{◌≡◌, refl, sym, ap, subst, ◌∙◌}
use mathlib.Core.List.{List, [], ◌∷◌}
use mathlib.Core.Bool.{Bool, true, false, true≢false}
use mathlib.Core.Option.{some}
use Prim.Native.Nat.{ℕ, zero, suc, ◌+◌}
use native.Mathlib.Omega.{arith}
use borrow.Author.Tests.{eqb-true, eqb-false}
use lib.ListN.{get_elem?, take}
use lib.Seq.{take-length}
use lib.Dec.{eqb}
use Rattle.line_receiver.specs.Frames.{Frame, frame_in}
use Rattle.module_rules.specs.Rules.{execute}
use Rattle.module_rules.proofs.Settled.{settles}
use Rattle.types_rules.specs.Table.{ModuleType, Of, SampleOf, rules_of}
use Rattle.types_rules.specs.Types.{slots}
use Rattle.types_rules.proofs.Promised.{every_type}
use Rattle.net_rules.specs.Record.{net_in}
use Rattle.api_rules.specs.Promises.{ValidRecord}
use Rattle.demands_history_rules.specs.Calls.{Call, tick, AllHanded, leaves, left_by}
use Rattle.demands_rules.specs.Place.{AtOf, after, Stands, in_time, ticks_of, ticks_in, UndisturbedBy}
use Rattle.demands_rules.proofs.Making.{Made, same, framed, timed}
use Rattle.demands_rules.proofs.Placing.{Only, calm, Carries, carried_on}
use Rattle.demands_rules.proofs.TimeSteps.{stepped, Steps, time-steps}

-- ---- so many steps

module _ {P : Type 0} (step : P → P) where
  step-last : (n : ℕ) (p : P) → step (stepped step n p) ≡ stepped step (suc n) p
  unfolding stepped
  step-last zero p = refl
  step-last (suc n) p = step-last n (step p)

  step_sum : (j n : ℕ) (p : P) → stepped step j (stepped step n p) ≡ stepped step (j + n) p
  unfolding stepped
  step_sum zero n p = ap (λ (k : ℕ). stepped step k p) (let e : n ≡ 0 + n = omega arith in e)
  step_sum (suc j) n p =
      ap (stepped step j) (step-last n p)
      ∙ step_sum j (suc n) p
      ∙ ap (λ (k : ℕ). stepped step k p) (let e : j + suc n ≡ suc j + n = omega arith in e)

ticks_at : (cs : List Call) (net : List ℕ) (n : ℕ) (c : Call) → get_elem? cs n ≡ some c
    → ticks_in net (take (suc n) cs) ≡ ticks_of (left_by (take n cs) net) c + ticks_in net (take n cs)
ticks_at [] net n c e = let z : ◌≡◌ {A = Bool} true false = cc in absurd (true≢false z)
ticks_at (d ∷ cs) net zero c e = let z : d ≡ c = cc in ap (λ (c : Call). ticks_of net c + 0) z
ticks_at (d ∷ cs) net (suc n) c e = let i = ticks_at cs (leaves net d) n c e in omega arith

-- ---- a type's laws

-- of a type: what runs, its step, what disturbs it, with which samples it makes its step, and when it runs at all
module _ (t : ModuleType) {P : Type 0} (part : Of t → P) (step : P → P) (Disturbs : Frame → Type 0) (Good : SampleOf t → Of t → Type 0)
    (Runs : P → Type 0) where
  module _ (law : Steps t part step Disturbs Good Runs) where
    -- a frame that is not executed leaves all but the cause; one that is, and disturbs nothing, leaves what runs
    frame_keeps : (f : Frame) (alone : Bool) (m : Of t)
        → (f.damaged ≡ false → ((rules_of t).station (execute (rules_of t) f alone m)).cause ≡ 0 → Disturbs f → ⊥)
        → part (execute (rules_of t) f alone m) ≡ part m
    frame_keeps f alone m calm = at f.damaged refl (eqb cause 0) refl
      where
        cause : ℕ
        cause = ((rules_of t).station (execute (rules_of t) f alone m)).cause

        at : (d : Bool) → f.damaged ≡ d → (b : Bool) → eqb cause 0 ≡ b → part (execute (rules_of t) f alone m) ≡ part m
        at true d b e = ap part (((every_type t).cause f alone m).damaged d) ∙ law.caused 1 m
        at false d true e = ap part (settles (rules_of t) f alone m d refl) ∙ law.asked f alone m (calm d (eqb-true cause 0 e))
        at false d false e = ap part (((every_type t).cause f alone m).kept (eqb-false cause 0 e)) ∙ law.caused cause m

    -- k has made n steps more than m
    abbrev Later : ℕ → Of t → Of t → Type 0
    Later n m k = part k ≡ stepped step n (part m)

    runs_on : (n : ℕ) (p : P) → Runs p → Runs (stepped step n p)
    unfolding stepped
    runs_on zero p r = r
    runs_on (suc n) p r = runs_on n (step p) (law.runs p r)

    -- ---- through calls

    module _ (net : List ℕ) (cs : List Call) (i : ℕ) (s : Of t) (v : ValidRecord net) (h : AllHanded cs) (at : AtOf t net i s) (r : Runs (part s))
        (u : UndisturbedBy t Disturbs Good net cs i) where
      by-time : (n : ℕ) (c : Call) (m : Of t) → get_elem? cs n ≡ some c → Stands t net cs i n m → Runs (part m)
          → Later (ticks_of (after net cs i n) c) m (in_time t (after net cs i n) i c m)
      by-time n c m g st e =
          time-steps t part step Disturbs Good Runs law (after net cs i n) i c m e
          (λ samples z p. u.ticks n _ m (record { samples = samples; call = g ∙ ap some z; done = p; own = refl }) st)

      -- a call leaves what time makes of the module, or a frame that does not disturb it
      call-steps : (n : ℕ) (c : Call) (m k : Of t) → get_elem? cs n ≡ some c → Stands t net cs i n m → Runs (part m)
          → Only t net cs i (suc n) k → Made t (after net cs i n) i m c k → Later (ticks_of (after net cs i n) c) m k
      unfolding stepped
      call-steps n _ _ k g st e o (framed mark x room d goes a b) =
          frame_keeps (frame_in (net_in slots (after net cs i n)).receiver d) _ _ (calm t net cs i n mark x room Disturbs d k g goes b a o (u.frames n))
      call-steps n _ m _ g st e o (same c y q) = subst (Later (ticks_of (after net cs i n) c) m) q (by-time n c m g st e)
      call-steps n _ m _ g st e o (timed samples p q) = subst (Later (ticks_of (after net cs i n) (tick samples)) m) q (by-time n (tick samples) m g st e)

      goes : Carries t net cs i (λ n k. Later (ticks_in net (take n cs)) s k)
      goes n c m k g w st b st' o p =
          let j : ℕ = ticks_of (after net cs i n) c in
          call-steps n c m k g st (subst Runs (sym p) (runs_on _ (part s) r)) o b
          ∙ ap (stepped step j) p
          ∙ step_sum step j _ _
          ∙ ap (λ (j : ℕ). stepped step j (part s)) (sym (ticks_at cs net n c g))

      -- after all of them
      pub went : (k : Of t) → AtOf t (left_by cs net) i k → part k ≡ stepped step (ticks_in net cs) (part s)
      unfolding stepped
      went k e =
          subst (λ (ds : List Call). Later (ticks_in net ds) s k) (take-length cs)
          (carried_on t net cs i (λ n k. Later (ticks_in net (take n cs)) s k) v h goes s at refl k e)
