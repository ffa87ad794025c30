-- The mill's question at one module of any type with loads. Assumes nothing.
use mathlib.Core.Path.{◌≡◌, refl, sym, ap, ◌∙◌}
use mathlib.Core.Bool.{Bool, true, false, cond, true≢false}
use Prim.Native.Nat.{ℕ}
use Rattle.line_receiver.specs.Frames.{Frame}
use Rattle.module_rules.specs.declared.Fault.TheVariants.{Count}
use Rattle.module_rules.specs.declared.Station.{Station}
use Rattle.module_rules.specs.Commands.{caused}
use Rattle.module_rules.specs.Rules.{with_cause, execute}
use Rattle.types_rules.specs.Table.{ModuleType, Of, SampleOf, rules_of}
use Rattle.types_rules.proofs.Owed.{owes}
use Rattle.types_rules.proofs.Promised.{every_type}
use Rattle.demands_rules.specs.Motion.{OnlyTheCause}
use Rattle.demands_rules.specs.Question.{Missed, elsewhere, damaged, short, MissedTells, IsStart, Question, Loading}

pub only_the_cause : OnlyTheCause
only_the_cause t = ((every_type t).cause, (every_type t).tested)

-- ---- modules that are the same but for the cause

module _ (t : ModuleType) where
  -- with the same cause they are the same
  abbrev pub ButCause : Of t → Of t → Type 0
  ButCause m k = (c : ℕ) → with_cause (rules_of t) c k ≡ with_cause (rules_of t) c m

  pub cause_again : (c d : ℕ) (m : Of t) → with_cause (rules_of t) c (with_cause (rules_of t) d m) ≡ with_cause (rules_of t) c m
  cause_again c d m =
      let s : Station = caused d ((rules_of t).station m) in
      ap (λ (x : Station). (rules_of t).with_station (caused c x) ((rules_of t).with_station s m)) ((owes t).apart.put s m) ∙ (owes t).apart.again (caused c s) s m

  -- a tick does the same to both
  pub tick_cause : (x : SampleOf t) (c : ℕ) (m : Of t) → with_cause (rules_of t) c ((rules_of t).tick x m) ≡ (rules_of t).tick x (with_cause (rules_of t) c m)
  tick_cause x c m =
      ap (λ (s : Station). (rules_of t).with_station (caused c s) ((rules_of t).tick x m)) ((owes t).apart.tick x m)
      ∙ sym ((owes t).unseen.tick x (caused c ((rules_of t).station m)) m)

  pub tick_but : (x : SampleOf t) (m k : Of t) → ButCause m k → ButCause ((rules_of t).tick x m) ((rules_of t).tick x k)
  tick_but x m k b c = tick_cause x c k ∙ ap ((rules_of t).tick x) (b c) ∙ sym (tick_cause x c m)

module _ (t : ModuleType) (needed : ℕ → ℕ) (NoneReady NoLoad : Of t → Type 0) (o : Loading t needed NoneReady NoLoad) where
  -- an undamaged Start with no complete load waiting, whatever the cause is
  pub start_refused : (m k : Of t) (f : Frame) (apart : Bool) → ButCause t m k → NoneReady m → IsStart f → execute (rules_of t) f apart k ≡ with_cause (rules_of t) 3 m
  start_refused m k f apart b n s =
      ((every_type t).cause f apart k).not_now o.start s.0 (o.asks f apart s.1 s.2)
      (sym ((owes t).unseen.can o.start _ k) ∙ ap ((rules_of t).can o.start) (b 0) ∙ (owes t).unseen.can o.start _ m ∙ o.unready m n)
      ∙ b 3

  pub missed_tells : MissedTells t needed
  missed_tells load alone m = record {
    damaged = ((every_type t).cause load alone m).damaged;
    short = λ d c n. ((every_type t).cause load alone m).malformed Count d (o.miscounted load alone c n);
  }

  -- a load that was missed leaves all but the cause
  pub missed_but : (load : Frame) (alone : Bool) (m k : Of t) → ButCause t m k → Missed needed true load → ButCause t m (execute (rules_of t) load alone k)
  missed_but load alone m k b (elsewhere e) = absurd (true≢false e)
  missed_but load alone m k b (damaged d) = λ c. ap (with_cause (rules_of t) c) ((missed_tells load alone k).damaged d) ∙ cause_again t c 1 k ∙ b c
  missed_but load alone m k b (short p n) = at load.damaged refl
    where
      at : (d : Bool) → load.damaged ≡ d → ButCause t m (execute (rules_of t) load alone k)
      at true d = λ c. ap (with_cause (rules_of t) c) ((missed_tells load alone k).damaged d) ∙ cause_again t c 1 k ∙ b c
      at false d = λ c. ap (with_cause (rules_of t) c) ((missed_tells load alone k).short d p n) ∙ cause_again t c 2 k ∙ b c

  pub question : Question t needed NoneReady
  question m load start reached alone apart x n s = start_refused m (cond reached (execute (rules_of t) load alone m) m) start apart (at reached x) n s
    where
      at : (reached : Bool) → Missed needed reached load → ButCause t m (cond reached (execute (rules_of t) load alone m) m)
      at true x = missed_but load alone m m (λ c. refl) x
      at false x = λ c. refl
