-- Nothing but the number of a cause differs from document 01's numbering. Assumes nothing.
use mathlib.Core.Path.{◌≡◌, refl, sym, ap, ◌∙◌}
use mathlib.Core.Bool.{Bool, true, false, cond}
use Prim.Native.Nat.{ℕ}
use Rattle.line_receiver.specs.Frames.{Frame}
use Rattle.module_rules.specs.declared.Station.{Station}
use Rattle.module_rules.specs.declared.Setting.{Setting}
use Rattle.module_rules.specs.declared.Setting.TheVariants.{Assign, Define, Rate, Nothing}
use Rattle.module_rules.specs.declared.Fault.{Fault}
use Rattle.module_rules.specs.declared.Fault.TheVariants.{Unknown, Count, Value}
use Rattle.module_rules.specs.Commands.{applied, caused}
use Rattle.module_rules.specs.Report.{reply_of}
use Rattle.module_rules.specs.Rules.{Request, malformed, set, reset, wants, fault_cause, Rules, with_cause, request, settled, execute, reply}
use Rattle.module_rules.specs.Promises.{Apart, Unseen}
use Rattle.module_rules.specs.Numbering.{older_number, as_older, older_settled, Renumbered}
use Rattle.module_rules.proofs.OlderNumbers.{zero_alike}

fault_older : (x : Fault) → older_number (fault_cause x) ≡ 2
fault_older Unknown = refl
fault_older Count = refl
fault_older Value = refl

-- a setting does not look at the cause
applied_blind : (z : Setting) (c : ℕ) (s : Station) → caused 0 (applied z (caused c s)) ≡ caused 0 (applied z s)
applied_blind (Assign a b) c s = refl
applied_blind (Define items) c s = refl
applied_blind (Rate baud) c s = refl
applied_blind Nothing c s = refl

module _ {M S C : Type 0} (T : Rules M S C) (a : Apart T) (u : Unseen T) where
  -- of two causes, one put after the other, the second stays
  twice : (c d : ℕ) (m : M) → with_cause T c (with_cause T d m) ≡ with_cause T c m
  twice c d m =
      ap (λ (s : Station). T.with_station (caused c s) (with_cause T d m)) (a.put (caused d (T.station m)) m)
      ∙ a.again (caused c (T.station m)) (caused d (T.station m)) m

  -- with another number a module that has the cause c has document 01's number for c
  older_is : (c : ℕ) (m : M) → as_older T (with_cause T c m) ≡ with_cause T (older_number c) m
  older_is c m =
      ap (λ (s : Station). with_cause T (older_number s.cause) (with_cause T c m)) (a.put (caused c (T.station m)) m)
      ∙ twice (older_number c) c m

  -- a cause that means the same in both, put after what does not look at it
  alike : (c d : ℕ) (m : M) → older_number c ≡ d → with_cause T d (as_older T m) ≡ as_older T (with_cause T c m)
  alike c d m e =
      twice d (older_number (T.station m).cause) m ∙ sym (ap (λ (d : ℕ). with_cause T d m) e) ∙ sym (older_is c m)

  set_alike : (z : Setting) (m : M) → settled T (set z) (as_older T m) ≡ as_older T (settled T (set z) m)
  set_alike z m =
      let s : Station = T.station m in
      let k : ℕ = older_number s.cause in
      let once : (n : M) (x : Station) → with_cause T 0 (T.with_station x n) ≡ T.with_station (caused 0 x) n = λ n x.
      ap (λ (y : Station). T.with_station (caused 0 y) (T.with_station x n)) (a.put x n) ∙ a.again (caused 0 x) x n in
      once (as_older T m) (applied z (T.station (as_older T m)))
      ∙ ap (λ (y : Station). T.with_station (caused 0 (applied z y)) (as_older T m)) (a.put (caused k s) m)
      ∙ ap (λ (y : Station). T.with_station y (as_older T m)) (applied_blind z k s)
      ∙ a.again (caused 0 (applied z s)) (caused k s) m
      ∙ sym (once m (applied z s))
      ∙ sym (older_is 0 (T.with_station (applied z s) m))

  wants_alike : (c : C) (m : M) → settled T (wants c) (as_older T m) ≡ as_older T (settled T (wants c) m)
  wants_alike c m =
      ap (λ (t : Bool). cond t (with_cause T 0 (T.perform c (as_older T m))) (with_cause T 3 (as_older T m))) (u.can c _ m)
      ∙ by (T.can c m)
    where
      done : with_cause T 0 (T.perform c (as_older T m)) ≡ as_older T (with_cause T 0 (T.perform c m))
      done =
          let s : Station = caused (older_number (T.station m).cause) (T.station m) in
          ap (with_cause T 0) (u.perform c s m)
          ∙ ap (λ (y : Station). T.with_station (caused 0 y) (T.with_station s (T.perform c m))) (a.put s (T.perform c m))
          ∙ a.again (caused 0 s) s (T.perform c m)
          ∙ ap (λ (y : Station). T.with_station (caused 0 y) (T.perform c m)) (sym (a.perform c m))
          ∙ sym (older_is 0 (T.perform c m))

      by : (t : Bool)
          → cond t (with_cause T 0 (T.perform c (as_older T m))) (with_cause T 3 (as_older T m))
          ≡ as_older T (cond t (with_cause T 0 (T.perform c m)) (with_cause T 3 m))
      by true = done
      by false = alike 3 3 m refl

  settled_alike : (q : Request C) (m : M) → older_settled T q (as_older T m) ≡ as_older T (settled T q m)
  settled_alike (malformed x) m = alike (fault_cause x) 2 m (fault_older x)
  settled_alike (set z) m = set_alike z m
  settled_alike reset m = ap (with_cause T 0) (u.renewed _ m) ∙ sym (older_is 0 (T.renewed m))
  settled_alike (wants c) m = wants_alike c m

  frame_alike : (d : Bool) (q : Request C) (m : M)
      → cond d (with_cause T 1 (as_older T m)) (older_settled T q (as_older T m)) ≡ as_older T (cond d (with_cause T 1 m) (settled T q m))
  frame_alike true q m = alike 1 1 m refl
  frame_alike false q m = settled_alike q m

  reply_alike : (f : Frame) (m : M) → reply T f (as_older T m) ≡ reply T f m
  unfolding reply reply_of
  reply_alike f m =
      let s : Station = T.station m in
      let k : ℕ = older_number s.cause in
      let z = zero_alike s.cause in
      rw (a.put (caused k s) m, u.status (caused k s) m z, u.numbers (caused k s) m, z) refl

  pub renumbered : Renumbered T
  unfolding execute
  renumbered = record {
    along = record {
      line = record {
        address = λ m. ap (λ (s : Station). s.address) (a.put _ m);
        execute = λ f alone m. frame_alike f.damaged (request T f alone) m;
        reply = reply_alike;
      };
      tick = λ x m.
          u.tick x _ m
          ∙ ap (λ (s : Station). T.with_station (caused (older_number s.cause) s) (T.tick x m)) (sym (a.tick x m));
    };
    outputs = λ m. u.outputs _ m;
  }
