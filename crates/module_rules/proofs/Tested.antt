-- What a frame's cause is, by the tests in their order. Assumes nothing.
use mathlib.Core.Path.{◌≡◌, refl, sym, ◌∙◌}
use mathlib.Core.List.{List}
use mathlib.Core.Bool.{Bool, true, false, cond, not}
use Prim.Native.Nat.{ℕ}
use native.Mathlib.Omega.{arith}
use lib.ListN.{length}
use lib.Dec.{eqb}
use Rattle.base_layout.specs.First.{Line, first, Numbered}
use Rattle.base_layout.proofs.First.{exactly}
use Rattle.module_rules.specs.declared.Asked.{Asked}
use Rattle.module_rules.specs.declared.Asked.TheVariants as Both
use Rattle.module_rules.specs.declared.Fault.TheVariants.{Count, Value}
use Rattle.module_rules.specs.Commands.{asked}
use Rattle.module_rules.specs.Rules.{Request, malformed, set, reset, wants, Meaning, unknown, takes, judged, Rules, owned, joined, with_cause, meaning, request, settled, execute}
use Rattle.module_rules.specs.Promises.{Apart, is_unknown, is_miscounted, is_out_of_range, is_not_now, cause_table, CauseTested}
use Rattle.module_rules.proofs.Settled.{after, causes}

-- no meaning has a fault in it
abbrev Sound : {C : Type 0} → Request C → Type 0
Sound (malformed x) = ⊥
Sound (set s) = Unit {0}
Sound reset = Unit {0}
Sound (wants c) = Unit {0}

module _ {C : Type 0} where
  abbrev AllSound : Meaning (Request C) → Type 0
  AllSound unknown = Unit {0}
  AllSound (takes n good q) = Sound q

  owned-sound : (u : Meaning C) → AllSound (owned u)
  owned-sound unknown = tt
  owned-sound (takes n good c) = tt

  joined-sound : (shows : ℕ → Bool) (a : Asked) (u : Meaning C) → AllSound (joined shows a u)
  joined-sound shows Both.Other u = owned-sound u
  joined-sound shows Both.Unknown u = tt
  joined-sound shows (Both.Wants n s) u = tt
  joined-sound shows (Both.Chooses b s) u = tt
  joined-sound shows (Both.Reset n) u = tt

module _ {M S C : Type 0} (T : Rules M S C) (a : Apart T) where
  -- what the tests of a meaning give
  abbrev found : List ℕ → Meaning (Request C) → M → ℕ
  found ds u m =
      cond (is_unknown T u) 4 (cond (is_miscounted T ds u) 2 (cond (is_out_of_range T u) 5 (cond (is_not_now T m u) 3 0)))

  can-found : (c : C) (m : M) (t : Bool)
      → (T.station (cond t (with_cause T 0 (T.perform c m)) (with_cause T 3 m))).cause ≡ cond (not t) 3 0
  can-found c m true = causes T a 0 _
  can-found c m false = causes T a 3 m

  good-found : (n : ℕ) (q : Request C) (m : M) → Sound q → (T.station (settled T q m)).cause ≡ cond (is_not_now T m (takes n true q)) 3 0
  good-found n (malformed x) m o = absurd o
  good-found n (set s) m o = causes T a 0 _
  good-found n reset m o = causes T a 0 _
  good-found n (wants c) m o = can-found c m (T.can c m)

  counted-found : (n : ℕ) (t good : Bool) (q : Request C) (m : M) → Sound q
      → (T.station (settled T (cond t (cond good q (malformed Value)) (malformed Count)) m)).cause
      ≡ cond (not t) 2 (cond (not good) 5 (cond (is_not_now T m (takes n good q)) 3 0))
  counted-found n false good q m o = causes T a 2 m
  counted-found n true false q m o = causes T a 5 m
  counted-found n true true q m o = good-found n q m o

  judged-found : (ds : List ℕ) (u : Meaning (Request C)) (m : M) → AllSound u → (T.station (settled T (judged ds u) m)).cause ≡ found ds u m
  judged-found ds unknown m o = causes T a 4 m
  judged-found ds (takes n good q) m o = counted-found n (eqb (length ds) n) good q m o

  all_found : (d : Bool) (ds : List ℕ) (u : Meaning (Request C)) (m : M) → AllSound u
      → (T.station (after T d (judged ds u) m)).cause ≡ cond d 1 (found ds u m)
  all_found true ds u m o = causes T a 1 m
  all_found false ds u m o = judged-found ds u m o

  pub cause-tested : CauseTested T
  unfolding execute request
  cause-tested f alone m =
      let table : List Line = cause_table T f alone m in
      let own = T.own f.code f.content in
      let is : (T.station (execute T f alone m)).cause ≡ first table =
      all_found f.damaged f.content (meaning T f alone) m (joined-sound T.shows (asked f.code alone f.content) own) in
      let numbered : Numbered table = (omega arith, (omega arith, (omega arith, (omega arith, (omega arith, tt))))) in
      let x = exactly table numbered in
      record {
        order = (refl, numbered);
        first = is;
        each = λ n z. (λ e. (x.0 n z).0 (sym is ∙ e), λ g. is ∙ (x.0 n z).1 g);
        none = (λ e. x.1.0 (sym is ∙ e), λ g. is ∙ x.1.1 g);
      }
