-- What was so since a call, carried over one call more, at a module of any type. Assumes nothing.
use mathlib.Core.Path.{◌≡◌, refl, sym, subst}
use mathlib.Core.Logic.{◌⊎◌, inl, inr}
use mathlib.Core.List.{List}
use mathlib.Core.Bool.{Bool, true, false}
use Prim.Native.Nat.{ℕ, suc, ◌≤◌}
use native.Mathlib.Omega.{arith}
use borrow.Author.Tests.{eqb-true, eqb-false}
use lib.Dec.{eqb}
use Rattle.line_receiver.specs.Frames.{Frame}
use Rattle.types_rules.specs.Table.{ModuleType, Of}
use Rattle.demands_history_rules.specs.Calls.{Call}
use Rattle.demands_rules.specs.Place.{Stands, Executed, None, Since}
use Rattle.demands_rules.specs.Loaded.{Loaded, Began}
use Rattle.demands_rules.proofs.Placing.{Only}

-- one more is the same or less, or it
pub up_to : (j n : ℕ) → j ≤ suc n → (j ≤ n) ⊎ (j ≡ suc n)
up_to j n h = at (eqb j (suc n)) refl
  where
    at : (t : Bool) → eqb j (suc n) ≡ t → (j ≤ n) ⊎ (j ≡ suc n)
    at true e = inr (eqb-true j (suc n) e)
    at false e = let k = eqb-false j (suc n) e in inl (omega arith)

module _ (t : ModuleType) (net : List ℕ) (cs : List Call) (i : ℕ) where
  pub none_on : (P : Frame → Type 0) (a n : ℕ) → None t net cs i P a n → ((f : Frame) → Executed t net cs i n f → P f → ⊥) → None t net cs i P a (suc n)
  none_on P a n h g j f l q e z = at (up_to (suc j) n q)
    where
      at : (suc j ≤ n) ⊎ (suc j ≡ suc n) → ⊥
      at (inl q) = h j f l q e z
      at (inr q) = let k : j ≡ n = omega arith in g f (subst (λ (j : ℕ). Executed t net cs i j f) k e) z

  pub none_yet : (P : Frame → Type 0) (n : ℕ) → None t net cs i P n (suc n)
  none_yet P n j f l q e z = absurd (omega arith)

  pub since_on : (P : Of t → Type 0) (a n : ℕ) (k : Of t) → Since t net cs i a n P → Only t net cs i (suc n) k → P k → Since t net cs i a (suc n) P
  since_on P a n k h o p j m l q e = at (up_to j n q)
    where
      at : (j ≤ n) ⊎ (j ≡ suc n) → P m
      at (inl q) = h j m l q e
      at (inr q) = subst P (sym (o m (subst (λ (j : ℕ). Stands t net cs i j m) q e))) p

  pub since_first : (P : Of t → Type 0) (n : ℕ) (k : Of t) → Only t net cs i (suc n) k → P k → Since t net cs i n (suc n) P
  since_first P n k o p j m l q e =
      let z : j ≡ suc n = omega arith in
      subst P (sym (o m (subst (λ (j : ℕ). Stands t net cs i j m) z e))) p

pub loaded_on : (t : ModuleType) (needed : ℕ → ℕ) (net : List ℕ) (cs : List Call) (i : ℕ) (P : Frame → Type 0) (f : Frame) (n : ℕ)
    → Loaded t needed net cs i P f n → ((g : Frame) → Executed t net cs i n g → P g → ⊥) → Loaded t needed net cs i P f (suc n)
loaded_on t needed net cs i P f n l h = record {
  by = l.by;
  earlier = omega (arith, l.earlier);
  executed = l.executed;
  load = l.load;
  last = none_on t net cs i P l.by n l.last h;
}

module _ (t : ModuleType) (needed : ℕ → ℕ) (Drops : Frame → Type 0) (net : List ℕ) (cs : List Call) (i : ℕ) where
  -- one call more since a start: other bits and another meaning may be told of it
  pub began_on : {Bits Others : Frame → Type 0} {Is Also : Of t → Frame → Of t → Type 0} (s n : ℕ) (k : Of t)
      → Began t needed Drops net cs i s n Bits Is → Only t net cs i (suc n) k
      → ((f : Frame) → Bits f → Others f)
      → ((before m : Of t) (f : Frame) → Is before f m → Also before f m)
      → ((before : Of t) (f : Frame) → Since t net cs i s n (Is before f) → Also before f k)
      → Began t needed Drops net cs i s (suc n) Others Also
  began_on {Bits} {Others} {Is} {Also} s n k b o w v g = record {
    load = b.load;
    started = b.started;
    bits = w b.load b.bits;
    before = b.before;
    stood = b.stood;
    earlier = omega (arith, b.earlier);
    since = since_on t net cs i (Also b.before b.load) s n k (λ j m l q e. v b.before m b.load (b.since j m l q e)) o (g b.before b.load b.since);
  }
