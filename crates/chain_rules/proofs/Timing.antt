-- A tick with a list of samples, place by place. Assumes nothing.
use mathlib.Core.Path.{◌≡◌, refl, sym, ap}
use mathlib.Core.List.{List, [], ◌∷◌}
use mathlib.Core.Option.{Option, some, none, map}
use Prim.Native.Nat.{ℕ, zero, suc}
use lib.ListN.{length, get_elem?}
use Rattle.module_rules.specs.Kind.{Kind}
use Rattle.chain_rules.specs.Chain.{timed}
use Rattle.chain_rules.specs.Promises.{handed_in, OwnSample}

-- nothing done to what stands at a place, or to nothing
pub map_same : {A : Type 0} (o : Option A) → map (λ (x : A). x) o ≡ o
map_same none = refl
map_same (some x) = refl

module _ {M S : Type 0} (K : Kind M S) where
  timed_at : (xs : List S) (ms : List M) (i : ℕ) → get_elem? (timed K xs ms) i ≡ map (handed_in K (get_elem? xs i)) (get_elem? ms i)
  timed_at xs [] i = refl
  timed_at [] (m ∷ ms) i = sym (map_same (get_elem? (m ∷ ms) i))
  timed_at (x ∷ xs) (m ∷ ms) zero = refl
  timed_at (x ∷ xs) (m ∷ ms) (suc i) = timed_at xs ms i

  pub length-timed : (xs : List S) (ms : List M) → length (timed K xs ms) ≡ length ms
  length-timed xs [] = refl
  length-timed [] (m ∷ ms) = refl
  length-timed (x ∷ xs) (m ∷ ms) = ap suc (length-timed xs ms)

  pub own_sample : OwnSample K
  own_sample xs ms = (timed_at xs ms, length-timed xs ms)
