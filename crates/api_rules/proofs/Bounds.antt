-- Each line of the tables at its bounds. Assumes nothing.
use mathlib.Core.Path.{◌≡◌, refl, ap, ap₂, ◌∙◌}
use mathlib.Core.List.{List, [], ◌∷◌}
use mathlib.Core.Bool.{Bool, true, false, not, ◌&&◌, ◌||◌, or-true, and-false}
use Prim.Native.Nat.{ℕ, zero, suc, ◌<◌, ◌≤◌}
use native.Mathlib.Omega.{arith}
use borrow.Author.Tests.{eq-eqb, ne_eqb, lt-ltb, le-ltb, le-leb, lt-leb}
use lib.ListN.{length, get_or}
use lib.Dec.{eqb, ltb, leb}
use Rattle.types_rules.specs.Types.{slots, known}
use Rattle.types_rules.specs.Promises.{ThereIs}
use Rattle.types_rules.proofs.Promised.{numbers}
use Rattle.net_rules.specs.Record.{valid}
use Rattle.net_rules.specs.Calls.{all_known, all_marks}
use Rattle.base_layout.specs.First.{Line, first, Given, here, later}
use Rattle.api_rules.specs.Table.{setup_table, byte_table, buffer_table, tick_table, place_table}
use Rattle.api_rules.specs.TablePromises.{BadRecord, SetupBounds, ByteBounds, BufferBounds, OtherBounds, chain_length}
use Rattle.base_layout.proofs.First.{given-first, none_first}

-- the number that a table gives
pub gives : {n : ℕ} (ls : List Line) → Given n ls → first ls ≡ n
gives ls g = given-first g

not_long : (net : List ℕ) → (length net ≡ 4116 → ⊥) → valid slots net ≡ false
unfolding valid
not_long net n = rw (ne_eqb (length net) 4116 n)

pub bad_record : BadRecord
bad_record net = record {
  long = not_long net;
  byte = λ mark room v. gives (byte_table net mark room) (here refl (ap not v));
  buffer = λ bytes marks room v. gives (buffer_table net bytes marks room) (here refl (ap not v));
  tick = λ samples v. gives (tick_table net samples) (here refl (ap not v));
  place = λ place v. gives (place_table net place) (here refl (ap not v));
}

-- types of which each is known, and of which one is not
unknown : (n : ℕ) → (ThereIs n → ⊥) → known n ≡ false
unknown n h = go (known n) refl
  where
    go : (t : Bool) → known n ≡ t → t ≡ false
    go true e = absurd (h ((numbers n).0 e))
    go false e = refl

all_known_lem : (ts : List ℕ) → ((i : ℕ) → i < length ts → ThereIs (get_or ts i 0)) → all_known ts ≡ true
all_known_lem [] h = refl
all_known_lem (t ∷ ts) h = ap₂ ◌&&◌ ((numbers t).1 (h 0 (omega arith))) (all_known_lem ts (λ i l. h (suc i) (omega arith)))

one_unknown : (ts : List ℕ) (i : ℕ) → i < length ts → (ThereIs (get_or ts i 0) → ⊥) → all_known ts ≡ false
one_unknown [] i l h = absurd (omega arith)
one_unknown (t ∷ ts) zero l h = ap (λ (b : Bool). b && all_known ts) (unknown t h)
one_unknown (t ∷ ts) (suc i) l h = ap (λ (b : Bool). known t && b) (one_unknown ts i (omega arith) h) ∙ and-false (known t)

pub setup_bounds : SetupBounds
setup_bounds net types = record {
  done = λ e s m h. none_first (setup_table net types) (size e, (counted s m, (ap not (all_known_lem types h), tt)));
  sixteen = λ n. gives (setup_table net types) (here refl (ap not (ne_eqb (length net) 4116 n)));
  none = λ e z. gives (setup_table net types) (later (size e) (here refl (ap (λ (t : Bool). t || ltb 32 (length types)) (eq-eqb (length types) 0 z))));
  many = λ e m.
      gives (setup_table net types) (later (size e) (here refl (ap (λ (t : Bool). eqb (length types) 0 || t) (lt-ltb 32 (length types) m) ∙ or-true (eqb (length types) 0))));
  twelve = λ e s m i l h. gives (setup_table net types) (later (size e) (later (counted s m) (here refl (ap not (one_unknown types i l h)))));
}
  where
    size : length net ≡ 4116 → not (eqb (length net) 4116) ≡ false
    size e = ap not (eq-eqb (length net) 4116 e)

    counted : 1 ≤ length types → length types ≤ 32 → (eqb (length types) 0 || ltb 32 (length types)) ≡ false
    counted s m = ap₂ ◌||◌ (ne_eqb (length types) 0 (λ z. omega arith)) (le-ltb 32 (length types) m)

pub byte_bounds : ByteBounds
byte_bounds net mark room v = record {
  done = λ h l. none_first (byte_table net mark room) (ap not v, (le-ltb 1 mark h, (le-ltb (length room) 608 l, tt)));
  fourteen = λ h. gives (byte_table net mark room) (later (ap not v) (here refl (lt-ltb 1 mark h)));
  fifteen = λ h l. gives (byte_table net mark room) (later (ap not v) (later (le-ltb 1 mark h) (here refl (lt-ltb (length room) 608 l))));
}

-- marks of which each is good, and of which one is not
all_good : (ms : List ℕ) → ((i : ℕ) → i < length ms → get_or ms i 0 ≤ 1) → all_marks ms ≡ true
unfolding all_marks
all_good [] h = refl
all_good (m ∷ ms) h = ap₂ ◌&&◌ (le-leb m 1 (h 0 (omega arith))) (all_good ms (λ i l. h (suc i) (omega arith)))

one_bad : (ms : List ℕ) (i : ℕ) → i < length ms → 2 ≤ get_or ms i 0 → all_marks ms ≡ false
unfolding all_marks
one_bad [] i l h = absurd (omega arith)
one_bad (m ∷ ms) zero l h = ap (λ (b : Bool). b && all_marks ms) (lt-leb m 1 h)
one_bad (m ∷ ms) (suc i) l h = ap (λ (b : Bool). leb m 1 && b) (one_bad ms i (omega arith) h) ∙ and-false (leb m 1)

pub buffer_bounds : BufferBounds
buffer_bounds net bytes marks room v = record {
  done = λ e m g r. none_first ls (ap not v, (lists e m, (ap not (all_good marks g), (le-ltb (length room) 9728 r, tt))));
  differ = λ n. gives ls (later (ap not v) (here refl (ap (λ (b : Bool). not b || ltb 64 (length bytes)) (ne_eqb (length bytes) (length marks) n))));
  many = λ m.
      gives ls
      (later (ap not v)
      (here refl (ap (λ (b : Bool). not (eqb (length bytes) (length marks)) || b) (lt-ltb 64 (length bytes) m) ∙ or-true (not (eqb (length bytes) (length marks))))));
  fourteen = λ e m i l h. gives ls (later (ap not v) (later (lists e m) (here refl (ap not (one_bad marks i l h)))));
  fifteen = λ e m g r. gives ls (later (ap not v) (later (lists e m) (later (ap not (all_good marks g)) (here refl (lt-ltb (length room) 9728 r)))));
}
  where
    ls : List Line
    ls = buffer_table net bytes marks room

    lists : length bytes ≡ length marks → length bytes ≤ 64 → (not (eqb (length bytes) (length marks)) || ltb 64 (length bytes)) ≡ false
    lists e m = ap₂ ◌||◌ (ap not (eq-eqb (length bytes) (length marks) e)) (le-ltb 64 (length bytes) m)

pub other_bounds : OtherBounds
other_bounds net place v = record {
  beyond = λ l. gives (place_table net place) (later (ap not v) (here refl (ap not (le-ltb place (chain_length net) l))));
  below = λ l. none_first (place_table net place) (ap not v, (ap not (lt-ltb place (chain_length net) l), tt));
}
