-- Characters taken one after another by any step: one more of them, and pieces of them. Assumes nothing.
use mathlib.Core.Path.{◌≡◌, refl, sym, ap, ◌∙◌}
use mathlib.Core.List.{List, [], ◌∷◌, ◌++◌, append-nil, append_assoc}
use mathlib.Core.Bool.{Bool, true, false, cond}
use Prim.Native.Nat.{ℕ, zero, suc, ◌+◌, ◌<◌, ◌≤◌}
use native.Mathlib.Nat.{zero-add}
use native.Mathlib.Numerals.{add-one}
use native.Mathlib.Omega.{arith}
use borrow.Author.Tests.{eqb-true, eqb-false, ltb-true, ltb-false}
use lib.ListN.{length, get_or, take, drop, take-append-drop, drop_of_length-le}
use lib.Seq.{drop-cons}
use lib.Dec.{eqb, ltb}
use Rattle.line_receiver.specs.Frames.{Byte}
use Rattle.text_rules.specs.Fold.{Brought, more, gives, cannot, Reading, onward, onward_with, still, goes_on, folded, joined, in_pieces, together}

pub below : (a b : ℕ) → a ≤ b → (a ≡ b → ⊥) → a < b
below a b h n = go (ltb a b) refl
  where
    go : (t : Bool) → ltb a b ≡ t → a < b
    go true e = ltb-true a b e
    go false e = let g = ltb-false a b e in absurd (n (omega arith))

module _ {S : Type 0} (f : S → ℕ → Brought S) where
  -- one more character, by what it brings
  pub fold_by : (s : S) (c : ℕ) (cs : List ℕ) {b : Brought S} → f s c ≡ b → folded f s (c ∷ cs) ≡ goes_on s (λ (n : S). folded f n cs) b
  unfolding folded
  fold_by s c cs e = ap (goes_on s (λ (n : S). folded f n cs)) e

  -- no more characters are taken than there are, and each gives one byte at most
  pub fold-within : (s : S) (t : List ℕ) → (folded f s t).count ≤ length t
  unfolding folded
  fold-within s [] = omega arith
  fold-within s (c ∷ cs) = go (λ n. fold-within n cs) (f s c)
    where
      go : ((n : S) → (folded f n cs).count ≤ length cs) → (b : Brought S) → (goes_on s (λ (n : S). folded f n cs) b).count ≤ suc (length cs)
      go h (more n) = omega (arith, h n)
      go h (gives b n) = omega (arith, h n)
      go h cannot = omega arith

  pub fold_few : (s : S) (t : List ℕ) → length (folded f s t).bytes ≤ (folded f s t).count
  unfolding folded
  fold_few s [] = omega arith
  fold_few s (c ∷ cs) = go (λ n. fold_few n cs) (f s c)
    where
      go : ((n : S) → length (folded f n cs).bytes ≤ (folded f n cs).count)
          → (b : Brought S)
          → length (goes_on s (λ (n : S). folded f n cs) b).bytes ≤ (goes_on s (λ (n : S). folded f n cs) b).count
      go h (more n) = omega (arith, h n)
      go h (gives b n) = omega (arith, h n)
      go h cannot = omega arith

  -- a piece that is taken whole, and what follows it
  pub fold-append : (s : S) (t u : List ℕ) → (folded f s t).count ≡ length t → folded f s (t ++ u) ≡ joined (folded f s t) (folded f (folded f s t).stage u)
  unfolding folded
  fold-append s [] u e = ap (λ (k : ℕ). record { stage = (folded f s u).stage; bytes = (folded f s u).bytes; count = k }) (sym (zero-add (folded f s u).count))
  fold-append s (c ∷ cs) u e = go (λ n h. fold-append n cs u h) (f s c) e
    where
      go : ((n : S) → (folded f n cs).count ≡ length cs → folded f n (cs ++ u) ≡ joined (folded f n cs) (folded f (folded f n cs).stage u))
          → (b : Brought S)
          → (goes_on s (λ (n : S). folded f n cs) b).count ≡ suc (length cs)
          → goes_on s (λ (n : S). folded f n (cs ++ u)) b
          ≡ joined (goes_on s (λ (n : S). folded f n cs) b) (folded f (goes_on s (λ (n : S). folded f n cs) b).stage u)
      go h (more n) e = ap onward (h n (omega arith)) ∙ more-joined (folded f n cs) (folded f (folded f n cs).stage u)
        where
          more-joined : (r q : Reading S) → onward (joined r q) ≡ joined (onward r) q
          more-joined r q = ap (λ (k : ℕ). record { stage = q.stage; bytes = r.bytes ++ q.bytes; count = k }) (omega arith)
      go h (gives b n) e = ap (onward_with b) (h n (omega arith)) ∙ gives-joined (folded f n cs) (folded f (folded f n cs).stage u)
        where
          gives-joined : (r q : Reading S) → onward_with b (joined r q) ≡ joined (onward_with b r) q
          gives-joined r q = ap (λ (k : ℕ). record { stage = q.stage; bytes = b ∷ (r.bytes ++ q.bytes); count = k }) (omega arith)
      go h cannot e = absurd (omega arith)

  -- a piece with a character that can't stand there: what follows is not looked at, from just behind that character on
  pub fold_stops : (s : S) (t u : List ℕ) → (folded f s t).count < length t → folded f s (take (suc (folded f s t).count) t ++ u) ≡ folded f s t
  unfolding folded
  fold_stops s [] u h = absurd (omega arith)
  fold_stops s (c ∷ cs) u h = go (λ n k. fold_stops n cs u k) (f s c) refl h
    where
      go : ((n : S) → (folded f n cs).count < length cs → folded f n (take (suc (folded f n cs).count) cs ++ u) ≡ folded f n cs)
          → (b : Brought S)
          → f s c ≡ b
          → (goes_on s (λ (n : S). folded f n cs) b).count < suc (length cs)
          → folded f s (take (suc (goes_on s (λ (n : S). folded f n cs) b).count) (c ∷ cs) ++ u) ≡ goes_on s (λ (n : S). folded f n cs) b
      go k (more n) e h = fold_by s c (take (suc (folded f n cs).count) cs ++ u) e ∙ ap onward (k n (omega arith))
      go k (gives b n) e h = fold_by s c (take (suc (folded f n cs).count) cs ++ u) e ∙ ap (onward_with b) (k n (omega arith))
      go k cannot e h = fold_by s c u e

  -- so what follows the piece is not looked at either
  pub fold_short : (s : S) (t u : List ℕ) → (folded f s t).count < length t → folded f s (t ++ u) ≡ folded f s t
  fold_short s t u h =
      let k : ℕ = suc (folded f s t).count in
      ap (λ (l : List ℕ). folded f s l) (ap (λ (l : List ℕ). l ++ u) (sym (take-append-drop k t)) ∙ append_assoc (take k t) (drop k t) u)
      ∙ fold_stops s t (drop k t ++ u) h

  pub pieces_is : (s : S) (ps : List (List ℕ)) → in_pieces f s ps ≡ folded f s (together ps)
  unfolding in_pieces folded
  pieces_is s [] = refl
  pieces_is s (p ∷ ps) = go (λ n. pieces_is n ps) (eqb (folded f s p).count (length p)) refl
    where
      go : ((n : S) → in_pieces f n ps ≡ folded f n (together ps))
          → (t : Bool)
          → eqb (folded f s p).count (length p) ≡ t
          → cond t (joined (folded f s p) (in_pieces f (folded f s p).stage ps)) (folded f s p) ≡ folded f s (p ++ together ps)
      go h true e =
          ap (joined (folded f s p)) (h (folded f s p).stage) ∙ sym (fold-append s p (together ps) (eqb-true _ _ e))
      go h false e = sym (fold_short s p (together ps) (below (folded f s p).count (length p) (fold-within s p) (eqb-false _ _ e)))

  -- fewer characters than can be taken are all taken
  pub fold-take : (j : ℕ) (s : S) (t : List ℕ) → j ≤ (folded f s t).count → (folded f s (take j t)).count ≡ j
  unfolding folded
  fold-take zero s t h = refl
  fold-take (suc j) s [] h = absurd (omega arith)
  fold-take (suc j) s (c ∷ cs) h = go (λ n k. fold-take j n cs k) (f s c) h
    where
      go : ((n : S) → j ≤ (folded f n cs).count → (folded f n (take j cs)).count ≡ j)
          → (b : Brought S)
          → suc j ≤ (goes_on s (λ (n : S). folded f n cs) b).count
          → (goes_on s (λ (n : S). folded f n (take j cs)) b).count ≡ suc j
      go k (more n) h = ap suc (k n (omega arith))
      go k (gives b n) h = ap suc (k n (omega arith))
      go k cannot h = absurd (omega arith)

  -- A loop over a text, at character i with k bytes given so far: what the rest comes to gives the whole.
  pub record Midway (whole : Reading S) (s : S) (t : List ℕ) (i k : ℕ) : Type 0 where
    pub stage : (folded f s (drop i t)).stage ≡ whole.stage
    pub count : i + (folded f s (drop i t)).count ≡ whole.count
    pub bytes : k + length (folded f s (drop i t)).bytes ≡ length whole.bytes

  pub midway_start : (s : S) (t : List ℕ) → Midway (folded f s t) s t 0 0
  midway_start s t = record { stage = refl; count = zero-add (folded f s t).count; bytes = zero-add (length (folded f s t).bytes) }

  -- what the character at a place brings
  pub turn_by : (s : S) (t : List ℕ) (i : ℕ) {b : Brought S} → i < length t → f s (get_or t i 0) ≡ b
      → folded f s (drop i t) ≡ goes_on s (λ (n : S). folded f n (drop (i + 1) t)) b
  turn_by s t i {b} h e =
      ap (folded f s) (drop-cons t i 0 h) ∙ fold_by s (get_or t i 0) (drop (suc i) t) e
      ∙ ap (λ (j : ℕ). goes_on s (λ (n : S). folded f n (drop j t)) b) (sym (add-one i))

  pub turn_more : (whole : Reading S) (s n : S) (t : List ℕ) (i k : ℕ) → i < length t → f s (get_or t i 0) ≡ more n → Midway whole s t i k
      → Midway whole n t (i + 1) k
  turn_more whole s n t i k h e m =
      let r = folded f n (drop (i + 1) t) in
      let x : folded f s (drop i t) ≡ onward r = turn_by s t i h e in
      record {
        stage = ap (λ (q : Reading S). q.stage) (sym x) ∙ m.stage;
        count = omega (arith, ap (λ (q : Reading S). q.count) x, m.count);
        bytes = ap (λ (q : Reading S). k + length q.bytes) (sym x) ∙ m.bytes;
      }

  pub turn_gives : (whole : Reading S) (s n : S) (b : Byte) (t : List ℕ) (i k : ℕ) → i < length t → f s (get_or t i 0) ≡ gives b n → Midway whole s t i k
      → Midway whole n t (i + 1) (k + 1)
  turn_gives whole s n b t i k h e m =
      let r = folded f n (drop (i + 1) t) in
      let x : folded f s (drop i t) ≡ onward_with b r = turn_by s t i h e in
      record {
        stage = ap (λ (q : Reading S). q.stage) (sym x) ∙ m.stage;
        count = omega (arith, ap (λ (q : Reading S). q.count) x, m.count);
        bytes = omega (arith, ap (λ (q : Reading S). length q.bytes) x, m.bytes);
      }

  -- where the loop stops, at a character that can't stand there or at the end, nothing is left
  pub still_cannot : (s : S) (t : List ℕ) (i : ℕ) → i < length t → f s (get_or t i 0) ≡ cannot → folded f s (drop i t) ≡ still s
  still_cannot s t i h e = turn_by s t i h e

  pub still_end : (s : S) (t : List ℕ) (i : ℕ) → length t ≤ i → folded f s (drop i t) ≡ still s
  unfolding folded
  still_end s t i h = ap (folded f s) (drop_of_length-le t {i = i} h)

  -- so there it has the whole
  pub record Stopped (whole : Reading S) (s : S) (i k : ℕ) : Type 0 where
    pub stage : s ≡ whole.stage
    pub count : i ≡ whole.count
    pub bytes : k ≡ length whole.bytes

  pub stop-still : (whole : Reading S) (s : S) (t : List ℕ) (i k : ℕ) → folded f s (drop i t) ≡ still s → Midway whole s t i k → Stopped whole s i k
  stop-still whole s t i k x m = record {
    stage = ap (λ (q : Reading S). q.stage) (sym x) ∙ m.stage;
    count = omega (arith, ap (λ (q : Reading S). q.count) x, m.count);
    bytes = omega (arith, ap (λ (q : Reading S). length q.bytes) x, m.bytes);
  }
