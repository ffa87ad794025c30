-- A table of tests, each with a number, and the number of the first that applies; and what is promised of it, proved under its name, with
-- small letters, in proofs/.
use Rattle.std.specs.Prelude.{◌≡◌, ◌↔◌, ℕ, ◌<◌, List, [], ◌∷◌, map, Bool, true, false, cond}

-- a line of the table: its number, and whether it applies
pub record Line : Type 0 where
  pub number : ℕ
  pub applies : Bool

-- the number of the first line that applies, 0 where none does
abbrev pub first : List Line → ℕ
first [] = 0
first (l ∷ ls) = cond l.applies l.number (first ls)

-- n is given by a table: a line with the number n applies, and no line before it does
pub data Given (n : ℕ) : List Line → Type 0 where
  here : {l : Line} {ls : List Line} → l.number ≡ n → l.applies ≡ true → Given n (l ∷ ls)
  later : {l : Line} {ls : List Line} → l.applies ≡ false → Given n ls → Given n (l ∷ ls)

-- no line of a table applies
abbrev pub NoneApplies : List Line → Type 0
NoneApplies [] = Unit {0}
NoneApplies (l ∷ ls) = (l.applies ≡ false) × NoneApplies ls

-- no line has the number 0
abbrev pub Numbered : List Line → Type 0
Numbered [] = Unit {0}
Numbered (l ∷ ls) = (0 < l.number) × Numbered ls

-- A number other than 0 is given exactly when a line with it applies and none before it; 0 is given exactly when none applies.
abbrev pub Exactly : Type 0
Exactly =
    (ls : List Line)
    → Numbered ls
    → ((n : ℕ) → (n ≡ 0 → ⊥) → (first ls ≡ n) ↔ Given n ls)
    × ((first ls ≡ 0) ↔ NoneApplies ls)

-- these are the numbers of a table, in its order, and none is 0
abbrev pub Ordered : List Line → List ℕ → Type 0
Ordered ls ns = (map (λ (l : Line). l.number) ls ≡ ns) × Numbered ls
