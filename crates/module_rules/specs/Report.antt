-- How a reply is put together (document 01, "Commands of both types", last sentence).
use Rattle.std.specs.Prelude.{ℕ, ◌/◌, ◌%◌, ◌^◌, ◌<◌, List, [], ◌∷◌, ◌++◌, Bool, cond, ◌&&◌, get_or, eqb}
use Rattle.base_layout.specs.Bytes.{le}
use Rattle.line_receiver.specs.Receive.{total}
use Rattle.line_receiver.specs.Frames.{Frame}
use Rattle.module_rules.specs.declared.Station.{Station}

-- one item of k bytes, least significant first, or none
abbrev pub item : Bool → ℕ → ℕ → List ℕ
item t k x = cond t (le k x) []

-- the chosen items, in bit order: bit 0 of the item byte is for the first number, of as many bytes as the first size says
abbrev pub chosen : ℕ → List ℕ → List ℕ → List ℕ
chosen b [] xs = []
chosen b (k ∷ ks) [] = []
chosen b (k ∷ ks) (x ∷ xs) = item (eqb (b % 2) 1) k x ++ chosen (b / 2) ks xs

-- bytes and then the 8-bit sum of them all
abbrev pub with_sum : List ℕ → List ℕ
with_sum bs = bs ++ total bs % 256 ∷ []

-- status byte, chosen items, sum
unfoldable pub report : ℕ → ℕ → List ℕ → List ℕ → List ℕ
report status items sizes numbers = with_sum (status ∷ chosen items sizes numbers)

-- Read Status, if executed, chooses the items of this reply only
abbrev pub items_for : Frame → Station → ℕ
items_for f s = cond (eqb f.code 3 && eqb s.cause 0) (get_or f.content 0 0) s.items

-- the reply to a frame by a station as it is after the frame; a Hard Reset that is executed draws none
unfoldable pub reply_of : Frame → Station → ℕ → List ℕ → List ℕ → List ℕ
reply_of f s status sizes numbers =
    cond (eqb f.code 15 && eqb s.cause 0) [] (report status (items_for f s) sizes numbers)

-- bit 1 of the status byte is set when the cause is not 0
abbrev pub cause_bit : ℕ → ℕ
cause_bit c = cond (eqb c 0) 0 2

-- there is a number for each size, and it fits into that many bytes
abbrev pub Fit : List ℕ → List ℕ → Type 0
Fit [] [] = Unit {0}
Fit [] (x ∷ xs) = ⊥
Fit (k ∷ ks) [] = ⊥
Fit (k ∷ ks) (x ∷ xs) = (x < 256 ^ k) × Fit ks xs
