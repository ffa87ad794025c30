-- The loop that shows records as text: the text of those left, put where it stands, gives the whole. Assumes nothing.
use mathlib.Core.Path.{◌≡◌, refl, sym, ap, ap₂, ◌∙◌}
use mathlib.Core.List.{List, [], ◌∷◌, ◌++◌}
use mathlib.Core.Bool.{Bool, true}
use Prim.Native.Nat.{ℕ, ◌+◌, ◌%◌, ◌<◌, ◌≤◌}
use native.Mathlib.Nat.{zero-add}
use native.Mathlib.Omega.{arith}
use lib.ListN.{length, get_or}
use lib.Dec.{eqb, leb}
use Rattle.base_layout.specs.Bytes.{pasted}
use Rattle.base_layout.proofs.Every.{every_hold}
use Rattle.line_receiver.specs.Frames.{Byte}
use Rattle.text_rules.specs.Records.{line_kind, all_line, bytes_in}
use Rattle.text_rules.specs.Export.{exported, in_column, column_after, text_from, closing}
use Rattle.text_rules.proofs.Records.{byte_of_lem, line_of, nothing_left}
use Rattle.text_rules.proofs.Columns.{ended, ended-length, ended_turn, byte_by_byte}

pub record Showing (rs room₀ : List ℕ) (column at : ℕ) (rest room : List ℕ) : Type 0 where
  pub small : column < 16
  pub long : length room ≡ length room₀
  pub line : all_line rest ≡ true
  pub fits : at + length (ended column (bytes_in rest)) ≡ length (exported (bytes_in rs))
  pub put : pasted at (ended column (bytes_in rest)) room ≡ pasted 0 (exported (bytes_in rs)) room₀

pub show_start : (rs room : List ℕ) → all_line rs ≡ true → Showing rs room 0 0 rs room
show_start rs room e =
    let b = byte_by_byte (bytes_in rs) in
    record {
      small = omega arith;
      long = refl;
      line = e;
      fits = zero-add (length (ended 0 (bytes_in rs))) ∙ ap (λ (t : List ℕ). length t) b;
      put = ap (λ (t : List ℕ). pasted 0 t room) b;
    }

-- the byte of a record
abbrev pub byte_in : List ℕ → Byte
byte_in r = record { value = get_or r 2 0; mark = eqb (get_or r 1 0) 1 }

-- a record is left, and its byte has room
module _ (rs room₀ : List ℕ) (column at : ℕ) (r rest room : List ℕ) (three : length r ≡ 3) (s : Showing rs room₀ column at (r ++ rest) room) where
  left-length : length (ended column (bytes_in (r ++ rest))) ≡ length (in_column column (byte_in r)) + length (ended (column_after column 1) (bytes_in rest))
  left-length =
      ap (λ (bs : List Byte). length (ended column bs)) (byte_of_lem r rest three) ∙ ended-length column (byte_in r) (bytes_in rest)

  pub show_room : length (exported (bytes_in rs)) ≤ length room₀ → at + length (in_column column (byte_in r)) ≤ length room
  show_room g = omega (arith, left-length, s.fits, s.long)

  pub show_turn : length (exported (bytes_in rs)) ≤ length room₀ → (w : ℕ) (room' : List ℕ) → w ≡ at + length (in_column column (byte_in r))
      → length room' ≡ length room → room' ≡ pasted at (in_column column (byte_in r)) room → Showing rs room₀ (column_after column 1) w rest room'
  show_turn g w room' e l p =
      let bs : List Byte = bytes_in rest in
      let b : Byte = byte_in r in
      let x = byte_of_lem r rest three in
      let f : at + length (ended column (b ∷ bs)) ≤ length room = omega (arith, ended-length column b bs, left-length, s.fits, s.long) in
      let q = every_hold (eqb (get_or r 0 0) line_kind ∷ leb (get_or r 1 0) 1 ∷ all_line rest ∷ []) (sym (line_of r rest three) ∙ s.line) in
      record {
        small = omega arith;
        long = l ∙ s.long;
        line = q.1.1.0;
        fits = omega (arith, e, left-length, s.fits);
        put = ap (λ (k : ℕ). pasted k (ended (column_after column 1) bs) room') e ∙ ended_turn column b bs at room f p
            ∙ ap (λ (l : List Byte). pasted at (ended column l) room) (sym x) ∙ s.put;
      }

-- at the end only the last line is to be ended
module _ (rs room₀ : List ℕ) (column at : ℕ) (rest room : List ℕ) (h : length rest < 3) (s : Showing rs room₀ column at rest room) where
  left_none : ended column (bytes_in rest) ≡ closing column
  unfolding bytes_in text_from
  left_none =
      ap (λ (l : List ℕ). ended column (bytes_in l)) (nothing_left rest h s.line)
      ∙ ap closing (let e : (column + 0) % 16 ≡ column = omega (arith, s.small) in e)

  pub show_closing : length (exported (bytes_in rs)) ≤ length room₀ → at + length (closing column) ≤ length room
  show_closing g = omega (arith, ap (λ (t : List ℕ). length t) left_none, s.fits, s.long)

  pub show_end : (room' : List ℕ) → room' ≡ pasted at (closing column) room → room' ≡ pasted 0 (exported (bytes_in rs)) room₀
  show_end room' e = e ∙ ap (λ (t : List ℕ). pasted at t room) (sym left_none) ∙ s.put
