-- Records and bytes, there and back. Assumes nothing.
use mathlib.Core.Path.{◌≡◌, refl, sym, ap, ap₂, ◌∙◌}
use mathlib.Core.List.{List, [], ◌∷◌}
use mathlib.Core.Bool.{Bool, true, false, ◌&&◌}
use Prim.Native.Nat.{ℕ, zero, suc, ◌-◌, ◌≤◌}
use native.Mathlib.Omega.{arith}
use borrow.Author.Tests.{eqb-true, leb-true}
use lib.ListN.{length}
use lib.Dec.{eqb, leb}
use Rattle.base_layout.proofs.Every.{every_hold}
use Rattle.line_receiver.specs.Frames.{Byte}
use Rattle.text_rules.specs.Records.{line_kind, mark_of, records, all_line, bytes_in}

pub one_mark : (m : ℕ) → m ≤ 1 → mark_of (eqb m 1) ≡ m
one_mark zero h = refl
one_mark (suc zero) h = refl
one_mark (suc (suc m)) h = absurd (omega arith)

pub taken : (rs : List ℕ) → all_line rs ≡ true → records (bytes_in rs) ≡ rs
unfolding all_line bytes_in
taken [] e = refl
taken (k ∷ []) e = let z : false ≡ true = e in cc
taken (k ∷ m ∷ []) e = let z : false ≡ true = e in cc
taken (k ∷ m ∷ b ∷ rs) e =
    let h = every_hold (eqb k line_kind ∷ leb m 1 ∷ all_line rs ∷ []) e in
    let kind : line_kind ≡ k = sym (eqb-true k line_kind h.0) in
    let mark : mark_of (eqb m 1) ≡ m = one_mark m (leb-true m 1 h.1.0) in
    ap₂ (λ (x y : ℕ). x ∷ y ∷ b ∷ records (bytes_in rs)) kind mark ∙ ap (λ (l : List ℕ). k ∷ m ∷ b ∷ l) (taken rs h.1.1.0)

pub given : (bs : List Byte) → (all_line (records bs) ≡ true) × (bytes_in (records bs) ≡ bs)
unfolding all_line bytes_in
given [] = (refl, refl)
given (b ∷ bs) = let h = given bs in (ok b.mark h.0, ap₂ (λ (m : Bool) (l : List Byte). record { value = b.value; mark = m } ∷ l) (back b.mark) h.1)
  where
    ok : (m : Bool) → all_line (records bs) ≡ true → (eqb line_kind line_kind && leb (mark_of m) 1 && all_line (records bs)) ≡ true
    ok true e = e
    ok false e = e

    back : (m : Bool) → eqb (mark_of m) 1 ≡ m
    back true = refl
    back false = refl
