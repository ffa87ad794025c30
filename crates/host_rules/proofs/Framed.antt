-- A frame put byte by byte is the frame put whole. Assumes nothing.
use mathlib.Core.Path.{◌≡◌, refl, ap, ◌∙◌}
use mathlib.Core.List.{List, [], ◌∷◌, ◌++◌}
use Prim.Native.Nat.{ℕ, ◌+◌, ◌<◌, ◌≤◌}
use native.Mathlib.Omega.{arith}
use lib.ListN.{length, set}
use Rattle.base_layout.specs.Bytes.{pasted}
use Rattle.base_layout.proofs.Pasted.{pasted_one, pasted_twice, length-pasted}

-- one byte more after those that were put at the start
put_next : (xs : List ℕ) (b n : ℕ) (s : List ℕ) → n ≡ length xs → n < length s → set (pasted 0 xs s) n b ≡ pasted 0 (xs ++ b ∷ []) s
put_next xs b n s e h =
    let l = length-pasted 0 xs s (omega arith) in
    let p : n ≡ 0 + length xs = omega arith in
    pasted_one n b (pasted 0 xs s) (omega arith) ∙ ap (λ (i : ℕ). pasted i (b ∷ []) (pasted 0 xs s)) p ∙ pasted_twice 0 xs (b ∷ []) s (omega arith)

module _ (a c sum : ℕ) (ds s : List ℕ) (h : length ds + 4 ≤ length s) where
  headed : set (set (set s 0 0xAA) 1 a) 2 c ≡ pasted 0 (0xAA ∷ a ∷ c ∷ []) s
  headed =
      ap (λ (x : List ℕ). set (set x 1 a) 2 c) (pasted_one 0 0xAA s (omega arith))
      ∙ ap (λ (x : List ℕ). set x 2 c) (put_next (0xAA ∷ []) a 1 s refl (omega arith))
      ∙ put_next (0xAA ∷ a ∷ []) c 2 s refl (omega arith)

  pub framed : set (pasted 3 ds (set (set (set s 0 0xAA) 1 a) 2 c)) (length ds + 3) sum ≡ pasted 0 (0xAA ∷ a ∷ c ∷ ds ++ sum ∷ []) s
  framed =
      ap (λ (x : List ℕ). set (pasted 3 ds x) (length ds + 3) sum) headed
      ∙ ap (λ (x : List ℕ). set x (length ds + 3) sum) (pasted_twice 0 (0xAA ∷ a ∷ c ∷ []) ds s (omega arith))
      ∙ put_next (0xAA ∷ a ∷ c ∷ ds) sum (length ds + 3) s (omega arith) (omega arith)
