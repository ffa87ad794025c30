-- The slots of a record as a list by themselves: modules written into them, there and back. Assumes nothing.
use mathlib.Core.Path.{◌≡◌, refl, sym, ap, ap₂, ◌∙◌}
use mathlib.Core.List.{List, [], ◌∷◌, ◌++◌, append_assoc}
use mathlib.Core.Bool.{Bool, true, ◌&&◌}
use Prim.Native.Nat.{ℕ, zero, suc, ◌+◌, ◌*◌, ◌≤◌}
use native.Mathlib.Nat.{mul-suc}
use native.Mathlib.Omega.{arith}
use lib.ListN.{length, take, drop, length-append, length-drop, take-append-drop}
use lib.Seq.{take_at, drop_at, length-take-le}
use Rattle.base_layout.specs.Bytes.{pasted, Bytes}
use Rattle.module_rules.specs.Slots.{Slots, slot_size, Lawful}
use Rattle.net_rules.specs.Record.{modules_in, ok_slots, put_modules}
use Rattle.net_rules.specs.Promises.{Each}
use Rattle.base_layout.proofs.Pasted.{pasted-start, pasted-first, length-within, bytes_pasted}
use Rattle.base_layout.proofs.Laws.{bytes_take, bytes_drop, bytes_append}
use Rattle.net_rules.proofs.Tests.{and-true}

module _ {M : Type 0} (L : Slots M) where
  -- slots with these modules written into them, one after another
  unfoldable pub put_slots : List M → List ℕ → List ℕ
  put_slots [] t = t
  put_slots (m ∷ ms) t = pasted 0 (L.enc m) (take slot_size t) ++ put_slots ms (drop slot_size t)

  pub length-modules : (k : ℕ) (t : List ℕ) → length (modules_in L k t) ≡ k
  unfolding modules_in
  length-modules zero t = refl
  length-modules (suc k) t = ap suc (length-modules k (drop slot_size t))

-- the first slot, and the others
pub first_long : (k : ℕ) (t : List ℕ) → slot_size * suc k ≤ length t → length (take slot_size t) ≡ slot_size
first_long k t h = length-take-le slot_size t (omega (arith, mul-suc slot_size k))

pub rest_long : (k : ℕ) (t : List ℕ) → slot_size * suc k ≤ length t → slot_size * k ≤ length (drop slot_size t)
rest_long k t h = omega (arith, mul-suc slot_size k, length-drop slot_size t)

module _ {M : Type 0} {L : Slots M} (law : Lawful L) where
  -- modules written behind a part are written into the slots that follow it
  pub put_is : (ms : List M) (at : ℕ) (p t : List ℕ) → length p ≡ at → slot_size * length ms ≤ length t
      → put_modules L ms at (p ++ t) ≡ p ++ put_slots L ms t
  unfolding put_modules put_slots
  put_is [] at p t e h = refl
  put_is (m ∷ ms) at p t e h =
      let x : List ℕ = pasted 0 (L.enc m) (take slot_size t) in
      let z : slot_size ≤ length t = omega (arith, mul-suc slot_size (length ms)) in
      let l : length x ≡ slot_size = length-within slot_size (L.enc m) t (law.short m) z in
      ap (λ (s : List ℕ). put_modules L ms (at + slot_size) s) (pasted-first slot_size p t (L.enc m) at e (law.short m) z)
      ∙ put_is ms (at + slot_size) (p ++ x) (drop slot_size t) (omega (arith, length-append p x)) (rest_long (length ms) t h)
      ∙ append_assoc p x (put_slots L ms (drop slot_size t))

  pub length_put : (ms : List M) (t : List ℕ) → slot_size * length ms ≤ length t → length (put_slots L ms t) ≡ length t
  unfolding put_slots
  length_put [] t h = refl
  length_put (m ∷ ms) t h =
      let x : List ℕ = pasted 0 (L.enc m) (take slot_size t) in
      let z : slot_size ≤ length t = omega (arith, mul-suc slot_size (length ms)) in
      let l : length x ≡ slot_size = length-within slot_size (L.enc m) t (law.short m) z in
      let ih = length_put ms (drop slot_size t) (rest_long (length ms) t h) in
      omega (arith, length-append x (put_slots L ms (drop slot_size t)), length-drop slot_size t)

  pub bytes_put : (ms : List M) (t : List ℕ) → Each L.fits ms → Bytes t → Bytes (put_slots L ms t)
  unfolding put_slots
  bytes_put [] t f b = b
  bytes_put (m ∷ ms) t f b =
      bytes_append (pasted 0 (L.enc m) (take slot_size t)) (put_slots L ms (drop slot_size t))
      (bytes_pasted (L.enc m) (take slot_size t) (law.bytes m f.0) (bytes_take slot_size t b))
      (bytes_put ms (drop slot_size t) f.1 (bytes_drop slot_size t b))

  -- what was written comes back, and is valid
  pub slots-back : (ms : List M) (t : List ℕ) → slot_size * length ms ≤ length t → Each L.fits ms
      → (modules_in L (length ms) (put_slots L ms t) ≡ ms) × (ok_slots L (length ms) (put_slots L ms t) ≡ true)
  unfolding put_slots modules_in ok_slots
  slots-back [] t h f = (refl, refl)
  slots-back (m ∷ ms) t h f =
      let x : List ℕ = pasted 0 (L.enc m) (take slot_size t) in
      let y : List ℕ = put_slots L ms (drop slot_size t) in
      let z : slot_size ≤ length t = omega (arith, mul-suc slot_size (length ms)) in
      let l : length x ≡ slot_size = length-within slot_size (L.enc m) t (law.short m) z in
      let a : take slot_size (x ++ y) ≡ x = take_at x y slot_size l in
      let b : drop slot_size (x ++ y) ≡ y = drop_at x y slot_size l in
      let c = first_long (length ms) t h in
      let ih = slots-back ms (drop slot_size t) (rest_long (length ms) t h) f.1 in (
        ap₂ (λ (u v : List ℕ). L.dec u ∷ modules_in L (length ms) v) a b
            ∙ ap₂ (λ (u : M) (v : List M). u ∷ v) (law.back m (take slot_size t) c f.0) ih.0,
        ap₂ (λ (u v : List ℕ). L.ok u && ok_slots L (length ms) v) a b
            ∙ ap₂ (λ (u v : Bool). u && v) (law.valid m (take slot_size t) c f.0) ih.1,
      )

  -- the first of some valid slots, and the others
  pub first_ok : (k : ℕ) (t : List ℕ) → ok_slots L (suc k) t ≡ true → L.ok (take slot_size t) ≡ true
  unfolding ok_slots
  first_ok k t v = (and-true (L.ok (take slot_size t)) (ok_slots L k (drop slot_size t)) v).0

  pub rest_ok : (k : ℕ) (t : List ℕ) → ok_slots L (suc k) t ≡ true → ok_slots L k (drop slot_size t) ≡ true
  unfolding ok_slots
  rest_ok k t v = (and-true (L.ok (take slot_size t)) (ok_slots L k (drop slot_size t)) v).1

  pub first_there : (k : ℕ) (t : List ℕ) → slot_size * suc k ≤ length t → Bytes t → ok_slots L (suc k) t ≡ true
      → pasted 0 (L.enc (L.dec (take slot_size t))) (take slot_size t) ≡ take slot_size t
  first_there k t h b v = law.there (take slot_size t) (first_long k t h) (bytes_take slot_size t b) (first_ok k t v)

  -- the modules of valid slots are there already, and can be written
  pub slots_there : (k : ℕ) (t : List ℕ) → slot_size * k ≤ length t → Bytes t → ok_slots L k t ≡ true → put_slots L (modules_in L k t) t ≡ t
  unfolding put_slots modules_in
  slots_there zero t h b v = refl
  slots_there (suc k) t h b v =
      ap₂ (λ (u w : List ℕ). u ++ w) (first_there k t h b v)
      (slots_there k (drop slot_size t) (rest_long k t h) (bytes_drop slot_size t b) (rest_ok k t v))
      ∙ take-append-drop slot_size t

  pub slots_fit : (k : ℕ) (t : List ℕ) → slot_size * k ≤ length t → Bytes t → ok_slots L k t ≡ true → Each L.fits (modules_in L k t)
  unfolding modules_in
  slots_fit zero t h b v = tt
  slots_fit (suc k) t h b v = (
    law.sound (take slot_size t) (first_long k t h) (bytes_take slot_size t b) (first_ok k t v),
    slots_fit k (drop slot_size t) (rest_long k t h) (bytes_drop slot_size t b) (rest_ok k t v),
  )

-- ---- written twice

-- pair by pair the bytes of two lists of modules are as many
abbrev pub SameSizes : {M : Type 0} → Slots M → List M → List M → Type 0
SameSizes L [] [] = Unit {0}
SameSizes L [] (n ∷ ns) = ⊥
SameSizes L (m ∷ ms) [] = ⊥
SameSizes L (m ∷ ms) (n ∷ ns) = (length (L.enc m) ≡ length (L.enc n)) × SameSizes L ms ns

-- what is put over as many bytes leaves nothing of them
over_put : (x y t : List ℕ) → length x ≡ length y → pasted 0 y (pasted 0 x t) ≡ pasted 0 y t
over_put x y t e =
    pasted-start y (pasted 0 x t)
    ∙ ap (λ (l : List ℕ). y ++ l) (ap₂ (λ (n : ℕ) (l : List ℕ). drop n l) (sym e) (pasted-start x t) ∙ drop_at x (drop (length x) t) (length x) refl ∙ ap (λ (n : ℕ). drop n t) e)
    ∙ sym (pasted-start y t)

module _ {M : Type 0} {L : Slots M} (law : Lawful L) where
  pub put_twice : (ms ns : List M) (t : List ℕ) → slot_size * length ms ≤ length t → SameSizes L ms ns → put_slots L ns (put_slots L ms t) ≡ put_slots L ns t
  unfolding put_slots
  put_twice [] [] t h e = refl
  put_twice [] (n ∷ ns) t h e = absurd e
  put_twice (m ∷ ms) [] t h e = absurd e
  put_twice (m ∷ ms) (n ∷ ns) t h (e, es) =
      let x : List ℕ = pasted 0 (L.enc m) (take slot_size t) in
      let z : slot_size ≤ length t = omega (arith, mul-suc slot_size (length ms)) in
      let l : length x ≡ slot_size = length-within slot_size (L.enc m) t (law.short m) z in
      let rest : List ℕ = put_slots L ms (drop slot_size t) in
      ap₂ (λ (a b : List ℕ). pasted 0 (L.enc n) a ++ put_slots L ns b) (take_at x rest slot_size l) (drop_at x rest slot_size l)
      ∙ ap₂ (λ (a b : List ℕ). a ++ b) (over_put (L.enc m) (L.enc n) (take slot_size t) e) (put_twice ms ns (drop slot_size t) (rest_long (length ms) t h) es)
