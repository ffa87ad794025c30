-- Two and three bytes put into a room, and a turn of the loop that puts one for each byte that has ended. Assumes nothing.
use mathlib.Core.Path.{◌≡◌, refl, sym, ap, ◌∙◌}
use mathlib.Core.List.{List, [], ◌∷◌, ◌++◌}
use Prim.Native.Nat.{ℕ, zero, suc, ◌+◌, ◌*◌, ◌-◌, ◌/◌, ◌<◌, ◌≤◌}
use native.Mathlib.Omega.{arith}
use lib.ListN.{length, get_or, take, drop, set, length-set, length-take}
use lib.Seq.{take-nil, take_all}
use Rattle.base_layout.specs.Bytes.{pasted}
use Rattle.base_layout.proofs.Pasted.{pasted_none, pasted_one, pasted_twice}
use Rattle.line_receiver.specs.Frames.{Byte}
use Rattle.text_rules.specs.Records.{record_of, records}
use Rattle.text_rules.specs.Fold.{Brought, more, gives, Reading, onward_with, still, folded}
use Rattle.text_rules.proofs.Folding.{turn_by}
use Rattle.text_rules.proofs.Normal.{length-records}

pub put_two : (at a b : ℕ) (s : List ℕ) → at + 2 ≤ length s → set (set s at a) (at + 1) b ≡ pasted at (a ∷ b ∷ []) s
put_two at a b s h =
    pasted_one (at + 1) b (set s at a) (omega (arith, length-set s at a))
    ∙ ap (pasted (at + 1) (b ∷ [])) (pasted_one at a s (omega arith)) ∙ pasted_twice at (a ∷ []) (b ∷ []) s (omega arith)

pub put_three : (at a b c : ℕ) (s : List ℕ) → at + 3 ≤ length s → set (set (set s at a) (at + 1) b) (at + 2) c ≡ pasted at (a ∷ b ∷ c ∷ []) s
put_three at a b c s h =
    pasted_one (at + 2) c (set (set s at a) (at + 1) b) (omega (arith, length-set s at a, length-set (set s at a) (at + 1) b))
    ∙ ap (pasted (at + 2) (c ∷ [])) (put_two at a b s (omega arith)) ∙ pasted_twice at (a ∷ b ∷ []) (c ∷ []) s (omega arith)

-- As many records are put as there is room for, n: one more of them, and then those of the bytes to come.
pub record_turn : (n k : ℕ) (b : Byte) (bs : List Byte) (room : List ℕ) {room' : List ℕ} → 3 * n ≤ length room
    → room' ≡ pasted (3 * k) (records (take (n - k) (b ∷ []))) room
    → pasted (3 * (k + 1)) (records (take (n - (k + 1)) bs)) room' ≡ pasted (3 * k) (records (take (n - k) (b ∷ bs))) room
record_turn n k b bs room {room'} h e = go (n - k) refl (n - (k + 1)) refl e
  where
    go : (j : ℕ) → n - k ≡ j → (i : ℕ) → n - (k + 1) ≡ i → room' ≡ pasted (3 * k) (records (take j (b ∷ []))) room
        → pasted (3 * (k + 1)) (records (take i bs)) room' ≡ pasted (3 * k) (records (take j (b ∷ bs))) room
    go zero p zero q e = pasted_none (3 * (k + 1)) room' ∙ e
    go zero p (suc i) q e = absurd (omega arith)
    go (suc j) p i q e =
        let z : i ≡ j = omega arith in
        let t : take j [] ≡ [] = take-nil j in
        let e' : room' ≡ pasted (3 * k) (record_of b) room = e ∙ ap (λ (l : List Byte). pasted (3 * k) (records (b ∷ l)) room) t in
        let w : 3 * (k + 1) ≡ 3 * k + 3 = omega arith in
        let l = length-records (take j bs) in
        let m = length-take j bs in
        rw (z, e', w) (pasted_twice (3 * k) (record_of b) (records (take j bs)) room (omega arith))

-- the one record, and none
pub put_one : (n k : ℕ) (b : Byte) (room : List ℕ) {room' : List ℕ} → k < n → room' ≡ pasted (3 * k) (record_of b) room
    → room' ≡ pasted (3 * k) (records (take (n - k) (b ∷ []))) room
put_one n k b room {room'} h e = go (n - k) refl
  where
    go : (j : ℕ) → n - k ≡ j → room' ≡ pasted (3 * k) (records (take j (b ∷ []))) room
    go zero p = absurd (omega arith)
    go (suc j) p = e ∙ ap (λ (l : List Byte). pasted (3 * k) (records (b ∷ l)) room) (sym (take-nil j))

pub put_none : (n k : ℕ) (b : Byte) (room : List ℕ) → n ≤ k → room ≡ pasted (3 * k) (records (take (n - k) (b ∷ []))) room
put_none n k b room h =
    let z : n - k ≡ 0 = omega arith in
    sym (pasted_none (3 * k) room) ∙ ap (λ (j : ℕ). pasted (3 * k) (records (take j (b ∷ []))) room) (sym z)

-- A turn of the loop that puts records: those of the rest, put where the loop stands, give the whole x.
module _ {S : Type 0} (f : S → ℕ → Brought S) (n : ℕ) (s : S) (t : List ℕ) (i k : ℕ) (room : List ℕ) {x : List ℕ}
    (h : pasted (3 * k) (records (take (n - k) (folded f s (drop i t)).bytes)) room ≡ x) where
  abbrev left : Reading S → List ℕ
  left q = pasted (3 * k) (records (take (n - k) q.bytes)) room

  pub put_more : (m : S) → i < length t → f s (get_or t i 0) ≡ more m → pasted (3 * k) (records (take (n - k) (folded f m (drop (i + 1) t)).bytes)) room ≡ x
  put_more m l e = ap left (sym (turn_by f s t i l e)) ∙ h

  pub put_gives : (m : S) (b : Byte) → i < length t → f s (get_or t i 0) ≡ gives b m → 3 * n ≤ length room
      → (room' : List ℕ) → room' ≡ pasted (3 * k) (records (take (n - k) (b ∷ []))) room
      → pasted (3 * (k + 1)) (records (take (n - (k + 1)) (folded f m (drop (i + 1) t)).bytes)) room' ≡ x
  put_gives m b l e fits room' p =
      record_turn n k b (folded f m (drop (i + 1) t)).bytes room fits p ∙ ap left (sym (turn_by f s t i l e)) ∙ h

  pub put_stop : folded f s (drop i t) ≡ still s → room ≡ x
  put_stop e =
      sym (pasted_none (3 * k) room) ∙ ap (λ (l : List Byte). pasted (3 * k) (records l) room) (sym (take-nil (n - k))) ∙ ap left (sym e) ∙ h

-- a room for all of them, and one for none
pub put_all : (bs : List Byte) (room : List ℕ) → 3 * length bs ≤ length room → records (take (length room / 3) bs) ≡ records bs
put_all bs room h = ap records (take_all (length room / 3) bs (omega arith))
