-- Bytes put into a list: what stands there then. Assumes nothing.
use mathlib.Core.Path.{◌≡◌, sym, ap, ◌∙◌}
use mathlib.Core.List.{List, [], ◌∷◌, ◌++◌, append_assoc}
use Prim.Native.Nat.{ℕ, zero, suc, ◌+◌, ◌-◌, ◌/◌, ◌%◌, ◌<◌, ◌≤◌}
use native.Mathlib.Nat.{zero-add}
use native.Mathlib.Numerals.{add-one}
use native.Mathlib.Omega.{arith}
use lib.ListN.{length, take, drop, set, length-append, length-drop, take-append-drop}
use lib.Seq.{paste-zero, take-paste, drop-paste, drop-drop, take-length, length-paste, set_split, take-append_seam, drop_at, length-take-le, append_snoc, take_at, drop-append-add, drop-append-le}
use Rattle.base_layout.specs.Bytes.{le, pasted, Bytes}
use Rattle.base_layout.proofs.Laws.{length-le, bytes_append, bytes_drop}

pub pasted_none : (at : ℕ) (s : List ℕ) → pasted at [] s ≡ s
pasted_none at s = sym (paste-zero s at [])

pub length-pasted : (at : ℕ) (xs s : List ℕ) → at + length xs ≤ length s → length (pasted at xs s) ≡ length s
length-pasted at xs s h = length-paste s at xs (length xs) (omega arith) (omega arith)

-- what was put is read back, and what follows it is as it was
pub take-pasted : (at : ℕ) (xs s : List ℕ) → at ≤ length s → take (at + length xs) (pasted at xs s) ≡ take at s ++ xs
take-pasted at xs s h = take-paste s at xs (length xs) (omega arith) (omega arith) ∙ ap (λ (x : List ℕ). take at s ++ x) (take-length xs)

pub drop-pasted : (at : ℕ) (xs s : List ℕ) → at ≤ length s → drop (at + length xs) (pasted at xs s) ≡ drop (at + length xs) s
drop-pasted at xs s h = drop-paste s at xs (length xs) (omega arith) (omega arith)

pub read_pasted : (at : ℕ) (xs s : List ℕ) → at ≤ length s → take (length xs) (drop at (pasted at xs s)) ≡ xs
read_pasted at xs s h =
    let rest : List ℕ = drop (at + length xs) s in
    ap (λ (l : List ℕ). take (length xs) (drop at l)) (append_assoc (take at s) (take (length xs) xs) rest)
    ∙ ap (take (length xs)) (drop_at (take at s) (take (length xs) xs ++ rest) at (length-take-le at s h))
    ∙ rw (take-length xs) (take-append_seam xs rest)

-- one list put after another
pub pasted_twice : (at : ℕ) (xs ys s : List ℕ) → at + length xs + length ys ≤ length s
    → pasted (at + length xs) ys (pasted at xs s) ≡ pasted at (xs ++ ys) s
pasted_twice at xs ys s h =
    let p : List ℕ = pasted at xs s in
    let l : length (xs ++ ys) ≡ length xs + length ys = length-append xs ys in
    let t = take-pasted at xs s (omega arith) in
    let d = drop-pasted at xs s (omega arith) in
    let i : at + length xs + length ys ≡ at + length (xs ++ ys) = omega arith in
    let e : drop (at + length xs + length ys) p ≡ drop (at + length (xs ++ ys)) s =
    sym (drop-drop (length ys) (at + length xs) p) ∙ ap (drop (length ys)) d ∙ drop-drop (length ys) (at + length xs) s ∙ ap (λ (i : ℕ). drop i s) i in
    rw (t, e, take-length ys, take-length (xs ++ ys)) (simp append_assoc)

-- a part put behind those that stand from a place on
pub put_next : (done x s : List ℕ) (from at : ℕ) {s' s'' : List ℕ} → from + length done ≡ at → at + length x ≤ length s
    → s' ≡ pasted from done s → s'' ≡ pasted at x s' → s'' ≡ pasted from (done ++ x) s
put_next done x s from at l h e f =
    f
    ∙ ap (pasted at x) e
    ∙ ap (λ (k : ℕ). pasted k x (pasted from done s)) (sym l)
    ∙ pasted_twice from done x s (omega arith)

-- four parts, each equal to what it should be, put one behind the other
pub put_four : (A B C D s : List ℕ) (from b c d : ℕ) {v w x y s1 s2 s3 s4 : List ℕ}
    → from + length A ≡ b → b + length B ≡ c → c + length C ≡ d → d + length D ≤ length s
    → v ≡ A → w ≡ B → x ≡ C → y ≡ D
    → s1 ≡ pasted from v s → s2 ≡ pasted b w s1 → s3 ≡ pasted c x s2 → s4 ≡ pasted d y s3
    → s4 ≡ pasted from (((A ++ B) ++ C) ++ D) s
put_four A B C D s from b c d {s1 = s1} {s2 = s2} {s3 = s3} lb lc ld h ea eb ec ed p1 p2 p3 p4 =
    let ab = length-append A B in
    let abc = length-append (A ++ B) C in
    let q1 : s1 ≡ pasted from A s = p1 ∙ ap (λ (l : List ℕ). pasted from l s) ea in
    let q2 : s2 ≡ pasted from (A ++ B) s = put_next A B s from b lb (omega arith) q1 (p2 ∙ ap (λ (l : List ℕ). pasted b l s1) eb) in
    let q3 : s3 ≡ pasted from ((A ++ B) ++ C) s = put_next (A ++ B) C s from c (omega arith) (omega arith) q2 (p3 ∙ ap (λ (l : List ℕ). pasted c l s2) ec) in
    put_next ((A ++ B) ++ C) D s from d (omega arith) h q3 (p4 ∙ ap (λ (l : List ℕ). pasted d l s3) ed)

-- and five
pub put_five : (A B C D E s : List ℕ) (from b c d e : ℕ) {v w x y z s1 s2 s3 s4 s5 : List ℕ}
    → from + length A ≡ b → b + length B ≡ c → c + length C ≡ d → d + length D ≡ e → e + length E ≤ length s
    → v ≡ A → w ≡ B → x ≡ C → y ≡ D → z ≡ E
    → s1 ≡ pasted from v s → s2 ≡ pasted b w s1 → s3 ≡ pasted c x s2 → s4 ≡ pasted d y s3 → s5 ≡ pasted e z s4
    → s5 ≡ pasted from ((((A ++ B) ++ C) ++ D) ++ E) s
put_five A B C D E s from b c d e {s4 = s4} lb lc ld le h ea eb ec ed ee p1 p2 p3 p4 p5 =
    let ab = length-append A B in
    let abc = length-append (A ++ B) C in
    let abcd = length-append ((A ++ B) ++ C) D in
    let q = put_four A B C D s from b c d lb lc ld (omega arith) ea eb ec ed p1 p2 p3 p4 in
    put_next (((A ++ B) ++ C) ++ D) E s from e (omega arith) h q (p5 ∙ ap (λ (l : List ℕ). pasted e l s4) ee)

-- one byte
pub pasted_one : (at b : ℕ) (s : List ℕ) → at < length s → set s at b ≡ pasted at (b ∷ []) s
pasted_one at b s h = rw (set_split s at b h, add-one at) (sym (append_snoc (take at s) b (drop (suc at) s)))

-- a number's first byte, and then the rest of it
pub number_turn : (at n x : ℕ) (s : List ℕ) → 0 < n → at + n ≤ length s
    → pasted (at + 1) (le (n - 1) (x / 256)) (set s at (x % 256)) ≡ pasted at (le n x) s
number_turn at zero x s p h = absurd (omega arith)
number_turn at (suc k) x s p h =
    let l = length-le k (x / 256) in
    let e : suc k - 1 ≡ k = omega arith in
    rw (e, pasted_one at (x % 256) s (omega arith)) (pasted_twice at (x % 256 ∷ []) (le k (x / 256)) s (omega arith))

-- put at the start
pub pasted-start : (x s : List ℕ) → pasted 0 x s ≡ x ++ drop (length x) s
pasted-start x s = rw (zero-add, take-length x)

-- put behind a part
pub pasted-after : (p t x : List ℕ) (at : ℕ) → length p ≡ at → pasted at x (p ++ t) ≡ p ++ pasted 0 x t
pasted-after p t x at e =
    let d : drop (at + length x) (p ++ t) ≡ drop (0 + length x) t =
    rw (← e, zero-add) (drop-append-add p t (length x)) in
    rw (take_at p t at e, d) (append_assoc p (take (length x) x) (drop (0 + length x) t))

-- put into the first z, when it is no longer than they are
pub pasted-within : (z : ℕ) (x t : List ℕ) → length x ≤ z → z ≤ length t → pasted 0 x t ≡ pasted 0 x (take z t) ++ drop z t
pasted-within z x t h k =
    let l = length-take-le z t k in
    let d : drop (length x) t ≡ drop (length x) (take z t) ++ drop z t =
    ap (drop (length x)) (sym (take-append-drop z t)) ∙ drop-append-le (length x) (take z t) (drop z t) (omega arith) in
    pasted-start x t ∙ ap (λ (l : List ℕ). x ++ l) d
    ∙ sym (append_assoc x (drop (length x) (take z t)) (drop z t))
    ∙ ap (λ (l : List ℕ). l ++ drop z t) (sym (pasted-start x (take z t)))

pub length-within : (z : ℕ) (x t : List ℕ) → length x ≤ z → z ≤ length t → length (pasted 0 x (take z t)) ≡ z
length-within z x t h k =
    let l = length-take-le z t k in
    length-pasted 0 x (take z t) (omega arith) ∙ l

-- put behind a part, into the first z of what follows it
pub pasted-first : (z : ℕ) (p t x : List ℕ) (at : ℕ) → length p ≡ at → length x ≤ z → z ≤ length t
    → pasted at x (p ++ t) ≡ p ++ pasted 0 x (take z t) ++ drop z t
pasted-first z p t x at e h k =
    pasted-after p t x at e ∙ ap (λ (l : List ℕ). p ++ l) (pasted-within z x t h k)
    ∙ sym (append_assoc p (pasted 0 x (take z t)) (drop z t))

pub bytes_pasted : (x s : List ℕ) → Bytes x → Bytes s → Bytes (pasted 0 x s)
bytes_pasted x s h k i =
    rw (pasted-start x s) (bytes_append x (drop (length x) s) h (bytes_drop (length x) s k) i)

-- put into a part of z that is lent and comes back
pub put_part : (at z : ℕ) (x s : List ℕ) → at + z ≤ length s → length x ≤ z
    → take at s ++ (pasted 0 x (take z (drop at s)) ++ drop z (drop at s)) ≡ pasted at x s
put_part at z x s h k =
    let l = length-drop at s in
    sym (append_assoc (take at s) (pasted 0 x (take z (drop at s))) (drop z (drop at s)))
    ∙ sym (pasted-first z (take at s) (drop at s) x at (length-take-le at s (omega arith)) k (omega arith))
    ∙ ap (pasted at x) (take-append-drop at s)
