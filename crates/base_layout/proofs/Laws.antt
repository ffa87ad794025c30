-- The laws of numbers as bytes, over the count of bytes. Assumes nothing.
use mathlib.Core.Path.{◌≡◌, refl, sym, ap, ◌∙◌}
use mathlib.Core.List.{List, [], ◌∷◌, ◌++◌, append_assoc}
use Prim.Native.Nat.{ℕ, zero, suc, ◌+◌, ◌*◌, ◌/◌, ◌%◌, ◌^◌, ◌<◌, ◌≤◌}
use native.Mathlib.Nat.{pow-suc, suc-add, zero-add, add-zero}
use native.Mathlib.Numerals.{add-one}
use native.Mathlib.Omega.{arith}
use lib.ListN.{length, take, drop, length-append}
use lib.Seq.{drop-cons, drop-append_seam, take-append_seam, get_or-drop}
use Rattle.base_layout.specs.Bytes.{le, of_le, read_at, Bytes}

pub length-le : (k x : ℕ) → length (le k x) ≡ k
length-le zero x = refl
length-le (suc k) x = ap suc (length-le k (x / 256))

pub bytes_le : (k x : ℕ) → Bytes (le k x)
bytes_le zero x i = omega arith
bytes_le (suc k) x zero = omega arith
bytes_le (suc k) x (suc i) = bytes_le k (x / 256) i

pub of_le-le : (k x : ℕ) → x < 256 ^ k → of_le (le k x) ≡ x
of_le-le zero x h = omega arith
of_le-le (suc k) x h =
    let ih = of_le-le k (x / 256) (omega (arith, pow-suc 256 k)) in
    omega arith

pub of_le_lt : (bs : List ℕ) → Bytes bs → of_le bs < 256 ^ length bs
of_le_lt [] h = omega arith
of_le_lt (b ∷ bs) h =
    let ih = of_le_lt bs (λ i. h (suc i)) in
    omega (arith, h 0, pow-suc 256 (length bs))

pub le-of_le : (bs : List ℕ) → Bytes bs → le (length bs) (of_le bs) ≡ bs
le-of_le [] h = refl
le-of_le (b ∷ bs) h =
    let low : (b + 256 * of_le bs) % 256 ≡ b = omega (arith, h 0) in
    let high : (b + 256 * of_le bs) / 256 ≡ of_le bs = omega (arith, h 0) in
    rw (low, high, le-of_le bs (λ i. h (suc i)))

pub le_injective : (k x y : ℕ) → x < 256 ^ k → y < 256 ^ k → le k x ≡ le k y → x ≡ y
le_injective k x y hx hy e = sym (of_le-le k x hx) ∙ ap of_le e ∙ of_le-le k y hy

-- k bytes from a place, as a part of the list
pub read_at_part : (k at : ℕ) (s : List ℕ) → at + k ≤ length s → read_at k at s ≡ take k (drop at s)
read_at_part zero at s h = refl
read_at_part (suc k) at s h =
    rw (read_at_part k (at + 1) s (omega arith), drop-cons s at 0 (omega arith), add-one at)

pub length_read : (k at : ℕ) (s : List ℕ) → length (read_at k at s) ≡ k
length_read zero at s = refl
length_read (suc k) at s = ap suc (length_read k (at + 1) s)

pub bytes_read : (k at : ℕ) (s : List ℕ) → Bytes s → Bytes (read_at k at s)
bytes_read zero at s h i = omega arith
bytes_read (suc k) at s h zero = h at
bytes_read (suc k) at s h (suc i) = bytes_read k (at + 1) s h i

pub read_add : (k l at : ℕ) (s : List ℕ) → read_at (k + l) at s ≡ read_at k at s ++ read_at l (at + k) s
read_add zero l at s = rw (zero-add, add-zero)
read_add (suc k) l at s =
    let e : at + 1 + k ≡ at + suc k = omega arith in
    rw (suc-add, read_add k l (at + 1) s, e)

-- six bytes are four and two
pub read_six : (at : ℕ) (s : List ℕ) → of_le (read_at 6 at s) ≡ of_le (read_at 4 at s) + 2 ^ 32 * of_le (read_at 2 (at + 4) s)
read_six at s = ap of_le (read_add 4 2 at s) ∙ omega arith

-- what stands between two lists is read back
pub read_back : (xs p q : List ℕ) → read_at (length xs) (length p) (p ++ xs ++ q) ≡ xs
read_back xs p q =
    read_at_part (length xs) (length p) (p ++ xs ++ q) (omega (arith, length-append (p ++ xs) q, length-append p xs))
    ∙ rw (append_assoc, drop-append_seam, take-append_seam)

-- bytes of parts
pub bytes_take : (n : ℕ) (s : List ℕ) → Bytes s → Bytes (take n s)
bytes_take zero s h i = omega arith
bytes_take (suc n) [] h i = omega arith
bytes_take (suc n) (x ∷ s) h zero = h 0
bytes_take (suc n) (x ∷ s) h (suc i) = bytes_take n s (λ j. h (suc j)) i

pub bytes_drop : (n : ℕ) (s : List ℕ) → Bytes s → Bytes (drop n s)
bytes_drop n s h i = rw (get_or-drop n s i 0) (h (n + i))

pub bytes_append : (a b : List ℕ) → Bytes a → Bytes b → Bytes (a ++ b)
bytes_append [] b h k i = k i
bytes_append (x ∷ a) b h k zero = h 0
bytes_append (x ∷ a) b h k (suc i) = bytes_append a b (λ j. h (suc j)) k i

pub bytes_one : (c : ℕ) → c < 256 → Bytes (c ∷ [])
bytes_one c h zero = h
bytes_one c h (suc i) = omega arith
