-- Numbers in decimal: their digits, how many there are, and a turn of the loop that puts them. Assumes nothing.
use mathlib.Core.Path.{◌≡◌, refl, sym, ap, ap₂, ◌∙◌}
use mathlib.Core.List.{List, [], ◌∷◌, ◌++◌, append_assoc}
use mathlib.Core.Bool.{Bool, true, false, cond}
use Prim.Native.Nat.{ℕ, zero, suc, ◌-◌, ◌/◌, ◌%◌, ◌^◌, ◌<◌, ◌≤◌}
use native.Mathlib.Nat.{pow-zero, pow-suc}
use native.Mathlib.Omega.{arith}
use lib.ListN.{length, drop, set, length-append, length-set}
use lib.Seq.{drop-cons, drop-set-lt, get_or-set_same}
use lib.Dec.{eqb}
use borrow.Author.Tests.{ne_eqb}
use Rattle.base_text.specs.Digits.{digit, digits, decimal}

-- nothing for 0, and else the tens and the last digit
digits_zero : (k : ℕ) → digits k 0 ≡ []
digits_zero zero = refl
digits_zero (suc k) = refl

digits_more : (k n : ℕ) → 0 < n → digits (suc k) n ≡ digits k (n / 10) ++ digit (n % 10) ∷ []
digits_more k n h = rw (ne_eqb n 0 (λ e. omega arith))

-- any count of digits that is enough gives the same
pub digits_same : (k j n : ℕ) → n < 10 ^ k → n < 10 ^ j → digits k n ≡ digits j n
digits_same zero j n h g = let e : n ≡ 0 = omega (arith, pow-zero 10) in rw e (sym (digits_zero j))
digits_same (suc k) zero n h g = let e : n ≡ 0 = omega (arith, pow-zero 10) in rw e refl
digits_same (suc k) (suc j) n h g =
    let ih = digits_same k j (n / 10) (omega (arith, pow-suc 10 k)) (omega (arith, pow-suc 10 j)) in
    ap (λ (l : List ℕ). cond (eqb n 0) [] (l ++ digit (n % 10) ∷ [])) ih

pub below_power : (n : ℕ) → n < 10 ^ n
below_power zero = omega (arith, pow-zero 10)
below_power (suc n) = omega (arith, pow-suc 10 n, below_power n)

pub digits_short : (k n : ℕ) → length (digits k n) ≤ k
digits_short zero n = omega arith
digits_short (suc k) n = go (digits_short k (n / 10)) (eqb n 0)
  where
    go : length (digits k (n / 10)) ≤ k → (t : Bool) → length (cond t [] (digits k (n / 10) ++ digit (n % 10) ∷ [])) ≤ suc k
    go h true = omega arith
    go h false = omega (arith, length-append (digits k (n / 10)) (digit (n % 10) ∷ []))

-- a number with tens below 10 ^ k
pub decimal_is : (k n : ℕ) → n / 10 < 10 ^ k → decimal n ≡ digits k (n / 10) ++ digit (n % 10) ∷ []
unfolding decimal
decimal_is k n h =
    ap (λ (l : List ℕ). l ++ digit (n % 10) ∷ []) (digits_same n k (n / 10) (omega (arith, below_power n)) h)

pub decimal_short : (k n : ℕ) → n / 10 < 10 ^ k → length (decimal n) ≤ suc k
decimal_short k n h =
    rw (decimal_is k n h) (omega (arith, length-append (digits k (n / 10)) (digit (n % 10) ∷ []), digits_short k (n / 10)))

-- one more digit, before those that are there
pub digit_turn : (i n : ℕ) (s : List ℕ) {t : List ℕ} → 0 < i → i ≤ length s → 0 < n → digits i n ++ drop i s ≡ t
    → digits (i - 1) (n / 10) ++ drop (i - 1) (set s (i - 1) (digit (n % 10))) ≡ t
digit_turn zero n s h l p e = absurd (omega arith)
digit_turn (suc j) n s h l p e =
    let one : suc j - 1 ≡ j = omega arith in
    let d : ℕ = digit (n % 10) in
    let q : drop j (set s j d) ≡ d ∷ drop (suc j) s =
    drop-cons (set s j d) j 0 (omega (arith, length-set s j d)) ∙ ap₂ (λ (x : ℕ) (y : List ℕ). x ∷ y) (get_or-set_same s j d 0 (omega arith)) (drop-set-lt (suc j) s j d (omega arith)) in
    rw (one, q) (sym (append_assoc (digits j (n / 10)) (d ∷ []) (drop (suc j) s)) ∙ ap (λ (l : List ℕ). l ++ drop (suc j) s) (sym (digits_more j n p)) ∙ e)

-- a number that is left has a digit, what is left of it fewer, and at 0 all digits are there
pub some_left : (i n : ℕ) → n < 10 ^ i → 0 < n → 0 < i
some_left zero n h p = absurd (omega (arith, pow-zero 10))
some_left (suc i) n h p = omega arith

pub less : (i n : ℕ) → 0 < i → n < 10 ^ i → n / 10 < 10 ^ (i - 1)
less zero n p h = absurd (omega arith)
less (suc j) n p h = let one : suc j - 1 ≡ j = omega arith in rw one (omega (arith, pow-suc 10 j))

pub ends : (i n : ℕ) (s : List ℕ) {t : List ℕ} → n ≡ 0 → digits i n ++ drop i s ≡ t → drop i s ≡ t
ends i n s z e = ap (λ (l : List ℕ). l ++ drop i s) (sym (digits_zero i)) ∙ ap (λ (k : ℕ). digits i k ++ drop i s) (sym z) ∙ e
