-- Whole numbers with a sign, as document 01 speaks of them in "Servo" and "Filter".
use Rattle.std.specs.Prelude.{ℕ, suc, ◌+◌, ◌-◌, ◌%◌, ◌^◌, Bool, cond, ◌&&◌, ℤ, pos, negsuc, neg_ℤ, int_le, nat_lt}

-- 01 Tick: of two numbers the one that is not above the other.
abbrev pub lesser : ℤ → ℤ → ℤ
lesser x y = cond (int_le x y) x y

-- 01 Tick: of two numbers the one that is not below the other.
abbrev pub greater : ℤ → ℤ → ℤ
greater x y = cond (int_le x y) y x

-- 01 Tick: whether two numbers are the same.
unfoldable pub same : ℤ → ℤ → Bool
same x y = int_le x y && int_le y x

-- 01 Servo: a number below 2 ^ 32 read as signed; from 2 ^ 31 on it stands for one below 0.
unfoldable pub signed : ℕ → ℤ
signed n = cond (nat_lt n (2 ^ 31)) (pos n) (neg_ℤ (pos (2 ^ 32 - n)))

-- 01 Servo: the 32 bits that stand for a whole number in two's complement.
unfoldable pub word : ℤ → ℕ
word (pos n) = n % 2 ^ 32
word (negsuc n) = 2 ^ 32 - suc (n % 2 ^ 32)

-- 01 Servo: one 32-bit number minus another, modulo 2 ^ 32.
abbrev pub less : ℕ → ℕ → ℕ
less x y = (x + (2 ^ 32 - y)) % 2 ^ 32

-- 01 Filter: the same, signed.
unfoldable pub difference : ℕ → ℕ → ℤ
difference x y = signed (less x y)
