-- A layout of bytes: how many a value takes, which they are, the value that bytes hold from a place on, the tests that valid bytes pass, and
-- which values can be written. A struct's layout is put together from its fields' layouts, field by field.
use Rattle.std.specs.Prelude.{◌≡◌, ℕ, suc, ◌+◌, ◌*◌, ◌^◌, ◌<◌, ◌≤◌, List, [], ◌∷◌, ◌++◌, Bool, true, false, get_or, length, leb, eqb, ℤ}
use Rattle.base_integers.specs.Whole.{signed, word}
use Rattle.base_layout.specs.Every.{every}
use Rattle.base_layout.specs.Bytes.{le, of_le, read_at, Bytes}

pub record Codec (A : Type 0) : Type 1 where
  pub size : ℕ
  pub enc : A → List ℕ
  pub dec : ℕ → List ℕ → A
  pub tests : ℕ → List ℕ → List Bool
  pub fits : A → Type 0

-- a byte
abbrev pub byte : Codec ℕ
byte = record { size = 1; enc = λ x. x ∷ []; dec = λ at s. get_or s at 0; tests = λ at s. []; fits = λ x. x < 256 }

-- a byte that is at most m
abbrev pub capped : ℕ → Codec ℕ
capped m = record {
  size = 1;
  enc = λ x. x ∷ [];
  dec = λ at s. get_or s at 0;
  tests = λ at s. leb (get_or s at 0) m ∷ [];
  fits = λ x. (x < 256) × (x ≤ m);
}

-- the byte c, which tells what follows and holds nothing
abbrev pub stamp : ℕ → Codec (Unit {0})
stamp c = record {
  size = 1;
  enc = λ x. c ∷ [];
  dec = λ at s. tt;
  tests = λ at s. eqb (get_or s at 0) c ∷ [];
  fits = λ x. Unit {0};
}

-- k bytes as they are
abbrev pub raw : ℕ → Codec (List ℕ)
raw k = record {
  size = k;
  enc = λ xs. read_at k 0 xs;
  dec = λ at s. read_at k at s;
  tests = λ at s. [];
  fits = λ xs. (length xs ≡ k) × Bytes xs;
}

-- a number of k bytes
abbrev pub number : ℕ → Codec ℕ
number k = record { size = k; enc = le k; dec = λ at s. of_le (read_at k at s); tests = λ at s. []; fits = λ x. x < 256 ^ k }

-- a whole number of four bytes, in two's complement
abbrev pub whole : Codec ℤ
whole = record {
  size = 4;
  enc = λ z. le 4 (word z);
  dec = λ at s. signed (of_le (read_at 4 at s));
  tests = λ at s. [];
  fits = λ z. signed (word z) ≡ z;
}

-- a number of two bytes of which the upper one is at most m
abbrev pub topped : ℕ → Codec ℕ
topped m = record {
  size = 2;
  enc = le 2;
  dec = λ at s. of_le (read_at 2 at s);
  tests = λ at s. leb (get_or s (at + 1) 0) m ∷ [];
  fits = λ x. (x < 65536) × (x < 256 * suc m);
}

-- one of the values with the bytes 0 to m
abbrev pub one_of : {A : Type 0} → ℕ → (A → ℕ) → (ℕ → A) → Codec A
one_of m to from = record {
  size = 1;
  enc = λ x. to x ∷ [];
  dec = λ at s. from (get_or s at 0);
  tests = λ at s. leb (get_or s at 0) m ∷ [];
  fits = λ x. Unit {0};
}

abbrev pub bit : Bool → ℕ
bit true = 1
bit false = 0

-- a flag: 0 or 1
abbrev pub flag : Codec Bool
flag = one_of 1 bit (λ b. eqb b 1)

-- one thing and then another
infixr 40 ◌then◌
abbrev pub ◌then◌ : {A B : Type 0} → Codec A → Codec B → Codec (A × B)
a then b = record {
  size = a.size + b.size;
  enc = λ x. a.enc x.0 ++ b.enc x.1;
  dec = λ at s. (a.dec at s, b.dec (at + a.size) s);
  tests = λ at s. a.tests at s ++ b.tests (at + a.size) s;
  fits = λ x. a.fits x.0 × b.fits x.1;
}

-- the same bytes for another type
abbrev pub shaped : {A B : Type 0} → (A → B) → (B → A) → Codec A → Codec B
shaped to from a = record {
  size = a.size;
  enc = λ x. a.enc (from x);
  dec = λ at s. to (a.dec at s);
  tests = a.tests;
  fits = λ x. a.fits (from x);
}

-- the same bytes with one more test, on the value
abbrev pub such : {A : Type 0} → (A → Bool) → Codec A → Codec A
such ok a = record {
  size = a.size;
  enc = a.enc;
  dec = a.dec;
  tests = λ at s. a.tests at s ++ ok (a.dec at s) ∷ [];
  fits = λ x. a.fits x × (ok x ≡ true);
}

-- whether a list holds valid bytes of a layout from its start on
abbrev pub ok_in : {A : Type 0} → Codec A → List ℕ → Bool
ok_in a s = every (a.tests 0 s)
