-- A layout is lawful if valid bytes come back from the value that they hold, which can be written, and a value that can be written comes back
-- from its valid bytes. Each layout of `specs/Codec.antt` is, and a struct's is if its fields' are. Assumes nothing.
use mathlib.Core.Path.{◌≡◌, refl, sym, ap, ap₂, ◌∙◌, subst⁻¹}
use mathlib.Core.List.{List, [], ◌∷◌, ◌++◌, append_assoc}
use mathlib.Core.Bool.{Bool, true, false}
use Prim.Native.Nat.{ℕ, zero, suc, ◌+◌, ◌/◌, ◌%◌, ◌^◌, ◌<◌, ◌≤◌}
use native.Mathlib.Omega.{arith}
use lib.ListN.{length, get_or, take, length-append}
use lib.Seq.{get_or-append_seam, take_all, append_snoc}
use lib.Dec.{eqb}
use borrow.Author.Tests.{leb-true, le-leb, eqb-true, eq-eqb}
use Rattle.base_integers.specs.Whole.{signed, word}
use Rattle.base_integers.proofs.Words.{word_lt, word-signed}
use Rattle.base_layout.specs.Bytes.{le, of_le, read_at, Bytes}
use Rattle.base_layout.specs.Codec.{Codec, byte, stamp, raw, number, whole, capped, topped, one_of, bit, flag, ◌then◌, shaped, such, ok_in}
use Rattle.base_layout.proofs.Every.{Hold, hold_left, hold_right, hold_both, every_hold, hold_every}
use Rattle.base_layout.proofs.Laws.{length-le, bytes_le, bytes_one, bytes_append, le-of_le, of_le-le, of_le_lt, read_at_part, length_read, bytes_read, read_add, read_back}

pub record Lawful {A : Type 0} (a : Codec A) : Type 0 where
  pub length_enc : (x : A) → length (a.enc x) ≡ a.size
  pub there : (at : ℕ) (s : List ℕ) → Bytes s → Hold (a.tests at s) → a.enc (a.dec at s) ≡ read_at a.size at s
  pub sound : (at : ℕ) (s : List ℕ) → Bytes s → Hold (a.tests at s) → a.fits (a.dec at s)
  pub back : (x : A) (p q : List ℕ) → a.fits x → a.dec (length p) (p ++ a.enc x ++ q) ≡ x
  pub valid : (x : A) (p q : List ℕ) → a.fits x → Hold (a.tests (length p) (p ++ a.enc x ++ q))
  pub bytes : (x : A) → a.fits x → Bytes (a.enc x)

number_there : (k at : ℕ) (s : List ℕ) → Bytes s → le k (of_le (read_at k at s)) ≡ read_at k at s
number_there k at s h = rw (length_read k at s) at (le-of_le (read_at k at s) (bytes_read k at s h))

number-sound : (k at : ℕ) (s : List ℕ) → Bytes s → of_le (read_at k at s) < 256 ^ k
number-sound k at s h = rw (length_read k at s) at (of_le_lt (read_at k at s) (bytes_read k at s h))

number-back : (k x : ℕ) (p q : List ℕ) → x < 256 ^ k → of_le (read_at k (length p) (p ++ le k x ++ q)) ≡ x
number-back k x p q h = ap of_le (rw (length-le k x) at (read_back (le k x) p q)) ∙ of_le-le k x h

byte-back : (x : ℕ) (p q : List ℕ) → get_or (p ++ (x ∷ []) ++ q) (length p) 0 ≡ x
byte-back x p q = rw (append_snoc p x q) (get_or-append_seam p x q 0)

pub byte_lawful : Lawful byte
byte_lawful = record {
  length_enc = λ x. refl;
  there = λ at s h t. refl;
  sound = λ at s h t. h at;
  back = λ x p q f. byte-back x p q;
  valid = λ x p q f. tt;
  bytes = bytes_one;
}

pub capped_lawful : (m : ℕ) → Lawful (capped m)
capped_lawful m = record {
  length_enc = λ x. refl;
  there = λ at s h t. refl;
  sound = λ at s h t. (h at, leb-true _ _ t.0);
  back = λ x p q f. byte-back x p q;
  valid = λ x p q f. (rw (byte-back x p q) (le-leb _ _ f.1), tt);
  bytes = λ x f. bytes_one x f.0;
}

pub stamp_lawful : (c : ℕ) → c < 256 → Lawful (stamp c)
stamp_lawful c small = record {
  length_enc = λ x. refl;
  there = λ at s h t. ap (λ (n : ℕ). n ∷ []) (sym (eqb-true (get_or s at 0) c t.0));
  sound = λ at s h t. tt;
  back = λ x p q f. refl;
  valid = λ x p q f. (eq-eqb _ _ (byte-back c p q), tt);
  bytes = λ x f. bytes_one c small;
}

read_all : (k : ℕ) (xs : List ℕ) → length xs ≡ k → read_at k 0 xs ≡ xs
read_all k xs e = read_at_part k 0 xs (omega arith) ∙ take_all k xs (omega arith)

pub raw_lawful : (k : ℕ) → Lawful (raw k)
raw_lawful k = record {
  length_enc = λ xs. length_read k 0 xs;
  there = λ at s h t. read_all k (read_at k at s) (length_read k at s);
  sound = λ at s h t. (length_read k at s, bytes_read k at s h);
  back = λ xs p q f.
      rw (read_all k xs f.0) (rw f.0 at (read_back xs p q));
  valid = λ x p q f. tt;
  bytes = λ xs f. bytes_read k 0 xs f.1;
}

pub number_lawful : (k : ℕ) → Lawful (number k)
number_lawful k = record {
  length_enc = length-le k;
  there = λ at s h t. number_there k at s h;
  sound = λ at s h t. number-sound k at s h;
  back = number-back k;
  valid = λ x p q f. tt;
  bytes = λ x f. bytes_le k x;
}

pub whole_lawful : Lawful whole
whole_lawful = record {
  length_enc = λ z. length-le 4 (word z);
  there = λ at s h t. ap (le 4) (word-signed (of_le (read_at 4 at s)) (number-sound 4 at s h)) ∙ number_there 4 at s h;
  sound = λ at s h t. ap signed (word-signed (of_le (read_at 4 at s)) (number-sound 4 at s h));
  back = λ z p q f. ap signed (number-back 4 (word z) p q (word_lt z)) ∙ f;
  valid = λ z p q f. tt;
  bytes = λ z f. bytes_le 4 (word z);
}

upper_byte : (x : ℕ) (p q : List ℕ) → get_or (p ++ le 2 x ++ q) (length p + 1) 0 ≡ x / 256 % 256
upper_byte x p q = ap (λ (l : List ℕ). get_or l 1 0) (read_back (le 2 x) p q)

pub topped_lawful : (m : ℕ) → Lawful (topped m)
topped_lawful m = record {
  length_enc = length-le 2;
  there = λ at s h t. number_there 2 at s h;
  sound = λ at s h t. (number-sound 2 at s h, omega (arith, leb-true (get_or s (at + 1) 0) m t.0, h at));
  back = λ x p q f. number-back 2 x p q f.0;
  valid = λ x p q f. (le-leb (get_or (p ++ le 2 x ++ q) (length p + 1) 0) m (omega (arith, upper_byte x p q, f.0, f.1)), tt);
  bytes = λ x f. bytes_le 2 x;
}

module _ {A : Type 0} (m : ℕ) (small : m < 256) (to : A → ℕ) (from : ℕ → A) (most : (x : A) → to x ≤ m) (from-to : (x : A) → from (to x) ≡ x)
    (to-from : (n : ℕ) → n ≤ m → to (from n) ≡ n) where
  pub one_of_lawful : Lawful (one_of m to from)
  one_of_lawful = record {
    length_enc = λ x. refl;
    there = λ at s h t. ap (λ (n : ℕ). n ∷ []) (to-from (get_or s at 0) (leb-true _ _ t.0));
    sound = λ at s h t. tt;
    back = λ x p q f. ap from (byte-back (to x) p q) ∙ from-to x;
    valid = λ x p q f. (rw (byte-back (to x) p q) (le-leb _ _ (most x)), tt);
    bytes = λ x f. bytes_one (to x) (omega (arith, most x));
  }

bit_most : (b : Bool) → bit b ≤ 1
bit_most true = omega arith
bit_most false = omega arith

bit-back : (b : Bool) → eqb (bit b) 1 ≡ b
bit-back true = refl
bit-back false = refl

bit_there : (n : ℕ) → n ≤ 1 → bit (eqb n 1) ≡ n
bit_there zero h = refl
bit_there (suc zero) h = refl
bit_there (suc (suc n)) h = let z : ⊥ = omega arith in absurd z

pub flag_lawful : Lawful flag
flag_lawful = one_of_lawful 1 (omega arith) bit (λ b. eqb b 1) bit_most bit-back bit_there

first : (p x y q : List ℕ) → p ++ (x ++ y) ++ q ≡ p ++ x ++ (y ++ q)
first p x y q = simp append_assoc

second : (p x y q : List ℕ) → p ++ (x ++ y) ++ q ≡ (p ++ x) ++ y ++ q
second p x y q = simp append_assoc

module _ {A B : Type 0} {a : Codec A} {b : Codec B} where
  pub then_lawful : Lawful a → Lawful b → Lawful (a then b)
  then_lawful la lb =
      let place : (x : A × B) (p : List ℕ) → length p + a.size ≡ length (p ++ a.enc x.0) =
      λ x p. ap (λ (n : ℕ). length p + n) (sym (la.length_enc x.0)) ∙ sym (length-append p (a.enc x.0)) in
      record {
        length_enc = λ x. length-append (a.enc x.0) (b.enc x.1) ∙ ap₂ ◌+◌ (la.length_enc x.0) (lb.length_enc x.1);
        there = λ at s h t.
            ap₂ ◌++◌ (la.there at s h (hold_left (a.tests at s) (b.tests (at + a.size) s) t))
            (lb.there (at + a.size) s h (hold_right (a.tests at s) (b.tests (at + a.size) s) t))
            ∙ sym (read_add a.size b.size at s);
        sound = λ at s h t. (
          la.sound at s h (hold_left (a.tests at s) (b.tests (at + a.size) s) t),
          lb.sound (at + a.size) s h (hold_right (a.tests at s) (b.tests (at + a.size) s) t),
        );
        back = λ x p q f.
            ap₂ (λ (u : A) (v : B). (u, v))
            (rw (first p (a.enc x.0) (b.enc x.1) q) (la.back x.0 p (b.enc x.1 ++ q) f.0))
            (rw (second p (a.enc x.0) (b.enc x.1) q, place x p) (lb.back x.1 (p ++ a.enc x.0) q f.1));
        valid = λ x p q f.
            hold_both (a.tests (length p) (p ++ (a.enc x.0 ++ b.enc x.1) ++ q)) (b.tests (length p + a.size) (p ++ (a.enc x.0 ++ b.enc x.1) ++ q))
            (rw (first p (a.enc x.0) (b.enc x.1) q) (la.valid x.0 p (b.enc x.1 ++ q) f.0))
            (rw (second p (a.enc x.0) (b.enc x.1) q, place x p) (lb.valid x.1 (p ++ a.enc x.0) q f.1));
        bytes = λ x f. bytes_append (a.enc x.0) (b.enc x.1) (la.bytes x.0 f.0) (lb.bytes x.1 f.1);
      }

module _ {A B : Type 0} {a : Codec A} where
  pub shaped_lawful : Lawful a → (to : A → B) (from : B → A) → ((x : A) → from (to x) ≡ x) → ((y : B) → to (from y) ≡ y) → Lawful (shaped to from a)
  shaped_lawful la to from ft tf = record {
    length_enc = λ y. la.length_enc (from y);
    there = λ at s h t. ap a.enc (ft (a.dec at s)) ∙ la.there at s h t;
    sound = λ at s h t. subst⁻¹ a.fits (ft (a.dec at s)) (la.sound at s h t);
    back = λ y p q f. ap to (la.back (from y) p q f) ∙ tf y;
    valid = λ y p q f. la.valid (from y) p q f;
    bytes = λ y f. la.bytes (from y) f;
  }

module _ {A : Type 0} {a : Codec A} where
  pub such_lawful : Lawful a → (ok : A → Bool) → Lawful (such ok a)
  such_lawful la ok = record {
    length_enc = la.length_enc;
    there = λ at s h t. la.there at s h (hold_left (a.tests at s) (ok (a.dec at s) ∷ []) t);
    sound = λ at s h t. (
      la.sound at s h (hold_left (a.tests at s) (ok (a.dec at s) ∷ []) t),
      (hold_right (a.tests at s) (ok (a.dec at s) ∷ []) t).0,
    );
    back = λ x p q f. la.back x p q f.0;
    valid = λ x p q f.
        hold_both (a.tests (length p) (p ++ a.enc x ++ q)) (ok (a.dec (length p) (p ++ a.enc x ++ q)) ∷ []) (la.valid x p q f.0)
        (ap ok (la.back x p q f.0) ∙ f.1, tt);
    bytes = λ x f. la.bytes x f.0;
  }

-- of a list that begins with the value's bytes
module _ {A : Type 0} {a : Codec A} (la : Lawful a) where
  pub head_there : (s : List ℕ) → a.size ≤ length s → Bytes s → ok_in a s ≡ true → a.enc (a.dec 0 s) ≡ take a.size s
  head_there s e h v = la.there 0 s h (every_hold (a.tests 0 s) v) ∙ read_at_part a.size 0 s (omega arith)

  pub head_sound : (s : List ℕ) → Bytes s → ok_in a s ≡ true → a.fits (a.dec 0 s)
  head_sound s h v = la.sound 0 s h (every_hold (a.tests 0 s) v)

  pub head_back : (x : A) (q : List ℕ) → a.fits x → a.dec 0 (a.enc x ++ q) ≡ x
  head_back x q f = la.back x [] q f

  pub head_valid : (x : A) (q : List ℕ) → a.fits x → ok_in a (a.enc x ++ q) ≡ true
  head_valid x q f = hold_every (a.tests 0 (a.enc x ++ q)) (la.valid x [] q f)
