-- The bytes of each kind of stop are that stop, and no others are one. Assumes nothing.
use mathlib.Core.Path.{◌≡◌, refl, sym, ap, ◌∙◌}
use mathlib.Core.Logic.{◌⊎◌, inl, inr}
use mathlib.Core.List.{List, [], ◌∷◌}
use mathlib.Core.Bool.{Bool, true, false, cond}
use Prim.Native.Nat.{ℕ, ◌+◌, ◌*◌, ◌/◌, ◌%◌, ◌<◌, ◌≤◌}
use native.Mathlib.Nat.{div-one}
use native.Mathlib.Omega.{arith}
use borrow.Author.Tests.{eqb-true, leb-true}
use lib.Count.{ones, ones_in, ones_step}
use lib.Dec.{eqb, leb}
use lib.ListN.{length}
use Rattle.base_integers.specs.Bits.{bit, is_set}
use Rattle.base_integers.proofs.Bits.{bit_half}
use Rattle.base_layout.specs.Bytes.{of_le}
use Rattle.base_layout.proofs.Every.{every_hold}
use Rattle.module_rules.specs.declared.Fault.TheVariants.{Count, Value}
use Rattle.module_rules.specs.Rules.{Request, malformed, wants}
use Rattle.servo_rules.specs.declared.Halt.{Halt}
use Rattle.servo_rules.specs.declared.Halt.TheVariants.{Keep, Release, Abrupt, Smooth, Here}
use Rattle.servo_rules.specs.declared.Order.{Order}
use Rattle.servo_rules.specs.declared.Order.TheVariants.{Stop}
use Rattle.servo_rules.specs.Asks.{halt_of, one_halt, stop_count, stop_meant}
use Rattle.servo_rules.specs.BytePromises.{stop_bit, behind, stop_bytes, stop_asks, StopBytes}
use Rattle.servo_rules.proofs.Keeping.{by_test}
use Rattle.servo_rules.proofs.LoadParts.{set-bit, unset_bit}
use Rattle.servo_rules.proofs.Taken.{stop_read}

abbrev Taken : Bool → Halt → List ℕ → Type 0
Taken a h x = stop_asks (stop_bytes a h x) ≡ wants (Stop a h (of_le x))

-- of a control byte alone, with and without the amplifier
either : (P : Bool → Type 0) → P true → P false → (a : Bool) → P a
either P t f true = t
either P t f false = f

alone : (h : Halt) → behind h ≡ 0 → (a : Bool) → Taken a h []
unfolding stop_meant halt_of ones ones_in
alone Keep e = either (λ (a : Bool). Taken a Keep []) refl refl
alone Release e = either (λ (a : Bool). Taken a Release []) refl refl
alone Abrupt e = either (λ (a : Bool). Taken a Abrupt []) refl refl
alone Smooth e = either (λ (a : Bool). Taken a Smooth []) refl refl
alone Here e = absurd (omega arith)

here : (b c d e : ℕ) (a : Bool) → Taken a Here (b ∷ c ∷ d ∷ e ∷ [])
unfolding stop_meant halt_of ones ones_in
here b c d e = either (λ (a : Bool). Taken a Here (b ∷ c ∷ d ∷ e ∷ [])) refl refl

-- lists by their length
of_none : (P : List ℕ → Type 0) → P [] → (x : List ℕ) → length x ≡ 0 → P x
of_none P h [] e = h
of_none P h (b ∷ x) e = absurd (omega arith)

of_four : (P : List ℕ → Type 0) → ((b c d e : ℕ) → P (b ∷ c ∷ d ∷ e ∷ [])) → (x : List ℕ) → length x ≡ 4 → P x
of_four P h [] q = absurd (omega arith)
of_four P h (b ∷ []) q = absurd (omega arith)
of_four P h (b ∷ c ∷ []) q = absurd (omega arith)
of_four P h (b ∷ c ∷ d ∷ []) q = absurd (omega arith)
of_four P h (b ∷ c ∷ d ∷ e ∷ []) q = h b c d e
of_four P h (b ∷ c ∷ d ∷ e ∷ f ∷ x) q = absurd (omega arith)

taken : (a : Bool) (h : Halt) (x : List ℕ) → length x ≡ behind h → Taken a h x
taken a Keep = of_none (Taken a Keep) (alone Keep refl a)
taken a Release = of_none (Taken a Release) (alone Release refl a)
taken a Abrupt = of_none (Taken a Abrupt) (alone Abrupt refl a)
taken a Smooth = of_none (Taken a Smooth) (alone Smooth refl a)
taken a Here = of_four (Taken a Here) (λ b c d e. here b c d e a)

-- bits are what halving leaves over
bit_0 : (n : ℕ) → bit 0 n ≡ n % 2
bit_0 n = omega (arith, div-one n)

bit_1 : (n : ℕ) → bit 1 n ≡ n / 2 % 2
bit_1 n = bit_half 0 n ∙ bit_0 (n / 2)

bit_2 : (n : ℕ) → bit 2 n ≡ n / 2 / 2 % 2
bit_2 n = bit_half 1 n ∙ bit_1 (n / 2)

bit_3 : (n : ℕ) → bit 3 n ≡ n / 2 / 2 / 2 % 2
bit_3 n = bit_half 2 n ∙ bit_2 (n / 2)

bit_4 : (n : ℕ) → bit 4 n ≡ n / 2 / 2 / 2 / 2 % 2
bit_4 n = bit_half 3 n ∙ bit_3 (n / 2)

-- a control byte below 32 is the sum of its bits, of which Stop takes at most one from 1 to 4
digits : (c : ℕ) → c < 32 → c ≡ bit 0 c + 2 * bit 1 c + 4 * bit 2 c + 8 * bit 3 c + 16 * bit 4 c
digits c h = rw (bit_0 c, bit_1 c, bit_2 c, bit_3 c, bit_4 c) (sum c h)
  where
    sum : (c : ℕ) → c < 32 → c ≡ c % 2 + 2 * (c / 2 % 2) + 4 * (c / 2 / 2 % 2) + 8 * (c / 2 / 2 / 2 % 2) + 16 * (c / 2 / 2 / 2 / 2 % 2)
    sum c h = omega arith

few : (c : ℕ) → c < 32 → ones (c / 2 % 16) ≤ 1 → bit 1 c + bit 2 c + bit 3 c + bit 4 c ≤ 1
few c h o =
    let same : c / 2 % 16 ≡ c / 2 = omega arith in
    rw (bit_1 c, bit_2 c, bit_3 c, bit_4 c) (four (c / 2) (omega arith) (rw (← same) o))
  where
    four : (n : ℕ) → n < 16 → ones n ≤ 1 → n % 2 + n / 2 % 2 + n / 2 / 2 % 2 + n / 2 / 2 / 2 % 2 ≤ 1
    four n h o = omega (arith, ones_step n, ones_step (n / 2), ones_step (n / 2 / 2), ones_step (n / 2 / 2 / 2))

-- what of it says which kind of stop, and how many bytes there are
record Kind (c : ℕ) (h : Halt) : Type 0 where
  whole : c ≡ stop_bit h + bit 0 c
  count : stop_count c ≡ 1 + behind h

module _ (c : ℕ) (small : c < 32) (single : bit 1 c + bit 2 c + bit 3 c + bit 4 c ≤ 1) where
  counts : (b : ℕ) → bit 4 c ≡ b → stop_count c ≡ cond (eqb b 1) 5 1
  counts b e = ap (λ (b : ℕ). cond (eqb b 1) 5 1) e

  by_bits_lem : (r s t u : Bool) → is_set 1 c ≡ r → is_set 2 c ≡ s → is_set 3 c ≡ t → is_set 4 c ≡ u
      → Kind c (cond r Release (cond s Abrupt (cond t Smooth (cond u Here Keep))))
  by_bits_lem true s t u p q v w = let one = eqb-true (bit 1 c) 1 p in record { whole = omega (arith, digits c small); count = counts 0 (omega arith) }
  by_bits_lem false true t u p q v w = let one = eqb-true (bit 2 c) 1 q in record { whole = omega (arith, digits c small); count = counts 0 (omega arith) }
  by_bits_lem false false true u p q v w = let one = eqb-true (bit 3 c) 1 v in record { whole = omega (arith, digits c small); count = counts 0 (omega arith) }
  by_bits_lem false false false true p q v w = let one = eqb-true (bit 4 c) 1 w in record { whole = omega (arith, digits c small); count = counts 1 one }
  by_bits_lem false false false false p q v w =
      let none = unset_bit 4 c w in
      record { whole = omega (arith, digits c small, unset_bit 1 c p, unset_bit 2 c q, unset_bit 3 c v); count = counts 0 none }

kind : (c : ℕ) → one_halt c ≡ true → Kind c (halt_of c)
unfolding halt_of
kind c o =
    let t = every_hold (leb (ones (c / 2 % 16)) 1 ∷ eqb (c / 32) 0 ∷ []) o in
    let z = eqb-true (c / 32) 0 t.1.0 in
    let small : c < 32 = omega arith in
    by_bits_lem c small (few c small (leb-true _ _ t.0)) (is_set 1 c) (is_set 2 c) (is_set 3 c) (is_set 4 c) refl refl refl refl

-- one of the two faults that a stop can have
abbrev Faulty : Request Order → Type 0
Faulty q = (q ≡ malformed Count) ⊎ (q ≡ malformed Value)

others : (ds : List ℕ) → ((a : Bool) (h : Halt) (x : List ℕ) → length x ≡ behind h → ds ≡ stop_bytes a h x → ⊥) → Faulty (stop_asks ds)
unfolding stop_meant
others [] n = inl refl
others (c ∷ x) n =
    by_test Faulty (eqb (length (c ∷ x)) (stop_count c)) _ (malformed Count)
    (λ e.
    by_test Faulty (one_halt c) _ (malformed Value)
    (λ o.
    let k = kind c o in
    absurd (n (is_set 0 c) (halt_of c) x
    (omega (arith, eqb-true (length (c ∷ x)) (stop_count c) e, k.count))
    (ap (λ (b : ℕ). b ∷ x) (k.whole ∙ ap (λ (b : ℕ). stop_bit (halt_of c) + b) (sym (set-bit 0 c 1 ∙ omega arith))))))
    (λ o. inr refl))
    (λ e. inl refl)

-- how many bytes stand behind the control byte, by bit 4
with_here : (c : ℕ) → is_set 4 c ≡ true → stop_count c ≡ 5
with_here c e = rw e refl

without_here : (c : ℕ) → is_set 4 c ≡ false → stop_count c ≡ 1
without_here c e = rw e refl

pub stop_bytes_lem : StopBytes
stop_bytes_lem = record {
  taken = taken;
  others = others;
  none = (stop_read []).count (λ e. omega arith);
  here_count = λ c x b n. (stop_read (c ∷ x)).count (λ e. n (omega (arith, with_here c b)));
  here_value = λ c x b n v. (stop_read (c ∷ x)).value (omega (arith, with_here c b)) v;
  other_count = λ c x b n. (stop_read (c ∷ x)).count (λ e. n (omega (arith, without_here c b)));
  other_value = λ c b v. (stop_read (c ∷ [])).value (omega (arith, without_here c b)) v;
}
