-- The ranges of what frames carry, by value and by the bytes that hold it. Assumes nothing.
use mathlib.Core.Path.{◌≡◌, refl, sym, ap, ap₂, ◌∙◌}
use mathlib.Core.List.{List, [], ◌∷◌}
use mathlib.Core.Bool.{Bool, true, false, not, cond, ◌&&◌, ◌||◌}
use Prim.Native.Nat.{ℕ, zero, suc, ◌+◌, ◌/◌, ◌%◌, ◌^◌, ◌<◌, ◌≤◌}
use native.Mathlib.Nat.{div-one}
use native.Mathlib.Omega.{arith}
use borrow.Author.Tests.{eqb-true, leb-true, le-leb, ne_eqb}
use lib.Count.{ones, ones_step}
use lib.ListN.{get_or}
use lib.Dec.{eqb, leb}
use Rattle.base_integers.specs.Bits.{bit, is_set}
use Rattle.base_integers.proofs.Bits.{bit_half}
use Rattle.base_layout.specs.Bytes.{of_le, read_at, Bytes}
use Rattle.base_layout.proofs.Laws.{of_le_lt, bytes_read}
use Rattle.base_layout.proofs.Every.{every_hold}
use Rattle.servo_motion.specs.Profile.{fastest}
use Rattle.servo_rules.specs.Carried.{carried_in, in_range}
use Rattle.servo_rules.specs.Asks.{gains_in, gains_fit}
use Rattle.servo_rules.specs.AskPromises.{LoadRange, GainRange, OneHalt, Fit}

pub load_range : LoadRange
unfolding in_range
load_range c = (
  λ h.
      let t = every_hold (leb c.velocity fastest ∷ leb c.acceleration fastest ∷ (not (is_set 2 c.control) || leb 1 c.acceleration) ∷ []) h in
      (leb-true _ _ t.0, leb-true _ _ t.1.0, λ e. leb-true 1 _ (ap (λ (s : Bool). not s || leb 1 c.acceleration) (sym e) ∙ t.1.1.0)),
  λ r. ap₂ ◌&&◌ (ap₂ ◌&&◌ (le-leb _ _ r.0) (le-leb _ _ r.1)) (carried (is_set 2 c.control) r.2),
)
  where
    carried : (s : Bool) → (s ≡ true → 1 ≤ c.acceleration) → (not s || leb 1 c.acceleration) ≡ true
    carried true h = le-leb _ _ (h refl)
    carried false h = refl

pub gain_range : GainRange
unfolding gains_fit
gain_range g = (
  λ h.
      let t = every_hold (leb g.kp 32767 ∷ leb g.kd 32767 ∷ leb g.ki 32767 ∷ leb g.il 32767 ∷ leb g.el 16383 ∷ []) h in
      record { kp = leb-true _ _ t.0; kd = leb-true _ _ t.1.0; ki = leb-true _ _ t.1.1.0; il = leb-true _ _ t.1.1.1.0; el = leb-true _ _ t.1.1.1.1.0 },
  λ r. ap₂ ◌&&◌ (ap₂ ◌&&◌ (ap₂ ◌&&◌ (ap₂ ◌&&◌ (le-leb _ _ r.kp) (le-leb _ _ r.kd)) (le-leb _ _ r.ki)) (le-leb _ _ r.il)) (le-leb _ _ r.el),
)

one_bit : (k n : ℕ) → bit k n ≤ ones n
one_bit zero n = omega (arith, div-one n, ones_step n)
one_bit (suc k) n = omega (arith, bit_half k n, one_bit k (n / 2), ones_step n)

two_bits : (j k n : ℕ) → j < k → bit j n + bit k n ≤ ones n
two_bits j zero n l = omega arith
two_bits zero (suc k) n l = omega (arith, div-one n, bit_half k n, one_bit k (n / 2), ones_step n)
two_bits (suc j) (suc k) n l = omega (arith, bit_half j n, bit_half k n, two_bits j k (n / 2) (omega arith), ones_step n)

pub one_halt_lem : OneHalt
one_halt_lem control h =
    let t = every_hold (leb (ones (control / 2 % 16)) 1 ∷ eqb (control / 32) 0 ∷ []) h in
    let z = eqb-true (control / 32) 0 t.1.0 in
    let same : control / 2 % 16 ≡ control / 2 = omega arith in
    let few : ones (control / 2) ≤ 1 = rw (← same) (leb-true _ _ t.0) in
    record { small = omega arith; single = single few }
  where
    single : ones (control / 2) ≤ 1 → (j k : ℕ) → 1 ≤ j → j < k → k ≤ 4 → is_set j control ≡ true → is_set k control ≡ false
    single few zero k p l u e = absurd (omega arith)
    single few (suc j) zero p l u e = absurd (omega arith)
    single few (suc j) (suc k) p l u e =
        ne_eqb _ _ (λ (s : bit (suc k) control ≡ 1). omega (arith, eqb-true (bit (suc j) control) 1 e, bit_half j control, bit_half k control, two_bits j k (control / 2) (omega arith)))

-- numbers in four and in two bytes
four : (at : ℕ) (ds : List ℕ) → Bytes ds → of_le (read_at 4 at ds) < 2 ^ 32
four at ds b = of_le_lt (read_at 4 at ds) (bytes_read 4 at ds b)

two : (at : ℕ) (ds : List ℕ) → Bytes ds → of_le (read_at 2 at ds) < 65536
two at ds b = of_le_lt (read_at 2 at ds) (bytes_read 2 at ds b)

-- carried or 0
or_none : (n : ℕ) (t : Bool) (x : ℕ) → 0 < n → x < n → cond t x 0 < n
or_none n true x z h = h
or_none n false x z h = z

pub fit : Fit
unfolding carried_in gains_in
fit ds b =
    let c : ℕ = get_or ds 0 0 in
    record {
      control = b _;
      place = or_none (2 ^ 32) (is_set 0 c) _ (omega arith) (four _ ds b);
      velocity = or_none (2 ^ 32) (is_set 1 c) _ (omega arith) (four _ ds b);
      acceleration = or_none (2 ^ 32) (is_set 2 c) _ (omega arith) (four _ ds b);
      pulse = or_none 256 (is_set 3 c) _ (omega arith) (b _);
      kp = two _ ds b;
      kd = two _ ds b;
      ki = two _ ds b;
      il = two _ ds b;
      ol = b _;
      el = two _ ds b;
      cl = b _;
      sm = b _;
      halt = four 1 ds b;
    }
