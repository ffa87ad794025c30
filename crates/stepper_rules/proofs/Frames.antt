-- What a frame's bytes ask of a step-motor module, and what is told of it. Assumes nothing.
use mathlib.Core.Path.{◌≡◌, refl, sym, ap, subst, ◌∙◌}
use mathlib.Core.Logic.{◌⊎◌, inl, inr}
use mathlib.Core.List.{[], ◌∷◌}
use mathlib.Core.Bool.{Bool, true, false, cond, not, ◌&&◌, true≢false}
use Prim.Native.Nat.{ℕ, zero, suc, ◌+◌, ◌/◌, ◌<◌}
use native.Mathlib.Omega.{arith}
use borrow.Author.Tests.{ne_eqb, eq-eqb, eqb-true, eqb-false}
use lib.ListN.{length, get_or}
use lib.Dec.{eqb}
use Rattle.base_integers.specs.Bits as Bits
use Rattle.base_integers.specs.Bits.{is_set}
use Rattle.base_layout.proofs.Every.{every_hold}
use Rattle.base_layout.specs.Codec.{bit}
use Rattle.module_rules.specs.declared.Fault.TheVariants.{Count}
use Rattle.module_rules.specs.Commands.{asked}
use Rattle.module_rules.specs.Report as Report
use Rattle.module_rules.specs.Rules as AnyType
use Rattle.module_rules.specs.FramePromises.{undamaged}
use Rattle.module_rules.proofs.Frames as Every
use Rattle.stepper_rules.specs.declared.Halt.{Halt}
use Rattle.stepper_rules.specs.declared.Halt.TheVariants.{Keep, Abrupt, Smooth}
use Rattle.stepper_rules.specs.declared.Order.TheVariants.{Stop}
use Rattle.stepper_rules.specs.Carried.{needed}
use Rattle.stepper_rules.specs.Asks.{load_meant, parameters_meant, one_halt, stop_meant, own}
use Rattle.stepper_rules.specs.State.{is_moving}
use Rattle.stepper_rules.specs.Answers.{shows, stepper, request}
use Rattle.stepper_rules.specs.FramePromises.{NoneOf, stop_byte, ItemBits, Codes, Counts, Unknown, Told, PowersUp}
use Rattle.stepper_rules.proofs.Apart.{apart}
use Rattle.stepper_rules.proofs.Values.{is_speed_lem, no_speed, shown_items}

-- ---- the bytes of a Stop

-- P of each number below n
abbrev EachBelow : (ℕ → Type 0) → ℕ → Type 0
EachBelow P zero = Unit {0}
EachBelow P (suc n) = P n × EachBelow P n

each_below : (P : ℕ → Type 0) (n : ℕ) → EachBelow P n → (k : ℕ) → k < n → P k
each_below P zero h k l = absurd (omega arith)
each_below P (suc n) h k l = at (eqb k n) refl (each_below P n h.1 k)
  where
    at : (t : Bool) → eqb k n ≡ t → (k < n → P k) → P k
    at true e g = subst P (sym (eqb-true k n e)) h.0
    at false e g = let z : k ≡ n → ⊥ = eqb-false k n e in g (omega arith)

-- six bytes stop: each of the first sixteen does or is none of them
abbrev Stops : ℕ → Type 0
Stops c = one_halt c ≡ true → NoneOf c (0x00 ∷ 0x01 ∷ 0x04 ∷ 0x05 ∷ 0x08 ∷ 0x09 ∷ []) → ⊥

never : {A : Type 0} → false ≡ true → A
never e = absurd (true≢false (sym e))

six : EachBelow Stops 16
six = (
  λ e n. never e,
  (
    λ e n. never e,
    (
      λ e n. never e,
      (
        λ e n. never e,
        (
          λ e n. never e,
          (
            λ e n. never e,
            (
              λ e n. n.1.1.1.1.1.0 refl,
              (
                λ e n. n.1.1.1.1.0 refl,
                (
                  λ e n. never e,
                  (
                    λ e n. never e,
                    (
                      λ e n. n.1.1.1.0 refl,
                      (λ e n. n.1.1.0 refl, (λ e n. never e, (λ e n. never e, (λ e n. n.1.0 refl, (λ e n. n.0 refl, tt))))),
                    ),
                  ),
                ),
              ),
            ),
          ),
        ),
      ),
    ),
  ),
)

no_stop : (c : ℕ) → NoneOf c (0x00 ∷ 0x01 ∷ 0x04 ∷ 0x05 ∷ 0x08 ∷ 0x09 ∷ []) → one_halt c ≡ false
no_stop c n = at (one_halt c) refl
  where
    at : (t : Bool) → one_halt c ≡ t → t ≡ false
    at false e = refl
    at true e =
        let h = every_hold (not (is_set 2 c && is_set 3 c) ∷ not (is_set 1 c) ∷ eqb (c / 16) 0 ∷ []) e in
        let z : c / 16 ≡ 0 = eqb-true _ _ h.1.1.0 in
        absurd (each_below Stops 16 six c (omega arith) e n)

-- ---- codes, counts, values

pub codes : Codes
unfolding AnyType.request asked own parameters_meant stop_meant
codes to alone = record {
  address = λ a b. refl;
  defines = λ b e. rw e refl;
  reads = λ b e. rw e refl;
  not_defined = λ b e. rw e refl;
  not_read = λ b e. rw e refl;
  start = refl;
  parameters = λ mode v a b c l m. rw (is_speed_lem v l m) refl;
  no_minimum = λ mode v a b c h. rw (no_speed v h) refl;
  stop = stops;
  no_stop = λ c n. rw (no_stop c n) refl;
  baud = λ b. refl;
  baud_alone = λ ds. refl;
  no_op = refl;
  hard_reset = refl;
}
  where
    stops : (a : Bool) (h : Halt) → request (undamaged to 7 (stop_byte a h ∷ [])) alone ≡ AnyType.wants (Stop a h)
    stops true Keep = refl
    stops true Abrupt = refl
    stops true Smooth = refl
    stops false Keep = refl
    stops false Abrupt = refl
    stops false Smooth = refl

pub counts : Counts
unfolding AnyType.request asked own load_meant parameters_meant stop_meant
counts = record {
  load = λ alone to ds n. rw (ne_eqb (length ds) (needed (get_or ds 0 0)) n);
  start = λ alone to ds m n. Every.unread stepper apart Count to 5 ds alone m (rw (ne_eqb (length ds) 0 n));
  parameters = λ alone to ds m n. Every.unread stepper apart Count to 6 ds alone m (rw (ne_eqb (length ds) 5 n));
  stop = λ alone to ds m n. Every.unread stepper apart Count to 7 ds alone m (rw (ne_eqb (length ds) 1 n));
}

pub unknown : Unknown
unfolding AnyType.request asked own
unknown f alone h =
    rw (
      ne_eqb _ _ h.0,
      ne_eqb _ _ h.1.0,
      ne_eqb _ _ h.1.1.0,
      ne_eqb _ _ h.1.1.1.0,
      ne_eqb _ _ h.1.1.1.1.0,
      ne_eqb _ _ h.1.1.1.1.1.0,
      ne_eqb _ _ h.1.1.1.1.1.1.0,
      ne_eqb _ _ h.1.1.1.1.1.1.1.0,
      ne_eqb _ _ h.1.1.1.1.1.1.1.1.0,
      ne_eqb _ _ h.1.1.1.1.1.1.1.1.1.0,
    )

-- ---- what is told

items_shown : (b : ℕ) → (b ≡ 0x00) ⊎ ((b ≡ 0x01) ⊎ ((b ≡ 0x20) ⊎ (b ≡ 0x21))) → shows b ≡ true
items_shown b (inl e) = ap shows e
items_shown b (inr (inl e)) = ap shows e
items_shown b (inr (inr (inl e))) = ap shows e
items_shown b (inr (inr (inr e))) = ap shows e

pub item_bits : ItemBits
item_bits b = (shown_items b, items_shown b)

pub told : Told
told m = record {
  moving = λ h. ap (λ (t : Bool). Bits.bit 0 (bit (not t) + Report.cause_bit m.station.cause)) (ne_eqb m.motion.speed 0 (λ e. omega arith)) ∙ low true (eqb m.station.cause 0);
  still = λ e. ap (λ (t : Bool). Bits.bit 0 (bit (not t) + Report.cause_bit m.station.cause)) (eq-eqb m.motion.speed 0 e) ∙ low false (eqb m.station.cause 0);
  fine = λ e. ap (λ (t : Bool). Bits.bit 1 (bit (is_moving m.motion) + cond t 0 2)) (eq-eqb m.station.cause 0 e) ∙ high (is_moving m.motion) true;
  faulty = λ n. ap (λ (t : Bool). Bits.bit 1 (bit (is_moving m.motion) + cond t 0 2)) (ne_eqb m.station.cause 0 n) ∙ high (is_moving m.motion) false;
  others = small (is_moving m.motion) (eqb m.station.cause 0);
  position = refl;
  type_and_version = refl;
  long = refl;
  driven = refl;
}
  where
    low : (a b : Bool) → Bits.bit 0 (bit a + cond b 0 2) ≡ bit a
    low true true = refl
    low true false = refl
    low false true = refl
    low false false = refl

    high : (a b : Bool) → Bits.bit 1 (bit a + cond b 0 2) ≡ cond b 0 1
    high true true = refl
    high true false = refl
    high false true = refl
    high false false = refl

    small : (a b : Bool) → bit a + cond b 0 2 < 4
    small true true = omega arith
    small true false = omega arith
    small false true = omega arith
    small false false = omega arith

pub powers_up : PowersUp
powers_up = record {
  station = Every.powers_up;
  amplifier = refl;
  minimum = refl;
  place = refl;
  timer = refl;
  waits = refl;
  speed = refl;
  position = refl;
}
