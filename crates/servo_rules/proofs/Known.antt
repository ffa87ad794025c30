-- What a frame that asks something of a servo has: its code, its count, its bits. Assumes nothing.
use mathlib.Core.Path.{◌≡◌, refl, ap}
use mathlib.Core.Logic.{◌⊎◌, inl, inr}
use mathlib.Core.Bool.{Bool, true, false, cond, not, ◌||◌}
use Prim.Native.Nat.{ℕ}
use lib.ListN.{length, get_or}
use lib.Dec.{eqb}
use Rattle.base_integers.specs.Bits.{is_set}
use Rattle.base_layout.specs.Bytes.{of_le, read_at}
use Rattle.line_receiver.specs.Frames.{Frame}
use Rattle.module_rules.specs.Rules.{Request, malformed, set, reset, wants}
use Rattle.module_rules.proofs.Settled.{Of, asks}
use Rattle.servo_rules.specs.declared.Halt.{Halt}
use Rattle.servo_rules.specs.declared.Halt.TheVariants.{Keep, Release, Abrupt, Smooth, Here}
use Rattle.servo_rules.specs.declared.Order.{Order}
use Rattle.servo_rules.specs.declared.Order.TheVariants.{ResetPosition, LoadTrajectory, Start, SetGain, Stop, SetHoming, ClearBits}
use Rattle.servo_rules.specs.Carried.{needed, carried_in}
use Rattle.servo_rules.specs.Asks.{load_meant, gain_meant, halt_of, one_halt, stop_count, stop_meant}
use Rattle.servo_rules.specs.Homing.{good_byte}
use Rattle.servo_rules.specs.Answers.{servo, request}
use Rattle.servo_rules.proofs.Asks.{own_means}

-- the codes that leave a waiting load, what runs and the amplifier bit alone, whatever their data
abbrev pub spared : ℕ → Bool
spared c = not (eqb c 0 || eqb c 4 || eqb c 5 || eqb c 7 || eqb c 15)

-- the first data byte
abbrev pub first : Frame → ℕ
first f = get_or f.content 0 0

-- what is known of a frame by what it asks
abbrev pub Known : Frame → Request Order → Type 0
Known f (malformed x) = Unit {0}
Known f (set s) = spared f.code ≡ true
Known f reset = f.code ≡ 15
Known f (wants ResetPosition) = f.code ≡ 0
Known f (wants (LoadTrajectory c)) = ((f.code ≡ 4) × (length f.content ≡ needed (first f))) × (c ≡ carried_in f.content)
Known f (wants Start) = (f.code ≡ 5) × (length f.content ≡ 0)
Known f (wants (SetGain t)) = spared f.code ≡ true
Known f (wants (Stop a h x)) =
    (f.code ≡ 7)
    × (h ≡ halt_of (first f))
    × (x ≡ of_le (read_at 4 1 f.content))
    × (length f.content ≡ stop_count (first f))
    × (a ≡ is_set 0 (first f))
    × (one_halt (first f) ≡ true)
Known f (wants (SetHoming b)) =
    (f.code ≡ 9) × (b ≡ first f) × (length f.content ≡ 1) × (good_byte (first f) ≡ true)
Known f (wants ClearBits) = spared f.code ≡ true

pub known : (f : Frame) (alone : Bool) → Known f (request f alone)
unfolding load_meant gain_meant stop_meant
known f alone = asks servo (Known f) f alone (record {
  malformed = λ x. tt;
  assign = λ c. ap spared c;
  define = λ c g. ap spared c;
  rate = λ c. ap spared c;
  nothing = either;
  reset = λ c. c;
  own = own_means (Of (λ (c : Order). Known f (wants c)) f.content) f.code f.content (record {
    unknown = tt;
    reset_position = λ c n g. c;
    load = λ c n g. ((c, n), refl);
    start = λ c n g. (c, n);
    gain = λ c n g. ap spared c;
    stop = λ c n g. (c, refl, refl, n, refl, g);
    homing = λ c n g. (c, refl, n, g);
    clear_bits = λ c n g. ap spared c;
  });
})
  where
    either : (f.code ≡ 3) ⊎ (f.code ≡ 14) → spared f.code ≡ true
    either (inl c) = ap spared c
    either (inr c) = ap spared c

-- ---- Stop's kind by its bits

-- the kind of Stop says which bit is set
abbrev pub BitOf : Halt → (Bool × Bool) × (Bool × Bool) → Type 0
BitOf Keep b = (b.0.0 ≡ false) × (b.0.1 ≡ false) × (b.1.0 ≡ false) × (b.1.1 ≡ false)
BitOf Release b = b.0.0 ≡ true
BitOf Abrupt b = b.0.1 ≡ true
BitOf Smooth b = b.1.0 ≡ true
BitOf Here b = b.1.1 ≡ true

abbrev pub halt_bits : ℕ → (Bool × Bool) × (Bool × Bool)
halt_bits c = ((is_set 1 c, is_set 2 c), (is_set 3 c, is_set 4 c))

halt-bit : (a b c d : Bool) → BitOf (cond a Release (cond b Abrupt (cond c Smooth (cond d Here Keep)))) ((a, b), (c, d))
halt-bit true b c d = refl
halt-bit false true c d = refl
halt-bit false false true d = refl
halt-bit false false false true = refl
halt-bit false false false false = (refl, refl, refl, refl)

pub halt_bits_lem : (control : ℕ) → BitOf (halt_of control) (halt_bits control)
unfolding halt_of
halt_bits_lem control = halt-bit (is_set 1 control) (is_set 2 control) (is_set 3 control) (is_set 4 control)
