-- What a frame that asks something of a step-motor module has: its code, its count, its bits. Assumes nothing.
use mathlib.Core.Path.{◌≡◌, refl, ap}
use mathlib.Core.Logic.{◌⊎◌, inl, inr}
use mathlib.Core.Bool.{Bool, true, false, cond, not, ◌||◌}
use Prim.Native.Nat.{ℕ}
use lib.ListN.{length, get_or}
use lib.Dec.{eqb}
use Rattle.base_integers.specs.Bits.{is_set}
use Rattle.line_receiver.specs.Frames.{Frame}
use Rattle.module_rules.specs.Rules.{Request, malformed, set, reset, wants}
use Rattle.module_rules.proofs.Settled.{Of, asks}
use Rattle.stepper_rules.specs.declared.Halt.{Halt}
use Rattle.stepper_rules.specs.declared.Halt.TheVariants.{Keep, Abrupt, Smooth}
use Rattle.stepper_rules.specs.declared.Order.{Order}
use Rattle.stepper_rules.specs.declared.Order.TheVariants.{LoadTrajectory, Start, SetParameters, Stop}
use Rattle.stepper_rules.specs.Carried.{needed, carried_in}
use Rattle.stepper_rules.specs.Asks.{load_meant, parameters_meant, halt_of, stop_meant}
use Rattle.stepper_rules.specs.Answers.{stepper, request}
use Rattle.stepper_rules.proofs.Asks.{own_means}

-- the codes that leave a waiting load, what runs and the minimum alone, whatever their data
abbrev pub spared : ℕ → Bool
spared c = not (eqb c 4 || eqb c 5 || eqb c 6 || eqb c 7 || eqb c 15)

-- the first data byte
abbrev pub first : Frame → ℕ
first f = get_or f.content 0 0

-- what is known of a frame by what it asks
abbrev pub Known : Frame → Request Order → Type 0
Known f (malformed x) = Unit {0}
Known f (set s) = spared f.code ≡ true
Known f reset = f.code ≡ 15
Known f (wants (LoadTrajectory c)) = ((f.code ≡ 4) × (length f.content ≡ needed (first f))) × (c ≡ carried_in f.content)
Known f (wants Start) = (f.code ≡ 5) × (length f.content ≡ 0)
Known f (wants (SetParameters v)) = (f.code ≡ 6) × (length f.content ≡ 5) × (v ≡ get_or f.content 1 0)
Known f (wants (Stop a h)) = (f.code ≡ 7) × (h ≡ halt_of (first f))

pub known : (f : Frame) (alone : Bool) → Known f (request f alone)
unfolding load_meant parameters_meant stop_meant
known f alone = asks stepper (Known f) f alone (record {
  malformed = λ x. tt;
  assign = λ c. ap spared c;
  define = λ c g. ap spared c;
  rate = λ c. ap spared c;
  nothing = either;
  reset = λ c. c;
  own = own_means (Of (λ (c : Order). Known f (wants c)) f.content) f.code f.content (record {
    unknown = tt;
    load = λ c n g. ((c, n), refl);
    start = λ c n g. (c, n);
    parameters = λ c n g. (c, n, refl);
    stop = λ c n g. (c, refl);
  });
})
  where
    either : (f.code ≡ 3) ⊎ (f.code ≡ 14) → spared f.code ≡ true
    either (inl c) = ap spared c
    either (inr c) = ap spared c

-- ---- Stop's kind by its bits

-- the kind of Stop says which of bits 2 and 3 is set
abbrev pub BitOf : Halt → Bool × Bool → Type 0
BitOf Keep b = (b.0 ≡ false) × (b.1 ≡ false)
BitOf Abrupt b = b.0 ≡ true
BitOf Smooth b = b.1 ≡ true

abbrev pub halt_bits : ℕ → Bool × Bool
halt_bits c = (is_set 2 c, is_set 3 c)

halt-bit : (a b : Bool) → BitOf (cond a Abrupt (cond b Smooth Keep)) (a, b)
halt-bit true b = refl
halt-bit false true = refl
halt-bit false false = (refl, refl)

pub halt_bits_lem : (control : ℕ) → BitOf (halt_of control) (halt_bits control)
halt_bits_lem control = halt-bit (is_set 2 control) (is_set 3 control)
