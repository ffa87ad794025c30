-- What a frame's bytes ask of an I/O module and do to it, its items, and its power-up. Assumes nothing.
use mathlib.Core.Path.{◌≡◌, refl, sym, ap, ◌∙◌}
use mathlib.Core.List.{[], ◌∷◌}
use Prim.Native.Nat.{ℕ, zero, suc, ◌+◌, ◌*◌, ◌-◌, ◌/◌, ◌%◌, ◌^◌, ◌<◌}
use native.Mathlib.Nat.{two-pow-succ}
use native.Mathlib.Omega.{arith}
use borrow.Author.Tests.{ne_eqb}
use lib.ListN.{length}
use lib.Bits.{block_half, block_odd}
use lib.Pow.{pow_pos, shr-shr}
use Rattle.base_integers.specs.Bits.{bit}
use Rattle.base_integers.proofs.Bits.{bit_half}
use Rattle.module_rules.specs.declared.Fault.TheVariants.{Count}
use Rattle.module_rules.specs.Commands.{asked}
use Rattle.module_rules.specs.Rules as AnyType
use Rattle.module_rules.specs.FramePromises.{undamaged}
use Rattle.module_rules.proofs.Frames as Every
use Rattle.inout_rules.specs.declared.Pins.{Pins}
use Rattle.inout_rules.specs.declared.Io.{Io}
use Rattle.inout_rules.specs.Pins.{bits_of}
use Rattle.inout_rules.specs.Asks.{own}
use Rattle.inout_rules.specs.State.{no_sample}
use Rattle.inout_rules.specs.Answers.{inout, execute}
use Rattle.inout_rules.specs.Promises.{Put}
use Rattle.inout_rules.specs.FramePromises.{Codes, Counts, Unknown, FromBytes, PutOut, Obeys, Items, Zero, PowersUp}
use Rattle.inout_rules.proofs.Apart.{apart}
use Rattle.inout_rules.proofs.Bits.{first, inputs_keep}

pub codes : Codes
unfolding AnyType.request asked own
codes to alone = record {
  direction = λ a b. refl;
  address = λ a b. refl;
  defines = λ b. refl;
  reads = λ b. refl;
  pwm = λ a b. refl;
  synch_output = refl;
  output = λ a b. refl;
  synch_store = λ a b p q. refl;
  timer = λ t. refl;
  baud = λ b. refl;
  baud_alone = λ ds. refl;
  synch_input = refl;
  no_op = refl;
  hard_reset = refl;
}

pub counts : Counts
unfolding AnyType.request asked own
counts = record {
  direction = λ alone to ds m n. Every.unread inout apart Count to 0 ds alone m (rw (ne_eqb (length ds) 2 n));
  pwm = λ alone to ds m n. Every.unread inout apart Count to 4 ds alone m (rw (ne_eqb (length ds) 2 n));
  synch_output = λ alone to ds m n. Every.unread inout apart Count to 5 ds alone m (rw (ne_eqb (length ds) 0 n));
  output = λ alone to ds m n. Every.unread inout apart Count to 6 ds alone m (rw (ne_eqb (length ds) 2 n));
  synch_store = λ alone to ds m n. Every.unread inout apart Count to 7 ds alone m (rw (ne_eqb (length ds) 4 n));
  timer = λ alone to ds m n. Every.unread inout apart Count to 8 ds alone m (rw (ne_eqb (length ds) 1 n));
  synch_input = λ alone to ds m n. Every.unread inout apart Count to 12 ds alone m (rw (ne_eqb (length ds) 0 n));
}

pub unknown : Unknown
unfolding AnyType.request asked own
unknown f alone h =
    rw (
      ne_eqb _ _ h.0,
      ne_eqb _ _ h.1.0,
      ne_eqb _ _ h.1.1.0,
      ne_eqb _ _ h.1.1.1.0,
      ne_eqb _ _ h.1.1.1.1.0,
      ne_eqb _ _ h.1.1.1.1.1.0,
      ne_eqb _ _ h.1.1.1.1.1.1.0,
      ne_eqb _ _ h.1.1.1.1.1.1.1.0,
      ne_eqb _ _ h.1.1.1.1.1.1.1.1.0,
      ne_eqb _ _ h.1.1.1.1.1.1.1.1.1.0,
      ne_eqb _ _ h.1.1.1.1.1.1.1.1.1.1.0,
      ne_eqb _ _ h.1.1.1.1.1.1.1.1.1.1.1.0,
      ne_eqb _ _ h.1.1.1.1.1.1.1.1.1.1.1.1.0,
    )

-- the bits below 2 ^ n are the lower part's
low_bits : (n k h r : ℕ) → k < n → bit k (h * 2 ^ n + r) ≡ bit k r
low_bits zero k h r l = absurd (omega arith)
low_bits (suc n) zero h r l = first (h * 2 ^ suc n + r) ∙ block_odd h n r ∙ sym (first r)
low_bits (suc n) (suc k) h r l =
    bit_half k (h * 2 ^ suc n + r) ∙ ap (bit k) (block_half h n r) ∙ low_bits n k h (r / 2) (omega arith) ∙ sym (bit_half k r)

from_bytes : (a b : ℕ) → a < 256 → FromBytes (bits_of a b) a b
from_bytes a b h =
    let whole : bits_of a b ≡ b % 16 * 2 ^ 8 + a = omega arith in
    let top : bits_of a b / 2 ^ 8 ≡ b % 16 = omega arith in
    let split : b ≡ b / 16 * 2 ^ 4 + b % 16 = omega arith in
    record {
      first = λ k l. ap (bit k) whole ∙ low_bits 8 k (b % 16) a l;
      second = λ k l.
          sym (ap (λ (z : ℕ). z % 2) (shr-shr (bits_of a b) 8 k))
          ∙ ap (bit k) top
          ∙ sym (ap (bit k) split ∙ low_bits 4 k (b / 16) (b % 16) l);
      twelve = omega arith;
    }

put_out_lem : (before after : Pins) (a b : ℕ) → a < 256 → ((k : ℕ) → k < 12 → Put before after (bits_of a b) k) → after.direction ≡ before.direction
    → PutOut before after a b
put_out_lem before after a b h p d =
    let f = from_bytes a b h in
    record {
      first = λ k l o. (p k (omega arith)).output o ∙ f.first k l;
      second = λ k l o. (p (8 + k) (omega arith)).output o ∙ f.second k l;
      inputs = λ k l i. (p k l).input i;
      direction = d;
    }

pub obeys : Obeys
unfolding AnyType.execute AnyType.request asked own
obeys to alone m = record {
  directs = λ a b h. from_bytes a b h;
  direction = λ a b. refl;
  pwm = λ a b. refl;
  puts = λ a b h. put_out_lem m.pins _ a b h (λ k l. (inputs_keep m k l).0 (bits_of a b)) refl;
  output = λ a b. refl;
  stores = λ a b p q h. from_bytes a b h;
  synch_store = λ a b p q. refl;
  puts_stored = λ a b p q sent single h.
      let s : Io = execute (undamaged to 7 (a ∷ b ∷ p ∷ q ∷ [])) alone m in
      put_out_lem m.pins _ a b h (λ k l. (inputs_keep s k l).1) refl;
  pulses_stored = λ a b p q sent single. (refl, refl);
  synch_output = refl;
  timer = λ t. refl;
  synch_input = refl;
}

pub items : Items
items m = record {
  inputs = refl;
  ad1 = refl;
  ad2 = refl;
  ad3 = refl;
  counter = refl;
  type_and_version = refl;
  captured_inputs = refl;
  captured_counter = refl;
  long = refl;
}

-- every bit below 2 ^ n is set in the number before it
all_ones : (n k : ℕ) → k < n → bit k (2 ^ n - 1) ≡ 1
all_ones zero k l = absurd (omega arith)
all_ones (suc n) zero l = let odd : (2 ^ suc n - 1) % 2 ≡ 1 = omega (arith, two-pow-succ n, pow_pos n) in first (2 ^ suc n - 1) ∙ odd
all_ones (suc n) (suc k) l =
    let half : (2 ^ suc n - 1) / 2 ≡ 2 ^ n - 1 = omega (arith, two-pow-succ n, pow_pos n) in
    bit_half k (2 ^ suc n - 1) ∙ ap (bit k) half ∙ all_ones n k (omega arith)

none : Zero no_sample
none = record { inputs = refl; ad1 = refl; ad2 = refl; ad3 = refl; counter = refl }

pub powers_up : PowersUp
powers_up = record {
  station = Every.powers_up;
  latched = none;
  inputs = λ k l. all_ones 12 k l;
  direction = refl;
  register = refl;
  pwm1 = refl;
  pwm2 = refl;
  synch_bits = refl;
  synch_pwm1 = refl;
  synch_pwm2 = refl;
  timer = refl;
  captured_inputs = refl;
  captured_counter = refl;
}
