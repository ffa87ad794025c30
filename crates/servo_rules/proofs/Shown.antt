-- What a reset forgets, a sample tells or Set Gain stores shows in the record and its answers. Assumes nothing.
use mathlib.Core.Path.{◌≡◌, refl, ap, ◌∙◌}
use mathlib.Core.Bool.{Bool, true, false, ◌&&◌, and-false}
use Prim.Native.Nat.{ℕ, ◌%◌, ◌^◌, ◌<◌}
use native.Mathlib.Omega.{arith}
use borrow.Author.Tests.{eq-eqb, ne_eqb}
use lib.Dec.{eqb}
use lib.IntN.{ℤ, pos, nat_abs}
use lib.Signed.{lt_z}
use Rattle.base_integers.specs.Whole.{less}
use Rattle.base_integers.specs.Bits.{bit}
use Rattle.line_receiver.specs.Frames.{Frame}
use Rattle.module_rules.specs.Commands.{asked}
use Rattle.module_rules.specs.Rules as AnyType
use Rattle.module_rules.specs.declared.Fault.{Fault}
use Rattle.module_rules.specs.declared.Fault.TheVariants.{Count, Value}
use Rattle.module_rules.specs.Rules.{malformed, fault_cause, asking}
use Rattle.module_rules.proofs.Settled.{cause}
use Rattle.module_rules.proofs.Replies.{resets as after-reset}
use Rattle.servo_rules.specs.declared.Order.TheVariants.{SetGain}
use Rattle.servo_rules.specs.declared.Servo.{Servo}
use Rattle.servo_rules.specs.Asks.{gain_meant, tuning_in, own}
use Rattle.servo_rules.specs.State.{position, fresh, good}
use Rattle.servo_rules.specs.Loads.{signed_by}
use Rattle.servo_rules.specs.Tick.{ticked}
use Rattle.servo_rules.specs.Answers.{bit_at, numbers_of, outputs_from, servo, request, with_cause, execute}
use Rattle.servo_rules.specs.Promises.{Resets, Enabled, Gains, Samples}
use Rattle.servo_rules.proofs.Between.{frame_quiet}
use Rattle.servo_rules.proofs.Meeting.{tick_is}
use Rattle.servo_rules.proofs.Reply.{status_bits}
use Rattle.servo_rules.proofs.Taken.{gain_read}
use Rattle.servo_rules.proofs.Apart.{apart}
use Rattle.servo_rules.proofs.Signs.{signed_itself}

pub less_self : (x : ℕ) → x < 2 ^ 32 → less x x ≡ 0
less_self x h = omega arith

pub resets : Resets
unfolding numbers_of
resets f alone m d c n =
    let r = after-reset servo apart f alone m d c n in
    let e : execute f alone m ≡ fresh m.latched = r.whole in
    record {
      whole = e;
      latched = ap (λ (m : Servo). m.latched) e;
      mode = ap (λ (m : Servo). m.run.drive.mode) e;
      error = ap (λ (m : Servo). m.run.drive.error) e;
      waits = ap (λ (m : Servo). m.settings.load.waits) e;
      here = λ h. ap position e ∙ less_self m.latched.raw h;
      change = λ h.
          ap (λ (m : Servo). less (position m) m.counts.last % 65536) e
          ∙ ap (λ (x : ℕ). less x 0 % 65536) (less_self m.latched.raw h);
      silent = r.silent;
    }

-- size and sign give the number back
told_back : (t : Bool) → eqb (bit_at 1 t) 1 ≡ t
told_back true = refl
told_back false = refl

signed_back : (z : ℤ) → signed_by (eqb (bit_at 1 (lt_z z (pos 0))) 1) (nat_abs z) ≡ z
signed_back z = ap (λ (s : Bool). signed_by s (nat_abs z)) (told_back (lt_z z (pos 0))) ∙ signed_itself z

pub enabled : Enabled
unfolding outputs_from
enabled m = record {
  size = refl;
  sign = refl;
  signed = signed_back m.run.drive.output;
  high = λ a p. rw (a, eq-eqb _ _ p) refl;
  unset = λ a. rw a refl;
  unpowered = λ p. ap (bit_at 1) (ap (λ (t : Bool). m.run.drive.amplifier && t) (ne_eqb _ _ p) ∙ and-false m.run.drive.amplifier);
  zeros = refl;
}

-- code 6 is Set Gain
asks_gain : (f : Frame) (alone : Bool) → f.code ≡ 6 → request f alone ≡ asking f.content (gain_meant f.content)
unfolding AnyType.request asked own
asks_gain f alone c = rw c refl

pub gains : Gains
gains f alone m =
    let g = gain_read f.content in
    let refused : (x : Fault) → f.damaged ≡ false → f.code ≡ 6 → asking f.content (gain_meant f.content) ≡ malformed x
    → execute f alone m ≡ with_cause (fault_cause x) m =
    λ x d c e. (cause servo apart f alone m).malformed x d (asks_gain f alone c ∙ e) in
    record {
      tuning = λ t. refl;
      others = λ t. refl;
      taken = λ d c n v r b. (cause servo apart f alone m).executed (SetGain (tuning_in f.content)) d (asks_gain f alone c ∙ g.read n v r b) refl;
      count = λ d c n. refused Count d c (g.count n);
      value = λ d c n v. refused Value d c (g.value n v);
      rate = λ d c n r. refused Value d c (g.rate n r);
      band = λ d c n b. refused Value d c (g.band n b);
    }

pub samples : Samples
unfolding numbers_of
samples x m =
    let e = tick_is x m in
    let b = status_bits (ticked x m) in
    record {
      latched = ap (λ (n : Servo). n.latched) e;
      kept = λ f alone. (frame_quiet f alone m).0;
      power = ap (λ (n : Servo). good n.latched.power) e;
      ad = ap (λ (n : Servo). n.latched.ad) e;
      limits = (b.limit1 ∙ ap (λ (n : Servo). bit 0 n.latched.inputs) e, b.limit2 ∙ ap (λ (n : Servo). bit 1 n.latched.inputs) e);
      place = ap position e;
      change = ap (λ (n : Servo). less (position (ticked x m)) n.counts.last % 65536) e;
    }
