-- Which code asks for what, with how many data bytes. Assumes nothing.
use mathlib.Core.Path.{◌≡◌, refl, ◌∙◌}
use mathlib.Core.Bool.{Bool}
use Prim.Native.Nat.{ℕ}
use borrow.Author.Tests.{eq-eqb, ne_eqb}
use Rattle.line_receiver.specs.Frames.{Frame}
use Rattle.module_rules.specs.Commands.{asked}
use Rattle.module_rules.specs.Rules as AnyType
use Rattle.module_rules.specs.Rules.{Request, counted}
use Rattle.servo_rules.specs.declared.Order.{Order}
use Rattle.servo_rules.specs.Asks.{own}
use Rattle.servo_rules.specs.Answers.{request}
use Rattle.servo_rules.specs.AskPromises.{Line, Codes}

-- a line of the servo's own codes
own_line : (f : Frame) (alone : Bool) (n : ℕ) (q : Request Order)
    → request f alone ≡ counted n f.content q
    → Line n q f alone
own_line f alone n q e = (
  λ h. e ∙ rw (eq-eqb _ _ h) refl,
  λ h. e ∙ rw (ne_eqb _ _ h) refl,
)

pub codes : Codes
unfolding AnyType.request asked own
codes f alone = record {
  reset_position = λ c. own_line f alone 0 _ (rw c refl);
  load = λ c. rw c refl;
  start = λ c. own_line f alone 0 _ (rw c refl);
  set_gain = λ c. rw c refl;
  stop = λ c. rw c refl;
  set_homing = λ c. rw c refl;
  clear_bits = λ c. own_line f alone 0 _ (rw c refl);
  set_address = λ c. (λ n. rw (c, eq-eqb _ _ n) refl, λ n. rw (c, ne_eqb _ _ n) refl);
  define_status = λ c. (λ n. rw (c, eq-eqb _ _ n) refl, λ n. rw (c, ne_eqb _ _ n) refl);
  read_status = λ c. (λ n. rw (c, eq-eqb _ _ n) refl, λ n. rw (c, ne_eqb _ _ n) refl);
  set_baud = λ c g. (λ n. rw (c, g, eq-eqb _ _ n) refl, λ n. rw (c, g, ne_eqb _ _ n) refl);
  baud_alone = λ c g. rw (c, g) refl;
  no_op = λ c. (λ n. rw (c, eq-eqb _ _ n) refl, λ n. rw (c, ne_eqb _ _ n) refl);
  hard_reset = λ c. (λ n. rw (c, eq-eqb _ _ n) refl, λ n. rw (c, ne_eqb _ _ n) refl);
}
