-- Clear Bits only clears the error bit, and always can. Assumes nothing.
use mathlib.Core.Path.{refl, sym, ap, subst}
use lib.ListN.{length}
use Rattle.module_rules.proofs.Settled.{cause}
use Rattle.servo_rules.specs.declared.Order.TheVariants.{ClearBits}
use Rattle.servo_rules.specs.Answers.{servo}
use Rattle.servo_rules.specs.Promises.{Cleared, Clears, AlwaysNow}
use Rattle.servo_rules.proofs.Coding.{codes}
use Rattle.servo_rules.proofs.Apart.{apart}

pub clears : Clears
clears f alone m d k e =
    subst (Cleared m) (sym ((cause servo apart f alone m).executed ClearBits d (((codes f alone).clear_bits k).0 (ap length e)) refl))
    (record {
      error = refl;
      cause = refl;
      address = refl;
      items = refl;
      baud = refl;
      latched = refl;
      counts = refl;
      settings = refl;
      homing = refl;
      profile = refl;
      memory = refl;
      mode = refl;
      pulse = refl;
      output = refl;
      amplifier = refl;
      cut = refl;
    })

pub always_now : AlwaysNow
always_now m = (refl, λ t. refl, λ b. refl)
