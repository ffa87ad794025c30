-- The numbers 0, 1 and 2 tell a byte's answers apart. Assumes nothing.
use Rattle.std.proofs.Common.{◌≡◌, Bool, true, false, refl, ap, arith, Option, Some, None}
use Rattle.line_receiver.specs.Receive.{number_of}
use Rattle.line_receiver.specs.Promises.{Numbers}

-- of equal answers the numbers are equal, so an answer with another number is another answer
same : {a b : Option Bool} → a ≡ b → number_of a ≡ number_of b
same e = ap number_of e

pub numbers : Numbers
numbers None = record {
  onward = (λ n. refl, λ e. refl);
  undamaged = (λ n. absurd (omega arith), λ e. absurd (omega (arith, same e)));
  damaged = (λ n. absurd (omega arith), λ e. absurd (omega (arith, same e)));
}
numbers (Some false) = record {
  onward = (λ n. absurd (omega arith), λ e. absurd (omega (arith, same e)));
  undamaged = (λ n. refl, λ e. refl);
  damaged = (λ n. absurd (omega arith), λ e. absurd (omega (arith, same e)));
}
numbers (Some true) = record {
  onward = (λ n. absurd (omega arith), λ e. absurd (omega (arith, same e)));
  undamaged = (λ n. absurd (omega arith), λ e. absurd (omega (arith, same e)));
  damaged = (λ n. refl, λ e. refl);
}
