-- Hex digits in upper case, and some numbers and bytes as they are written, computed. Assumes nothing.
use mathlib.Core.Path.{refl}
use native.Mathlib.Omega.{arith}
use borrow.Author.Tests.{lt-ltb, le-ltb}
use Rattle.base_text.specs.Digits.{decimal}
use Rattle.base_text.specs.Promises.{UpperCase, Examples}

pub upper_case : UpperCase
upper_case d = (λ h. rw (lt-ltb d 10 h), λ h. rw (le-ltb d 10 h) (omega arith))

pub examples : Examples
unfolding decimal
examples = (refl, refl, refl, refl, refl, refl, refl)
