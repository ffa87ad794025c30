-- No refusal has the number of what is done. Assumes nothing.
use mathlib.Core.Path.{◌≡◌}
use native.Mathlib.Omega.{arith}
use Rattle.host_rules.specs.declared.Refusal.{Refusal}
use Rattle.host_rules.specs.declared.Refusal.TheVariants.{BadChain, BadType, BadPlace, BadField, ShortRoom, BadRecord, BadFrame, BadLength, BadSum, BadList, BadText, BadRecords}
use Rattle.host_rules.specs.Refusals.{number_of}

pub not_done : (r : Refusal) → number_of r ≡ 0 → ⊥
not_done BadChain e = omega arith
not_done BadType e = omega arith
not_done BadPlace e = omega arith
not_done BadField e = omega arith
not_done ShortRoom e = omega arith
not_done BadRecord e = omega arith
not_done BadFrame e = omega arith
not_done BadLength e = omega arith
not_done BadSum e = omega arith
not_done BadList e = omega arith
not_done BadText e = omega arith
not_done BadRecords e = omega arith
