-- What was read of a frame, as a request of any type (specs/Rules.antt).
use Rattle.std.specs.Prelude.{ℕ, List, cond, length, eqb, Result, Ok, Err}
use Rattle.module_rules.specs.declared.Fault.{Fault}
use Rattle.module_rules.specs.declared.Fault.TheVariants.{Unknown, Count, Value}
use Rattle.module_rules.specs.declared.Request as Code
use Rattle.module_rules.specs.declared.Request.TheVariants as Codes
use Rattle.module_rules.specs.Rules.{Request, malformed, set, reset, wants, Meaning, unknown, takes}

-- the case of the code's request in the request of any type; what can't be read is malformed
abbrev pub asks_of : {C : Type 0} → Result (Code.Request C) Fault → Request C
asks_of (Ok (Codes.Set s)) = set s
asks_of (Ok Codes.Reset) = reset
asks_of (Ok (Codes.Wants c)) = wants c
asks_of (Err x) = malformed x

-- what is read of a meaning: whether the code is known comes first, then the number of data bytes, then their values
abbrev pub read : {X : Type 0} → List ℕ → Meaning X → Result X Fault
read ds unknown = Err Unknown
read ds (takes count good x) = cond (eqb (length ds) count) (cond good (Ok x) (Err Value)) (Err Count)
