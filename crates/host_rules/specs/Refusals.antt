-- Why a call is refused, and the number that C is given for it (document 01, "Numbers given back"; document 02, P2, P7 and P11).
use Rattle.std.specs.Prelude.{ℕ, Result, Ok, Err}
use Rattle.host_rules.specs.declared.Refusal.{Refusal}
use Rattle.host_rules.specs.declared.Refusal.TheVariants.{BadChain, BadType, BadPlace, BadField, ShortRoom, BadRecord, BadFrame, BadLength, BadSum, BadList, BadText, BadRecords}

-- 01 Numbers given back, 02 P2, P7 and P11: the number of each refusal.
abbrev pub number_of : Refusal → ℕ
number_of BadChain = 11
number_of BadType = 12
number_of BadPlace = 13
number_of BadField = 14
number_of ShortRoom = 15
number_of BadRecord = 16
number_of BadFrame = 17
number_of BadLength = 18
number_of BadSum = 19
number_of BadList = 20
number_of BadText = 21
number_of BadRecords = 22

-- 01 Numbers given back: what a call gives, 0 where it is done.
abbrev pub number_given : {A : Type 0} → Result A Refusal → ℕ
number_given (Ok x) = 0
number_given (Err refusal) = number_of refusal
