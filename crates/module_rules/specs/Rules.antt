-- What a module type says of itself, and what follows for every type: a frame is damaged, or what it asks is settled (document 01, "Who is
-- touched", "Commands of both types"; the causes of what can't be read are those of document 02, P1).
use Rattle.std.specs.Prelude.{ℕ, List, Bool, true, cond, length, eqb}
use Rattle.line_receiver.specs.Frames.{Frame}
use Rattle.module_rules.specs.declared.Station.{Station}
use Rattle.module_rules.specs.declared.Setting.{Setting}
use Rattle.module_rules.specs.declared.Asked.{Asked}
use Rattle.module_rules.specs.declared.Asked.TheVariants as Both
use Rattle.module_rules.specs.declared.Fault.{Fault}
use Rattle.module_rules.specs.declared.Fault.TheVariants.{Unknown, Count, Value}
use Rattle.module_rules.specs.Commands.{asked, applied, caused}
use Rattle.module_rules.specs.Report.{reply_of}
use Rattle.module_rules.specs.Kind.{Kind}

-- What a frame asks of a module whose type's own commands are C: nothing that it can read, a command of every type, or one of its own.
pub data Request (C : Type 0) : Type 0 where
  malformed : Fault → Request C
  set : Setting → Request C
  reset : Request C
  wants : C → Request C

-- What a code means with its data bytes: nothing that a module knows, or something that takes so many data bytes and needs good values.
pub data Meaning (X : Type 0) : Type 0 where
  unknown : Meaning X
  takes : (count : ℕ) (good : Bool) (what : X) → Meaning X

-- 02 P1: the causes of what can't be read: 4 an unknown code, 2 a wrong number of data bytes, 5 a value out of range
abbrev pub fault_cause : Fault → ℕ
fault_cause Unknown = 4
fault_cause Count = 2
fault_cause Value = 5

-- what is asked, if the number of data bytes is n; and if its values are good
abbrev pub counted : {C : Type 0} → ℕ → List ℕ → Request C → Request C
counted n ds q = cond (eqb (length ds) n) q (malformed Count)

abbrev pub ranged : {C : Type 0} → Bool → Request C → Request C
ranged good q = cond good q (malformed Value)

-- 02 P1: whether the code is known comes first, then the number of data bytes, then their values
abbrev pub judged : {C : Type 0} → List ℕ → Meaning (Request C) → Request C
judged ds unknown = malformed Unknown
judged ds (takes count good q) = counted count ds (ranged good q)

-- one of a type's own commands as a request
abbrev pub owned : {C : Type 0} → Meaning C → Meaning (Request C)
owned unknown = unknown
owned (takes count good c) = takes count good (wants c)

-- what one of the own codes asks
abbrev pub asking : {C : Type 0} → List ℕ → Meaning C → Request C
asking ds u = judged ds (owned u)

-- A module type: its records M, its samples S, its own commands C.
pub record Rules (M S C : Type 0) : Type 0 where
  -- the type's number
  pub number : ℕ
  -- the station, and the module with another one
  pub station : M → Station
  pub with_station : Station → M → M
  -- power-up, and the power-up record that Hard Reset makes, which keeps the latched sample
  pub started : M
  pub renewed : M → M
  -- what a code that is not one of every type's means with its data bytes
  pub own : ℕ → List ℕ → Meaning C
  -- whether an own command can be carried out now, and what it does then
  pub can : C → M → Bool
  pub perform : C → M → M
  -- 02 P11: the module after a tick that hands it this sample
  pub tick : S → M → M
  -- which item bytes there are: of another the value is out of range (02 P3)
  pub shows : ℕ → Bool
  -- the status byte, the items' sizes and their numbers
  pub status : M → ℕ
  pub sizes : List ℕ
  pub numbers : M → List ℕ
  -- what the board drives, in eight bytes
  pub outputs : M → List ℕ

-- the codes of every type come first; of their commands every value is good, but for an item byte that there is not
abbrev pub joined : {C : Type 0} → (ℕ → Bool) → Asked → Meaning C → Meaning (Request C)
joined shows Both.Other own = owned own
joined shows Both.Unknown own = unknown
joined shows (Both.Wants count s) own = takes count true (set s)
joined shows (Both.Chooses items s) own = takes 1 (shows items) (set s)
joined shows (Both.Reset count) own = takes count true reset

module _ {M S C : Type 0} (T : Rules M S C) where
  -- 01 Who is touched: the same module with another last cause: 0 executed, 1 damaged, 3 not now, or one of a fault
  abbrev pub with_cause : ℕ → M → M
  with_cause c m = T.with_station (caused c (T.station m)) m

  -- 01 Commands of both types: what a frame means and asks; alone says that it was for this module individually
  abbrev pub meaning : Frame → Bool → Meaning (Request C)
  meaning f alone = joined T.shows (asked f.code alone f.content) (T.own f.code f.content)

  unfoldable pub request : Frame → Bool → Request C
  request f alone = judged f.content (meaning f alone)

  -- 01 Who is touched: malformed, then not now; with either only the cause changes
  abbrev pub settled : Request C → M → M
  settled (malformed x) m = with_cause (fault_cause x) m
  settled (set s) m = with_cause 0 (T.with_station (applied s (T.station m)) m)
  settled reset m = with_cause 0 (T.renewed m)
  settled (wants c) m = cond (T.can c m) (with_cause 0 (T.perform c m)) (with_cause 3 m)

  -- 01 Who is touched: damaged comes first
  unfoldable pub execute : Frame → Bool → M → M
  execute f alone m = cond f.damaged (with_cause 1 m) (settled (request f alone) m)

  -- 01 Commands of both types: the reply of the record as it is after the frame
  unfoldable pub reply : Frame → M → List ℕ
  reply f m = reply_of f (T.station m) (T.status m) T.sizes (T.numbers m)

  -- what the chain knows of the type
  abbrev pub kind_of : Kind M S
  kind_of = record { address = λ m. (T.station m).address; execute = execute; reply = reply; tick = T.tick }
