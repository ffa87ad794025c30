-- The commands of both types (document 01, "Commands of both types").
use Rattle.std.specs.Prelude.{ℕ, ◌+◌, ◌%◌, List, Bool, true, cond, get_or, eqb, ltb}
use Rattle.module_rules.specs.declared.Address.{Address}
use Rattle.module_rules.specs.declared.Station.{Station}
use Rattle.module_rules.specs.declared.Setting.{Setting}
use Rattle.module_rules.specs.declared.Setting.TheVariants.{Assign, Define, Rate, Nothing}
use Rattle.module_rules.specs.declared.Asked.{Asked}
use Rattle.module_rules.specs.declared.Asked.TheVariants.{Other, Unknown, Wants, Chooses, Reset}

-- What a code asks, and how many data bytes it takes: 1 Set Address (2), 2 Define Status (1) and 3 Read Status (1), which choose items,
-- 10 Set Baud (1, unknown unless it is for a group), 14 No Op (0), 15 Hard Reset (0). Any other code is the module type's own.
unfoldable pub asked : ℕ → Bool → List ℕ → Asked
asked code alone ds =
    cond (eqb code 1) (Wants 2 (Assign (get_or ds 0 0) (get_or ds 1 0)))
    (cond (eqb code 2) (Chooses (get_or ds 0 0) (Define (get_or ds 0 0)))
    (cond (eqb code 3) (Chooses (get_or ds 0 0) Nothing)
    (cond (eqb code 10) (cond alone Unknown (Wants 1 (Rate (get_or ds 0 0))))
    (cond (eqb code 14) (Wants 0 Nothing)
    (cond (eqb code 15) (Reset 0)
    Other)))))

-- Set Address: the group byte b is group 128 + b mod 128, a leader exactly if b < 128; ADDR_OUT goes low
abbrev pub assigned : ℕ → ℕ → Address
assigned a b = record { individual = a; group = 128 + b % 128; leader = ltb b 128; low = true }

-- what a setting makes of a station
abbrev pub applied : Setting → Station → Station
applied (Assign a b) s = record {
  address = assigned a b;
  cause = s.cause;
  items = s.items;
  baud = s.baud;
}
applied (Define items) s = record { address = s.address; cause = s.cause; items = items; baud = s.baud }
applied (Rate baud) s = record { address = s.address; cause = s.cause; items = s.items; baud = baud }
applied Nothing s = s

-- the same station with another cause
abbrev pub caused : ℕ → Station → Station
caused c s = record { address = s.address; cause = c; items = s.items; baud = s.baud }
