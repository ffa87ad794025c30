-- How a station stands in a slot, for every module type: its addresses first.
use Rattle.std.specs.Prelude.{refl, ℕ, Bool}
use Rattle.base_layout.proofs.Shape.{Shape, byte, capped, flag, ◌then◌, shaped}
use Rattle.module_rules.specs.declared.Address.{Address}
use Rattle.module_rules.specs.declared.Station.{Station}

-- the parts of each struct in the order of the slot, and the struct of its parts
abbrev pub address_parts : Address → ℕ × (ℕ × (Bool × Bool))
address_parts w = (w.individual, (w.group, (w.leader, w.low)))

abbrev pub address_of : ℕ × (ℕ × (Bool × Bool)) → Address
address_of t = record { individual = t.0; group = t.1.0; leader = t.1.1.0; low = t.1.1.1 }

abbrev pub station_parts : Station → Address × (ℕ × (ℕ × ℕ))
station_parts s = (s.address, (s.cause, (s.items, s.baud)))

abbrev pub station_of : Address × (ℕ × (ℕ × ℕ)) → Station
station_of t = record { address = t.0; cause = t.1.0; items = t.1.1.0; baud = t.1.1.1 }

abbrev pub address : Shape Address
address = shaped address_of address_parts (λ t. refl) (λ w. refl) (byte then byte then flag then flag)

-- 02 P1: a cause is 0 to 5
abbrev pub cause_most : ℕ
cause_most = 5

abbrev pub station : Shape Station
station = shaped station_of station_parts (λ t. refl) (λ s. refl) (address then capped cause_most then byte then byte)
