-- Who a frame is for (document 01, "Who is touched").
use Rattle.std.specs.Prelude.{ℕ, List, Bool, false, ◌||◌, eqb}
use Rattle.line_receiver.specs.Frames.{Frame}
use Rattle.module_rules.specs.declared.Address.{Address}
use Rattle.module_rules.specs.declared.Station.{Station}
use Rattle.module_rules.specs.declared.Frame as Code

-- power-up: individual 0, group 255, not leader, ADDR_OUT high; no cause, no items, baud byte 0
abbrev pub unassigned : Address
unassigned = record { individual = 0; group = 255; leader = false; low = false }

abbrev pub power_up : Station
power_up = record { address = unassigned; cause = 0; items = 0; baud = 0 }

-- a frame for address a is for this module alone, or for it by either of its addresses
abbrev pub individually : ℕ → Address → Bool
individually a w = eqb w.individual a

abbrev pub named : ℕ → Address → Bool
named a w = individually a w || eqb w.group a

-- a touched module replies where it was touched individually, or leads its group
abbrev pub speaks : ℕ → Address → Bool
speaks a w = individually a w || w.leader

-- the frame that code holds, with the data bytes that it points at
abbrev pub frame_of : Code.Frame → Frame
frame_of f = record { address = f.address; code = f.code; content = f.content.now; damaged = f.damaged }
