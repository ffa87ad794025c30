-- Histories of calls: what each call leaves is what its event makes of the network. Assumes nothing.
use mathlib.Core.Path.{◌≡◌, refl, sym, ap, ◌∙◌}
use mathlib.Core.Logic.{◌⊎◌, inl, inr}
use mathlib.Core.List.{List, [], append-nil}
use mathlib.Core.Bool.{Bool, true, false}
use Prim.Native.Nat.{ℕ}
use borrow.Author.Tests.{eqb-true, eqb-false}
use lib.Dec.{eqb}
use Rattle.chain_rules.specs.Chain.{flat}
use Rattle.types_rules.specs.Types.{kind, slots}
use Rattle.net_rules.specs.Record.{net_in}
use Rattle.base_layout.specs.First.{Line, first}
use Rattle.api_rules.specs.Calls.{step_of}
use Rattle.api_rules.specs.Promises.{ValidRecord, Refuses, Passes}
use Rattle.api_rules.proofs.Kept.{kept, holds}
use Rattle.api_rules.proofs.Unchanged.{unchanged}
use Rattle.api_rules.proofs.Room.{written_room}
use Rattle.demands_history_rules.specs.Events.{event}
use Rattle.demands_history_rules.specs.Calls.{Call, byte, tick, Handed, refusals, leaves, writes, does}

-- a call is done or refused
pub passes? : (ls : List Line) → Passes ls ⊎ Refuses ls
passes? ls = at (eqb (first ls) 0) refl
  where
    at : (t : Bool) → eqb (first ls) 0 ≡ t → Passes ls ⊎ Refuses ls
    at true e = inl (eqb-true _ _ e)
    at false e = inr (eqb-false _ _ e)

-- every call keeps a valid record valid
pub call_kept : (net : List ℕ) (c : Call) → Handed c → ValidRecord net → ValidRecord (leaves net c)
call_kept net (byte mark x room) h v = kept.byte net mark x room h v
call_kept net (tick samples) h v = kept.tick net samples h v

-- a refused call leaves the record as it was, and writes nothing
pub refused_leaves : (net : List ℕ) (c : Call) → Refuses (refusals net c) → leaves net c ≡ net
refused_leaves net (byte mark x room) r = (unchanged.byte net mark x room r).net_kept
refused_leaves net (tick samples) r = unchanged.tick net samples r

pub refused_writes : (net : List ℕ) (c : Call) → Refuses (refusals net c) → writes net c ≡ []
refused_writes net (byte mark x room) r = rw (unchanged.byte net mark x room r).written refl
refused_writes net (tick samples) r = refl

-- a call that is not refused does what its event does, and writes the replies to it
pub passed-leaves : (net : List ℕ) (c : Call) → Handed c → ValidRecord net → Passes (refusals net c)
    → net_in slots (leaves net c) ≡ (event kind (does (net_in slots net) c) (net_in slots net)).net
passed-leaves net (byte mark x room) h v p = holds.byte net mark x room h v.1 p
passed-leaves net (tick samples) h v p = holds.tick net samples h v.1 p

pub passed-writes : (net : List ℕ) (c : Call) → Passes (refusals net c) → writes net c ≡ flat (event kind (does (net_in slots net) c) (net_in slots net)).replies
passed-writes net (byte mark x room) p =
    (written_room net mark x room).put.begins p ∙ ap flat (sym (append-nil (step_of net mark x).replies))
passed-writes net (tick samples) p = refl
