-- A network just set up: an idle receiver and its modules, written into an empty record. Assumes nothing.
use mathlib.Core.Path.{◌≡◌}
use mathlib.Core.List.{List, [], ◌∷◌, map}
use mathlib.Core.Bool.{true}
use Prim.Native.Nat.{ℕ, zero, suc, ◌≤◌}
use native.Mathlib.Omega.{arith}
use lib.ListN.{length, replicate, length-replicate}
use Rattle.base_layout.specs.Bytes.{Bytes}
use Rattle.line_receiver.specs.Receive.{idle}
use Rattle.line_receiver.proofs.Kept.{fresh}
use Rattle.module_rules.specs.Slots.{Slots, Lawful}
use Rattle.types_rules.specs.Types as Types
use Rattle.types_rules.specs.Types.{slots}
use Rattle.types_rules.proofs.Kept.{powered_fits}
use Rattle.net_rules.specs.Record.{record_size, net_in, stored, valid, chain_most}
use Rattle.net_rules.specs.Promises.{Each, SoundNet}
use Rattle.net_rules.proofs.Stored.{back}

pub bytes_zeros : (n : ℕ) → Bytes (replicate n 0)
bytes_zeros zero i = omega arith
bytes_zeros (suc n) zero = omega arith
bytes_zeros (suc n) (suc i) = bytes_zeros n i

-- modules at power-up can be written
pub powered-each : (types : List ℕ) → Each slots.fits (map Types.powered types)
powered-each [] = tt
powered-each (t ∷ ts) = (powered_fits t, powered-each ts)

module _ {M : Type 0} {L : Slots M} (law : Lawful L) (ms : List M) (some : 1 ≤ length ms) (most : length ms ≤ chain_most) (each : Each L.fits ms) where
  pub powered-sound : SoundNet L (record { receiver = idle; modules = ms })
  powered-sound = record { receiver = fresh; some = some; most = most; each = each }

  pub powered : (net_in L (stored L (record { receiver = idle; modules = ms }) (replicate record_size 0)) ≡ record { receiver = idle; modules = ms })
      × (valid L (stored L (record { receiver = idle; modules = ms }) (replicate record_size 0)) ≡ true)
      × Bytes (stored L (record { receiver = idle; modules = ms }) (replicate record_size 0))
      × (length (stored L (record { receiver = idle; modules = ms }) (replicate record_size 0)) ≡ record_size)
  powered = back law (record { receiver = idle; modules = ms }) (replicate record_size 0) powered-sound (length-replicate {A = ℕ} record_size 0) (bytes_zeros record_size)
