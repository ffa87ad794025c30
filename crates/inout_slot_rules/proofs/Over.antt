-- What is put into a valid slot in parts is as good as the whole module put there, where the other parts stand already. Assumes nothing.
use mathlib.Core.Path.{◌≡◌, refl}
use mathlib.Core.List.{List, ◌++◌}
use mathlib.Core.Bool.{true}
use Prim.Native.Nat.{ℕ, ◌≤◌}
use lib.ListN.{length}
use Rattle.base_layout.specs.Bytes.{pasted, Bytes}
use Rattle.module_rules.specs.declared.Station.{Station}
use Rattle.module_rules.specs.Slot.{station}
use Rattle.module_rules.specs.Slots.{station_at}
use Rattle.module_rules.proofs.Slotting as Slotting
use Rattle.inout_rules.specs.declared.Sample.{Sample}
use Rattle.inout_rules.specs.declared.Io.{Io}
use Rattle.inout_rules.specs.State.{with_station, ticked}
use Rattle.inout_slot_rules.specs.Slot.{sample, slot, latched_at, io_size, encode_of, decode_of, ok_of}

module _ (s : List ℕ) (h : io_size ≤ length s) (bytes : Bytes s) (ok : ok_of s ≡ true) where
  put_over : (n : Io) (put : List ℕ → List ℕ) → ((t : List ℕ) → put (encode_of (decode_of s) ++ t) ≡ encode_of n ++ t)
      → pasted 0 (encode_of n) s ≡ put s
  unfolding encode_of decode_of ok_of
  put_over = Slotting.put_over slot s h bytes ok

  pub station_over : (x : Station) → pasted 0 (encode_of (with_station x (decode_of s))) s ≡ pasted station_at (station.codec.enc x) s
  unfolding encode_of
  station_over x = put_over (with_station x (decode_of s)) (pasted station_at (station.codec.enc x)) (λ t. refl)

  pub ticked_over_lem : (x : Sample) → pasted 0 (encode_of (ticked x (decode_of s))) s ≡ pasted latched_at (sample.codec.enc x) s
  unfolding encode_of
  ticked_over_lem x = put_over (ticked x (decode_of s)) (pasted latched_at (sample.codec.enc x)) (λ t. refl)
