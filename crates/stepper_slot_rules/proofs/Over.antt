-- What is put into a valid slot in parts is as good as the whole module put there, where the other parts stand already. Assumes nothing.
use mathlib.Core.Path.{◌≡◌, refl}
use mathlib.Core.List.{List, ◌++◌}
use mathlib.Core.Bool.{true}
use Prim.Native.Nat.{ℕ, ◌≤◌}
use lib.ListN.{length}
use Rattle.base_layout.specs.Bytes.{pasted, Bytes}
use Rattle.base_layout.proofs.Shape.{number}
use Rattle.module_rules.specs.declared.Station.{Station}
use Rattle.module_rules.specs.Slot.{station}
use Rattle.module_rules.specs.Slots.{station_at}
use Rattle.module_rules.proofs.Slotting as Slotting
use Rattle.stepper_rules.specs.declared.Motion.{Motion}
use Rattle.stepper_rules.specs.declared.Stepper.{Stepper}
use Rattle.stepper_rules.specs.State.{with_station, with_motion, with_position}
use Rattle.stepper_slot_rules.specs.Slot.{motion, slot, motion_at, stepper_size, encode_of, decode_of, ok_of}

module _ (s : List ℕ) (h : stepper_size ≤ length s) (bytes : Bytes s) (ok : ok_of s ≡ true) where
  put_over : (n : Stepper) (put : List ℕ → List ℕ) → ((t : List ℕ) → put (encode_of (decode_of s) ++ t) ≡ encode_of n ++ t)
      → pasted 0 (encode_of n) s ≡ put s
  unfolding encode_of decode_of ok_of
  put_over = Slotting.put_over slot s h bytes ok

  pub station_over : (x : Station) → pasted 0 (encode_of (with_station x (decode_of s))) s ≡ pasted station_at (station.codec.enc x) s
  unfolding encode_of
  station_over x = put_over (with_station x (decode_of s)) (pasted station_at (station.codec.enc x)) (λ t. refl)

  pub run_over : (p : Motion) (x : ℕ)
      → pasted 0 (encode_of (with_position x (with_motion p (decode_of s)))) s ≡ pasted motion_at (motion.codec.enc p ++ (number 4).codec.enc x) s
  unfolding encode_of
  run_over p x =
      put_over (with_position x (with_motion p (decode_of s))) (pasted motion_at (motion.codec.enc p ++ (number 4).codec.enc x)) (λ t. refl)
