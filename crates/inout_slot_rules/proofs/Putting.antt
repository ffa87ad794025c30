-- The parts of a module, put one after another, are its bytes. Assumes nothing.
use mathlib.Core.Path.{◌≡◌, refl}
use mathlib.Core.List.{List, ◌∷◌, ◌++◌}
use Prim.Native.Nat.{ℕ, ◌≤◌}
use native.Mathlib.Omega.{arith}
use lib.ListN.{length}
use Rattle.base_layout.specs.Bytes.{pasted}
use Rattle.base_layout.proofs.Pasted.{put_four}
use Rattle.module_rules.specs.Slot.{station}
use Rattle.inout_rules.specs.declared.Io.{Io}
use Rattle.inout_rules.specs.Answers.{type_number}
use Rattle.inout_slot_rules.specs.Slot.{sample, pins, synch, capture, latched_at, pins_at, timer_at, io_size, encode_of}

pub put_is : (m : Io) (s : List ℕ) {head outputs tail a b c d : List ℕ} → io_size ≤ length s
    → head ≡ type_number ∷ station.codec.enc m.station
    → outputs ≡ pins.codec.enc m.pins ++ synch.codec.enc m.synch
    → tail ≡ m.timer ∷ capture.codec.enc m.captured
    → a ≡ pasted 0 head s
    → b ≡ pasted latched_at (sample.codec.enc m.latched) a
    → c ≡ pasted pins_at outputs b
    → d ≡ pasted timer_at tail c
    → d ≡ pasted 0 (encode_of m) s
unfolding encode_of
put_is m s h eh eo et =
    put_four (type_number ∷ station.codec.enc m.station) (sample.codec.enc m.latched)
    (pins.codec.enc m.pins ++ synch.codec.enc m.synch) (m.timer ∷ capture.codec.enc m.captured) s 0 latched_at pins_at timer_at
    refl refl refl (omega arith) eh refl eo et
