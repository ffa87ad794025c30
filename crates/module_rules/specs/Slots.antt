-- How modules stand in the record's slots, and their samples in a tick's list, for any module type.
use Rattle.std.specs.Prelude.{◌≡◌, ℕ, ◌+◌, ◌≤◌, List, Bool, true, length}
use Rattle.base_layout.specs.Bytes.{pasted, Bytes}
use Rattle.line_receiver.specs.Frames.{Frame}
use Rattle.module_rules.specs.Slot.{station}
use Rattle.module_rules.specs.Kind.{Kind}

-- the bytes of a slot; a module's bytes stand at its start, and the rest is never looked at and never changed
abbrev pub slot_size : ℕ
slot_size = 128

-- a slot begins with the type's number; then comes the station, then what the type has besides
abbrev pub station_at : ℕ
station_at = 1

abbrev pub leader_at : ℕ
leader_at = station_at + 2

abbrev pub low_at : ℕ
low_at = leader_at + 1

abbrev pub cause_at : ℕ
cause_at = low_at + 1

abbrev pub own_at : ℕ
own_at = station_at + station.codec.size

-- 02 P11: the bytes of a sample in the list that a tick takes: the type's number, then what the type measures; the rest is not looked at
abbrev pub sample_size : ℕ
sample_size = 10

abbrev pub measured_at : ℕ
measured_at = 1

pub record Slots (M : Type 0) : Type 1 where
  -- a module's bytes, the module in a slot, whether a slot is valid, and which modules can be written
  pub enc : M → List ℕ
  pub dec : List ℕ → M
  pub ok : List ℕ → Bool
  pub fits : M → Type 0

pub record Lawful {M : Type 0} (L : Slots M) : Type 0 where
  pub short : (m : M) → length (L.enc m) ≤ slot_size
  pub bytes : (m : M) → L.fits m → Bytes (L.enc m)
  pub there : (s : List ℕ) → length s ≡ slot_size → Bytes s → L.ok s ≡ true → pasted 0 (L.enc (L.dec s)) s ≡ s
  pub sound : (s : List ℕ) → length s ≡ slot_size → Bytes s → L.ok s ≡ true → L.fits (L.dec s)
  pub back : (m : M) (s : List ℕ) → length s ≡ slot_size → L.fits m → L.dec (pasted 0 (L.enc m) s) ≡ m
  pub valid : (m : M) (s : List ℕ) → length s ≡ slot_size → L.fits m → L.ok (pasted 0 (L.enc m) s) ≡ true

-- what the record needs of a module type: a module that can be written stays one under every frame of bytes and every tick with a good sample
pub record Preserves {M S : Type 0} (K : Kind M S) (L : Slots M) (Good : S → Type 0) : Type 0 where
  pub execute : (f : Frame) (individual : Bool) (m : M) → Bytes f.content → L.fits m → L.fits (K.execute f individual m)
  pub tick : (x : S) (m : M) → Good x → L.fits m → L.fits (K.tick x m)
