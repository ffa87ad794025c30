-- What is promised of the lent record, whatever the module type. Each is proved under its name, with small letters, in proofs/.
use Rattle.std.specs.Prelude.{◌≡◌, ℕ, ◌<◌, ◌≤◌, List, [], ◌∷◌, true, length, get_or, eqb}
use Rattle.std.proofs.Math.Option.{some}
use Rattle.std.proofs.Math.ListN.{get_elem?}
use Rattle.base_layout.specs.Bytes.{Bytes}
use Rattle.line_receiver.specs.Frames.{Byte}
use Rattle.line_receiver.specs.Promises.{Sound}
use Rattle.module_rules.specs.Kind.{Kind}
use Rattle.chain_rules.specs.Chain.{Net, byte_step, timed}
use Rattle.module_rules.specs.Slots.{Slots, Preserves}
use Rattle.net_rules.specs.Record.{record_size, net_in, stored, valid, chain_most}
use Rattle.net_rules.specs.Calls.{byte_of, bytes_of}

-- every one of some things has P
abbrev pub Each : {A : Type 0} → (A → Type 0) → List A → Type 0
Each P [] = Unit {0}
Each P (x ∷ xs) = P x × Each P xs

-- what holds of every network that a record can hold: a sound receiver, 1 to 32 modules, and each of them can be written
pub record SoundNet {M : Type 0} (L : Slots M) (n : Net M) : Type 0 where
  pub receiver : Sound n.receiver
  pub some : 1 ≤ length n.modules
  pub most : length n.modules ≤ chain_most
  pub each : Each L.fits n.modules

-- A valid record holds a sound network.
abbrev pub Holds : {M : Type 0} → Slots M → Type 0
Holds L = (s : List ℕ) → Bytes s → valid L s ≡ true → SoundNet L (net_in L s)

-- To write the network of a valid record into it changes no byte.
abbrev pub There : {M : Type 0} → Slots M → Type 0
There L = (s : List ℕ) → Bytes s → valid L s ≡ true → stored L (net_in L s) s ≡ s

-- A sound network that is written into a record comes back from it, and the record is then valid, whatever its bytes were before.
abbrev pub Back : {M : Type 0} → Slots M → Type 0
Back {M} L =
    (n : Net M) (s : List ℕ) → SoundNet L n → length s ≡ record_size → Bytes s
    → (net_in L (stored L n s) ≡ n)
    × (valid L (stored L n s) ≡ true)
    × Bytes (stored L n s)
    × (length (stored L n s) ≡ record_size)

-- A sound network stays sound, whatever byte comes, marked or not.
abbrev pub KeptByByte : {M S : Type 0} → Kind M S → Slots M → (S → Type 0) → Type 0
KeptByByte {M} K L Good =
    Preserves K L Good → (n : Net M) (b : Byte) → SoundNet L n → b.value < 256 → SoundNet L (byte_step K n b).net

-- A sound network stays sound when its modules tick with good samples.
abbrev pub KeptByTick : {M S : Type 0} → Kind M S → Slots M → (S → Type 0) → Type 0
KeptByTick {M} {S} K L Good =
    Preserves K L Good → (n : Net M) (xs : List S) → SoundNet L n → Each Good xs
    → SoundNet L (record { receiver = n.receiver; modules = timed K xs n.modules })

-- 02 P2: Each byte of a buffer has the mark that stands at its own place, which is set where it is 1.
pub record Paired (bytes marks : List ℕ) : Type 0 where
  pub long : length (bytes_of bytes marks) ≡ length bytes
  pub each : (i : ℕ) → i < length bytes → get_elem? (bytes_of bytes marks) i ≡ some (byte_of (get_or bytes i 0) (eqb (get_or marks i 0) 1))

abbrev pub OwnMarks : Type 0
OwnMarks = (bytes marks : List ℕ) → length bytes ≡ length marks → Paired bytes marks
