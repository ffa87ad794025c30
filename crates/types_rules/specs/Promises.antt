-- What is promised of the module types. Each is proved under its name, with small letters, in proofs/.
use Rattle.std.specs.Prelude.{◌≡◌, true, false, ◌⊎◌, ◌↔◌, ℕ, ◌+◌, ◌*◌, ◌<◌, ◌≤◌, List, [], ◌∷◌, length}
use Rattle.line_receiver.specs.Frames.{Frame}
use Rattle.module_rules.specs.Report.{Fit}
use Rattle.module_rules.specs.Rules.{reply}
use Rattle.module_rules.specs.Owes.{reply_size}
use Rattle.module_rules.specs.Promises.{Cause, CauseTested, CauseIs, AddressKept, Resets, StatusFirst, Replied, ReadShown, Short}
use Rattle.module_rules.specs.FramePromises.{AtPowerUp, Stored, Counts}
use Rattle.types_rules.specs.Table.{ModuleType, servo, inout, stepper, Of, rules_of, slots_of}
use Rattle.types_rules.specs.Types.{known, sample_in, in_range}

-- 01 Numbers given back, 12, 02 P3: the types are 0, 2 and 3.
abbrev pub ThereIs : ℕ → Type 0
ThereIs n = (n ≡ 0) ⊎ ((n ≡ 2) ⊎ (n ≡ 3))

abbrev pub Numbers : Type 0
Numbers = (n : ℕ) → (known n ≡ true) ↔ ThereIs n

-- Every type of the table keeps what is promised of a module of any type (module_rules).
pub record Keeps (t : ModuleType) : Type 0 where
  pub cause : Cause (rules_of t)
  pub tested : CauseTested (rules_of t)
  pub cause_is : CauseIs (rules_of t)
  pub address : AddressKept (rules_of t)
  pub resets : Resets (rules_of t)
  pub status_first : StatusFirst (rules_of t)
  pub replied : Replied (rules_of t)
  pub read_shown : ReadShown (rules_of t)
  pub short : Short (rules_of t)
  -- a reply has at most 19 bytes, what is driven is eight, and every number fits into its item's bytes, so that a reply spells it whole
  pub most : (f : Frame) (m : Of t) → length (reply (rules_of t) f m) ≤ reply_size
  pub eight : (m : Of t) → (slots_of t).fits m → length ((rules_of t).outputs m) ≡ 8
  pub spelled : (m : Of t) → (slots_of t).fits m → Fit (rules_of t).sizes ((rules_of t).numbers m)

abbrev pub EveryType : Type 0
EveryType = (t : ModuleType) → Keeps t

-- Of every type of the table, by the bytes of a frame: what the commands of every type store and how many data bytes they take, and who a module
-- is at power-up.
pub record Obeys (t : ModuleType) : Type 0 where
  pub stored : Stored (rules_of t)
  pub counts : Counts (rules_of t)
  pub powers_up : AtPowerUp ((rules_of t).station (rules_of t).started)

abbrev pub EveryFrame : Type 0
EveryFrame = (t : ModuleType) → Obeys t

-- 02 P3: which item bytes there are: all of them, and of a step-motor module those with no bit but 0 and 5.
pub record ItemBytes : Type 0 where
  pub servo : (b : ℕ) → (rules_of servo).shows b ≡ true
  pub inout : (b : ℕ) → (rules_of inout).shows b ≡ true
  pub stepper : (b : ℕ) → ((rules_of stepper).shows b ≡ true) ↔ ((b ≡ 0x00) ⊎ ((b ≡ 0x01) ⊎ ((b ≡ 0x20) ⊎ (b ≡ 0x21))))

-- 02 P11: the ten bytes of a sample, of each type: power, A/D byte, raw count and limit inputs (02 P8), with two bytes that are not looked at; input
-- bits, three A/D bytes and counter; the stop input, with eight bytes that are not looked at (02 P3). Its fields are in range with a power of 0 to 2
-- and no limit input but the two, with twelve input bits, with a stop input of 0 or 1.
pub record SampleBytes : Type 0 where
  pub servo : (power ad r0 r1 r2 r3 limits a b : ℕ)
      → sample_in (0 ∷ power ∷ ad ∷ r0 ∷ r1 ∷ r2 ∷ r3 ∷ limits ∷ a ∷ b ∷ [])
      ≡ (servo, record { raw = r0 + 256 * r1 + 65536 * r2 + 16777216 * r3; power = power; ad = ad; inputs = limits })
  pub inout : (i0 i1 ad1 ad2 ad3 c0 c1 c2 c3 : ℕ)
      → sample_in (2 ∷ i0 ∷ i1 ∷ ad1 ∷ ad2 ∷ ad3 ∷ c0 ∷ c1 ∷ c2 ∷ c3 ∷ [])
      ≡ (
        inout,
        record { inputs = i0 + 256 * i1; ad1 = ad1; ad2 = ad2; ad3 = ad3; counter = c0 + 256 * c1 + 65536 * c2 + 16777216 * c3 },
      )
  pub stepper : (a b c d e f g h : ℕ)
      → (sample_in (3 ∷ 0 ∷ a ∷ b ∷ c ∷ d ∷ e ∷ f ∷ g ∷ h ∷ []) ≡ (stepper, record { stop = false }))
      × (sample_in (3 ∷ 1 ∷ a ∷ b ∷ c ∷ d ∷ e ∷ f ∷ g ∷ h ∷ []) ≡ (stepper, record { stop = true }))
  pub power : (power ad r0 r1 r2 r3 limits : ℕ) (rest : List ℕ)
      → (in_range (0 ∷ power ∷ ad ∷ r0 ∷ r1 ∷ r2 ∷ r3 ∷ limits ∷ rest) ≡ true) ↔ ((power ≤ 2) × (limits ≤ 3))
  pub inputs : (i0 i1 : ℕ) (rest : List ℕ) → i0 < 256 → (in_range (2 ∷ i0 ∷ i1 ∷ rest) ≡ true) ↔ (i0 + 256 * i1 ≤ 4095)
  pub stop : (stop : ℕ) (rest : List ℕ) → (in_range (3 ∷ stop ∷ rest) ≡ true) ↔ (stop ≤ 1)
