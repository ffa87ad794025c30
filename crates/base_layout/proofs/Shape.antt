-- A layout together with its laws, so that a struct's layout is written once. Assumes nothing.
use mathlib.Core.Path.{◌≡◌}
use mathlib.Core.List.{List}
use mathlib.Core.Bool.{Bool}
use Prim.Native.Nat.{ℕ, ◌<◌, ◌≤◌}
use lib.IntN.{ℤ}
use Rattle.base_layout.specs.Codec as C
use Rattle.base_layout.specs.Codec.{Codec}
use Rattle.base_layout.proofs.Codec.{Lawful, byte_lawful, number_lawful, whole_lawful, capped_lawful, one_of_lawful, stamp_lawful, raw_lawful, topped_lawful, flag_lawful, then_lawful, shaped_lawful, such_lawful}

pub record Shape (A : Type 0) : Type 1 where
  pub codec : Codec A
  pub lawful : Lawful codec

abbrev pub byte : Shape ℕ
byte = record { codec = C.byte; lawful = byte_lawful }

abbrev pub number : ℕ → Shape ℕ
number k = record { codec = C.number k; lawful = number_lawful k }

abbrev pub whole : Shape ℤ
whole = record { codec = C.whole; lawful = whole_lawful }

abbrev pub capped : ℕ → Shape ℕ
capped m = record { codec = C.capped m; lawful = capped_lawful m }

abbrev pub one_of : {A : Type 0} (m : ℕ) → m < 256 → (to : A → ℕ) (from : ℕ → A) → ((x : A) → to x ≤ m) → ((x : A) → from (to x) ≡ x) → ((n : ℕ) → n ≤ m → to (from n) ≡ n) → Shape A
one_of m small to from h ft tf = record { codec = C.one_of m to from; lawful = one_of_lawful m small to from h ft tf }

abbrev pub topped : ℕ → Shape ℕ
topped m = record { codec = C.topped m; lawful = topped_lawful m }

abbrev pub stamp : (c : ℕ) → c < 256 → Shape (Unit {0})
stamp c small = record { codec = C.stamp c; lawful = stamp_lawful c small }

abbrev pub raw : ℕ → Shape (List ℕ)
raw k = record { codec = C.raw k; lawful = raw_lawful k }

abbrev pub flag : Shape Bool
flag = record { codec = C.flag; lawful = flag_lawful }

infixr 40 ◌then◌
abbrev pub ◌then◌ : {A B : Type 0} → Shape A → Shape B → Shape (A × B)
a then b = record { codec = C.◌then◌ a.codec b.codec; lawful = then_lawful a.lawful b.lawful }

abbrev pub shaped : {A B : Type 0} (to : A → B) (from : B → A) → ((x : A) → from (to x) ≡ x) → ((y : B) → to (from y) ≡ y) → Shape A → Shape B
shaped to from ft tf a = record { codec = C.shaped to from a.codec; lawful = shaped_lawful a.lawful to from ft tf }

abbrev pub such : {A : Type 0} → (A → Bool) → Shape A → Shape A
such ok a = record { codec = C.such ok a.codec; lawful = such_lawful a.lawful ok }
