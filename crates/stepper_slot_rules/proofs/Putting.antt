-- The parts of a module, put one after another, are its bytes. Assumes nothing.
use mathlib.Core.Path.{◌≡◌, refl, ap, ◌∙◌}
use mathlib.Core.List.{List, ◌∷◌, ◌++◌}
use Prim.Native.Nat.{ℕ, ◌≤◌}
use native.Mathlib.Omega.{arith}
use lib.ListN.{length}
use Rattle.base_layout.specs.Bytes.{pasted}
use Rattle.base_layout.proofs.Pasted.{put_next}
use Rattle.base_layout.proofs.Shape.{number}
use Rattle.module_rules.specs.Slot.{station}
use Rattle.stepper_rules.specs.declared.Stepper.{Stepper}
use Rattle.stepper_rules.specs.Answers.{type_number}
use Rattle.stepper_slot_rules.specs.Slot.{settings, load, motion, settings_at, motion_at, stepper_size, encode_of}

pub put_is : (m : Stepper) (s : List ℕ) {head stored a b c : List ℕ} → stepper_size ≤ length s
    → head ≡ type_number ∷ station.codec.enc m.station
    → stored ≡ settings.codec.enc m.settings ++ load.codec.enc m.load
    → a ≡ pasted 0 head s
    → b ≡ pasted settings_at stored a
    → c ≡ pasted motion_at (motion.codec.enc m.motion ++ (number 4).codec.enc m.position) b
    → c ≡ pasted 0 (encode_of m) s
unfolding encode_of
put_is m s {a = a} {b = b} h eh es pa pb pc =
    let head : List ℕ = type_number ∷ station.codec.enc m.station in
    let stored : List ℕ = settings.codec.enc m.settings ++ load.codec.enc m.load in
    let run : List ℕ = motion.codec.enc m.motion ++ (number 4).codec.enc m.position in
    let first : a ≡ pasted 0 head s = pa ∙ ap (λ (l : List ℕ). pasted 0 l s) eh in
    let second : b ≡ pasted 0 (head ++ stored) s =
    put_next head stored s 0 settings_at refl (omega arith) first (pb ∙ ap (λ (l : List ℕ). pasted settings_at l a) es) in
    put_next (head ++ stored) run s 0 motion_at refl (omega arith) second pc
