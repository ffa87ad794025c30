-- A tick that reads and puts what runs and the position alone makes of a valid slot the slot of the module that ticked. Assumes nothing.
use mathlib.Core.Path.{◌≡◌, refl, sym, ap, ◌∙◌}
use mathlib.Core.Logic.{◌⊎◌, inl, inr}
use mathlib.Core.List.{List, ◌++◌}
use mathlib.Core.Bool.{Bool, true, false, cond}
use Prim.Native.Nat.{ℕ, ◌+◌, ◌%◌, ◌^◌, ◌<◌, ◌≤◌}
use native.Mathlib.Omega.{arith}
use lib.ListN.{length}
use Rattle.base_layout.specs.Bytes.{pasted, Bytes}
use Rattle.base_layout.proofs.Shape.{number}
use Rattle.module_rules.specs.Slots.{slot_size}
use Rattle.stepper_rules.specs.declared.Sample.{Sample}
use Rattle.stepper_rules.specs.declared.Motion.{Motion}
use Rattle.stepper_rules.specs.declared.Stepper.{Stepper}
use Rattle.stepper_rules.specs.State.{rest, with_motion, with_position}
use Rattle.stepper_rules.specs.Ramp.{onward, moved, ticked}
use Rattle.stepper_slot_rules.specs.Slot.{motion, motion_at, stepper_size, encode_of, decode_of, ok_of}
use Rattle.stepper_slot_rules.specs.Promises.{Moving}
use Rattle.stepper_slot_rules.proofs.Listed.{listed}
use Rattle.stepper_slot_rules.proofs.Over.{run_over}
use Rattle.stepper_slot_rules.proofs.Good.{good}
use Rattle.stepper_slot_rules.proofs.Owed.{owes}

-- fewer ticks are counted than the acceleration time, which is a byte
pub few_ticks : (s : List ℕ) → Bytes s → ok_of s ≡ true → (decode_of s).motion.ticks < 255
unfolding decode_of
few_ticks s b v = at ((listed s b).0 v).motion
  where
    at : ((decode_of s).motion ≡ rest) ⊎ Moving (decode_of s).settings.minimum (decode_of s).motion → (decode_of s).motion.ticks < 255
    at (inl e) = rw (ap (λ (p : Motion). p.ticks) e) (omega arith)
    at (inr h) = omega (arith, h.counted, b (motion_at + 3))

pub tick_is : (x : Sample) (s : List ℕ) {s' : List ℕ} {before after : Motion} {here there : ℕ}
    → stepper_size ≤ length s → Bytes s → ok_of s ≡ true
    → before ≡ (decode_of s).motion
    → after ≡ cond x.stop rest (onward before)
    → here ≡ (decode_of s).position
    → there ≡ moved after here
    → s' ≡ pasted motion_at (motion.codec.enc after ++ (number 4).codec.enc there) s
    → s' ≡ pasted 0 (encode_of (ticked x (decode_of s))) s
unfolding ticked
tick_is x s h bytes ok eb ea eh et p = p ∙ rw (et, eh, ea, eb) (sym (run_over s h bytes ok _ _))

-- ---- at rest

-- a tick at rest changes nothing
rest-ticks : (x : Sample) (m : Stepper) → m.motion ≡ rest → m.position < 2 ^ 32 → ticked x m ≡ m
unfolding ticked moved onward
rest-ticks x m e h =
    ap (λ (q : Motion). with_position (moved q m.position) (with_motion q m)) still ∙ ap (λ (y : ℕ). with_position y m) here
  where
    either : (t : Bool) → cond t rest (onward rest) ≡ rest
    either true = refl
    either false = refl

    still : cond x.stop rest (onward m.motion) ≡ m.motion
    still = ap (λ (q : Motion). cond x.stop rest (onward q)) e ∙ either x.stop ∙ sym e

    here : moved m.motion m.position ≡ m.position
    here = ap (λ (q : Motion). moved q m.position) e ∙ (let z : (m.position + 0) % 2 ^ 32 ≡ m.position = omega arith in z)

pub rest_is : (x : Sample) (s : List ℕ) {before : Motion} → length s ≡ slot_size → Bytes s → ok_of s ≡ true
    → before ≡ (decode_of s).motion
    → before.speed ≡ 0
    → s ≡ pasted 0 (encode_of (ticked x (decode_of s))) s
rest_is x s l b v eb z =
    let m : Stepper = decode_of s in
    let rests : m.motion ≡ rest = at ((listed s b).0 v).motion in
    sym (owes.lawful.there s l b v)
    ∙ ap (λ (n : Stepper). pasted 0 (encode_of n) s) (sym (rest-ticks x m rests (good m (owes.lawful.sound s l b v)).position))
  where
    at : ((decode_of s).motion ≡ rest) ⊎ Moving (decode_of s).settings.minimum (decode_of s).motion → (decode_of s).motion ≡ rest
    at (inl e) = e
    at (inr h) =
        let none : (decode_of s).motion.speed ≡ 0 = sym (ap (λ (p : Motion). p.speed) eb) ∙ z in
        absurd (omega (arith, h.known, h.speed, none))
