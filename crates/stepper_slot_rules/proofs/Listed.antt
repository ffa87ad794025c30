-- A slot is valid exactly when it satisfies the written list. Assumes nothing.
use mathlib.Core.Path.{◌≡◌, ap₂}
use mathlib.Core.Logic.{◌⊎◌, inl, inr}
use mathlib.Core.List.{List}
use mathlib.Core.Bool.{true, ◌&&◌}
use Prim.Native.Nat.{ℕ, ◌+◌, ◌<◌}
use borrow.Author.Tests.{eqb-true, eq-eqb, leb-true, le-leb}
use Rattle.base_layout.specs.Bytes.{Bytes}
use Rattle.base_layout.proofs.Every.{every_hold, hold_every}
use Rattle.base_layout.proofs.Codec.{head_sound}
use Rattle.stepper_rules.specs.declared.Motion.{Motion}
use Rattle.stepper_rules.specs.declared.Stepper.{Stepper}
use Rattle.stepper_rules.specs.State.{rest}
use Rattle.stepper_rules.proofs.Frames.{item_bits}
use Rattle.stepper_slot_rules.specs.Slot.{slot, motion_at, decode_of, ok_of}
use Rattle.stepper_slot_rules.specs.Promises.{Fits, Moving, Lines, Listed}
use Rattle.stepper_slot_rules.proofs.Steady.{Steady, steady_fits, motion_fits}
use Rattle.stepper_slot_rules.proofs.Good.{good}

-- the facts of a list of tests, one after another
infixr 40 ◌and◌
pub ◌and◌ : {A B : Type 0} → A → B → A × B
a and b = (a, b)

-- ---- what runs

module _ (minimum : ℕ) (p : Motion) where
  runs : Steady minimum p → (p ≡ rest) ⊎ Moving minimum p
  runs (inl e) = inl e
  runs (inr h) = inr h.0

  steady : p.time < 256 → (p ≡ rest) ⊎ Moving minimum p → Steady minimum p
  steady t (inl e) = inl e
  steady t (inr h) = inr (h, t)

-- ---- the list

there : (s : List ℕ) → Bytes s → ok_of s ≡ true → Lines s
unfolding ok_of decode_of
there s b v =
    let m : Stepper = decode_of s in
    let t : Fits m = head_sound slot.lawful s b v in
    let g = good m t in
    let h = every_hold (slot.codec.tests 0 s) v in
    let own = h.1.1.1.1 in
    record {
      type_byte = eqb-true _ _ h.0;
      leader = leb-true _ _ h.1.0;
      low = leb-true _ _ h.1.1.0;
      cause = leb-true _ _ h.1.1.1.0;
      items = (item_bits m.station.items).0 g.shown;
      amplifier = leb-true _ _ own.0;
      minimum = g.settings.1.0.1;
      waits = leb-true _ _ own.1.1.0;
      load_backward = leb-true _ _ own.1.1.1.0;
      load_speed = g.load.1.1.0.1;
      backward = leb-true _ _ own.1.1.1.1.1.1.0;
      stopping = leb-true _ _ own.1.1.1.1.1.1.1.1.0;
      motion = runs _ m.motion g.motion;
    }

back : (s : List ℕ) → Bytes s → Lines s → ok_of s ≡ true
unfolding ok_of decode_of
back s b l =
    let m : Stepper = decode_of s in
    let r : Steady m.settings.minimum m.motion = steady _ m.motion (b (motion_at + 3)) l.motion in
    let f = motion_fits m.settings.minimum m.motion r in
    hold_every (slot.codec.tests 0 s)
    (eq-eqb _ _ l.type_byte
    and le-leb _ _ l.leader
    and le-leb _ _ l.low
    and le-leb _ _ l.cause
    and le-leb _ _ l.amplifier
    and le-leb _ _ l.minimum
    and le-leb _ _ l.waits
    and le-leb _ _ l.load_backward
    and le-leb _ _ l.load_speed
    and le-leb _ _ f.0.1
    and le-leb _ _ l.backward
    and le-leb _ _ f.1.1.0.1
    and le-leb _ _ l.stopping
    and ap₂ ◌&&◌ ((item_bits m.station.items).1 l.items) (steady_fits m.settings.minimum m.motion r)
    and tt)

pub listed : Listed
listed s b = (there s b, back s b)
