-- When a start can be carried out: exactly where what it needs is there. Assumes nothing.
use mathlib.Core.Path.{◌≡◌, refl, sym, ap, ap₂, ◌∙◌}
use mathlib.Core.Logic.{◌⊎◌, inl, inr}
use mathlib.Core.List.{List, [], ◌∷◌}
use mathlib.Core.Bool.{Bool, true, false, not, ◌&&◌, ◌||◌, true≢false}
use borrow.Author.Tests.{eq-eqb, eqb-true, lt-ltb, ltb-true}
use lib.Dec.{eqb, ltb}
use Rattle.base_layout.proofs.Every.{every_hold, hold_every}
use Rattle.stepper_rules.specs.declared.Motion.{Motion}
use Rattle.stepper_rules.specs.declared.Stepper.{Stepper}
use Rattle.stepper_rules.specs.State.{is_moving}
use Rattle.stepper_rules.specs.Perform.{agree, startable}
use Rattle.stepper_rules.specs.FramePromises.{Startable}

pub rests : (p : Motion) → p.speed ≡ 0 → is_moving p ≡ false
rests p e = ap not (eq-eqb p.speed 0 e)

pub agrees : (a b : Bool) → a ≡ b → agree a b ≡ true
agrees true b e = sym e
agrees false b e = ap not (sym e)

pub agreed : (a b : Bool) → agree a b ≡ true → a ≡ b
agreed true true e = refl
agreed true false e = absurd (true≢false (sym e))
agreed false true e = absurd (true≢false (sym e))
agreed false false e = refl

-- ---- a start

-- the four tests of a start
abbrev tests : Stepper → List Bool
tests m =
    ltb 0 m.settings.minimum
    ∷ m.load.waits
    ∷ (ltb 0 m.load.speed && ltb 0 m.load.time)
    ∷ (not (is_moving m.motion) || agree m.load.backward m.motion.backward)
    ∷ []

pub can-start : (m : Stepper) → Startable m → startable m ≡ true
unfolding startable
can-start m s =
    hold_every (tests m) (
      lt-ltb _ _ s.known,
      (
        s.waits,
        (
          ap₂ (λ (a b : Bool). a && b) (lt-ltb 0 m.load.speed s.speed) (lt-ltb 0 m.load.time s.time),
          (way s.way, tt),
        ),
      ),
    )
  where
    way : (m.motion.speed ≡ 0) ⊎ (m.load.backward ≡ m.motion.backward)
        → (not (is_moving m.motion) || agree m.load.backward m.motion.backward) ≡ true
    way (inl e) = ap (λ (t : Bool). not t || agree m.load.backward m.motion.backward) (rests m.motion e)
    way (inr e) = ap (λ (t : Bool). not (is_moving m.motion) || t) (agrees _ _ e) ∙ any (not (is_moving m.motion))
      where
        any : (t : Bool) → (t || true) ≡ true
        any true = refl
        any false = refl

pub was_startable : (m : Stepper) → startable m ≡ true → Startable m
unfolding startable
was_startable m e =
    let h = every_hold (tests m) e in
    let c = every_hold (ltb 0 m.load.speed ∷ ltb 0 m.load.time ∷ []) h.1.1.0 in
    record {
      known = ltb-true _ _ h.0;
      waits = h.1.0;
      speed = ltb-true _ _ c.0;
      time = ltb-true _ _ c.1.0;
      way = at (eqb m.motion.speed 0) refl h.1.1.1.0;
    }
  where
    at : (t : Bool) → eqb m.motion.speed 0 ≡ t → (not (not t) || agree m.load.backward m.motion.backward) ≡ true
        → (m.motion.speed ≡ 0) ⊎ (m.load.backward ≡ m.motion.backward)
    at true e h = inl (eqb-true _ _ e)
    at false e h = inr (agreed _ _ h)
