-- Which Set Homing was sent, through any calls. Assumes nothing.
use mathlib.Core.Path.{◌≡◌, refl, sym, ap, ◌∙◌}
use mathlib.Core.Logic.{◌⊎◌, inl, inr}
use mathlib.Core.List.{List}
use mathlib.Core.Bool.{Bool, true, false}
use Prim.Native.Nat.{ℕ, suc}
use native.Mathlib.Omega.{arith}
use native.Mathlib.Nat.{le_refl}
use borrow.Author.Tests.{eqb-true, eqb-false}
use lib.Dec.{eqb}
use Rattle.line_receiver.specs.Frames.{Frame}
use Rattle.servo_rules.specs.declared.Homing.{Homing}
use Rattle.servo_rules.specs.declared.Sample.{Sample}
use Rattle.servo_rules.specs.declared.Servo.{Servo}
use Rattle.servo_rules.specs.State.{started}
use Rattle.servo_rules.specs.Homing.{changed}
use Rattle.servo_rules.specs.Tick.{ticked}
use Rattle.servo_rules.specs.Answers.{with_cause, execute}
use Rattle.servo_rules.proofs.FindingHome.{searches, finds}
use Rattle.servo_rules.proofs.HomingBytes.{only_by_these}
use Rattle.types_rules.specs.Table.{servo}
use Rattle.api_rules.specs.Promises.{ValidRecord}
use Rattle.demands_history_rules.specs.Calls.{Call, AllHanded}
use Rattle.demands_rules.specs.ServoPlace.{Executed}
use Rattle.demands_rules.specs.Loaded.{control}
use Rattle.demands_rules.specs.Sent.{HomingSent}
use Rattle.demands_rules.proofs.Placing.{Carries}
use Rattle.demands_rules.proofs.Since.{none_on, none_yet}
use Rattle.demands_rules.proofs.EachCall.{each-call}

-- what takes its place, or ends it
abbrev Arms : Frame → Type 0
Arms g = (g.code ≡ 9) ⊎ (g.code ≡ 15)

module _ (net : List ℕ) (cs : List Call) (i : ℕ) where
  -- a byte of homing in progress was sent
  abbrev pub Armed : ℕ → Servo → Type 0
  Armed n m = (m.homing.byte ≡ 0 → ⊥) → (f : Frame) × (control f ≡ m.homing.byte) × HomingSent net cs i f n

  -- so it is where the byte is as it was, and no Set Homing or Hard Reset is executed
  keeps : (n : ℕ) (m k : Servo) → k.homing.byte ≡ m.homing.byte → ((g : Frame) → Executed net cs i n g → Arms g → ⊥) → Armed n m → Armed (suc n) k
  keeps n m k e u p z =
      let (f, c, s) = p (λ q. z (e ∙ q)) in (
        f,
        c ∙ sym e,
        record {
          by = s.by;
          earlier = omega (arith, s.earlier);
          executed = s.executed;
          code = s.code;
          last = none_on servo net cs i Arms s.by n s.last u;
        },
      )

  frame_arms : (n : ℕ) (m : Servo) (f : Frame) (alone : Bool) → f.damaged ≡ false → Executed net cs i n f → ((g : Frame) → Executed net cs i n g → g ≡ f)
      → (execute f alone m).station.cause ≡ 0 → Armed n m → Armed (suc n) (execute f alone m)
  frame_arms n m f alone d x one c p = at (eqb f.code 9) refl (eqb f.code 15) refl (eqb f.code 0) refl
    where
      neither : (f.code ≡ 9 → ⊥) → (f.code ≡ 15 → ⊥) → (g : Frame) → Executed net cs i n g → Arms g → ⊥
      neither s r g y (inl e) = s (ap (λ (g : Frame). g.code) (sym (one g y)) ∙ e)
      neither s r g y (inr e) = r (ap (λ (g : Frame). g.code) (sym (one g y)) ∙ e)

      none : (f.code ≡ 0 → ⊥) → (f.code ≡ 9 → ⊥) → (f.code ≡ 15 → ⊥) → (f.code ≡ 0) ⊎ ((f.code ≡ 9) ⊎ (f.code ≡ 15)) → ⊥
      none z s r (inl e) = z e
      none z s r (inr (inl e)) = s e
      none z s r (inr (inr e)) = r e

      at : (s : Bool) → eqb f.code 9 ≡ s → (r : Bool) → eqb f.code 15 ≡ r → (z : Bool) → eqb f.code 0 ≡ z → Armed (suc n) (execute f alone m)
      at true e r y z q =
          let h = eqb-true _ 9 e in
          λ b. (
            f,
            sym (ap (λ (h : Homing). h.byte) ((only_by_these f alone m d).set h c)),
            record {
              by = n;
              earlier = le_refl (suc n);
              executed = x;
              code = h;
              last = none_yet servo net cs i Arms n;
            },
          )
      at false e true y z q = λ b. absurd (b (ap (λ (h : Homing). h.byte) ((only_by_these f alone m d).reset (eqb-true _ 15 y) c)))
      at false e false y true q =
          keeps n m (execute f alone m) (ap (λ (h : Homing). h.byte) ((only_by_these f alone m d).shift (eqb-true _ 0 q) c)) (neither (eqb-false _ 9 e) (eqb-false _ 15 y)) p
      at false e false y false q =
          keeps n m (execute f alone m)
          (ap (λ (h : Homing). h.byte) ((only_by_these f alone m d).others (λ c. none (eqb-false _ 0 q) (eqb-false _ 9 e) (eqb-false _ 15 y))))
          (neither (eqb-false _ 9 e) (eqb-false _ 15 y)) p

  tick_arms : (n : ℕ) (m : Servo) (x : Sample) → ((f : Frame) → Executed net cs i n f → ⊥) → Armed n m → Armed (suc n) (ticked x m)
  tick_arms n m x u p = at (changed m.homing.byte m.latched.inputs x.inputs) refl
    where
      at : (t : Bool) → changed m.homing.byte m.latched.inputs x.inputs ≡ t → Armed (suc n) (ticked x m)
      at true c = λ b. absurd (b (ap (λ (h : Homing). h.byte) (finds x m c)))
      at false c = keeps n m (ticked x m) (ap (λ (h : Homing). h.byte) (searches x m c)) (λ g y a. u g y) p

  pub armed_on : ValidRecord net → AllHanded cs → Carries servo net cs i Armed
  armed_on v h = each-call net cs i v h Armed (record {
    same = λ n m u p. keeps n m m refl (λ g y a. u g y) p;
    refused = λ n m c u p. keeps n m (with_cause c m) refl (λ g y a. u g y) p;
    done = λ n m f alone t. frame_arms n m f alone;
    tick = λ n m x t t' u st k st' o p. tick_arms n m x u p;
  })

  pub started_armed : Armed 0 started
  started_armed z = absurd (z refl)
