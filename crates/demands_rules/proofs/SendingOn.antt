-- What was sent, carried over a call that changes no goal; and a speed just after a frame or a stop of homing's. Assumes nothing.
use mathlib.Core.Path.{◌≡◌, sym, ap, subst, ◌∙◌}
use mathlib.Core.Logic.{◌⊎◌, inl, inr}
use mathlib.Core.List.{List}
use Prim.Native.Nat.{ℕ, suc, ◌<◌, ◌≤◌}
use native.Mathlib.Omega.{arith}
use native.Mathlib.Nat.{le_refl, le_trans}
use lib.IntN.{ℤ, pos, negsuc, nat_abs}
use Rattle.base_integers.specs.Whole.{less}
use Rattle.line_receiver.specs.Frames.{Frame}
use Rattle.servo_rules.specs.declared.Halt.{Halt}
use Rattle.servo_rules.specs.declared.Mode.TheVariants.{Hold, Velocity}
use Rattle.servo_rules.specs.declared.Servo.{Servo}
use Rattle.servo_rules.specs.Carried.{needed}
use Rattle.types_rules.specs.Table.{servo}
use Rattle.demands_history_rules.specs.Calls.{Call}
use Rattle.demands_rules.specs.ServoPlace.{Stands, Executed, Homed, Since}
use Rattle.demands_rules.specs.Sent.{Halts, Drops, HeldAt, SlowingSent, HoldSent, HoldHomed, WasSent}
use Rattle.demands_rules.proofs.Alike.{Alike}
use Rattle.demands_rules.proofs.Placing as Placing
use Rattle.demands_rules.proofs.Since.{up_to, none_on, since_on, began_on}

-- k is the servo after n calls
abbrev pub Only : List ℕ → List Call → ℕ → ℕ → Servo → Type 0
Only = Placing.Only servo

pub zero_size : (z : ℤ) → nat_abs z ≤ 0 → z ≡ pos 0
zero_size (pos n) h = let e : n ≡ 0 = omega arith in ap pos e
zero_size (negsuc n) h = absurd (omega arith)

module _ (net : List ℕ) (cs : List Call) (i : ℕ) where
  -- from call j on, before call n, no frame was executed here and no stop of homing's acted
  abbrev Calm : ℕ → ℕ → Type 0
  Calm j n = ((x : ℕ) (f : Frame) → j ≤ x → x < n → Executed net cs i x f → ⊥) × ((x : ℕ) (h : Halt) → j ≤ x → x < n → Homed net cs i h x → ⊥)

  -- one call more, from m to k
  module _ (n : ℕ) (m k : Servo) (stands : Stands net cs i n m) (only : Only net cs i (suc n) k) where
    -- a start is before the calls since
    at_last : {P : Servo → Type 0} (s : ℕ) → s < n → Since net cs i s n P → P m
    at_last s l h = h n m l (le_refl n) stands

    -- where neither the goal nor a hold is changed
    pub alike-sent : Alike m k → ((f : Frame) → Executed net cs i n f → Halts f → ⊥) → WasSent net cs i n m → WasSent net cs i (suc n) k
    alike-sent a h w = record {
      move = λ q.
          let (s, v, c, gv, gc, b) = w.move (sym a.mode ∙ q) in (
            s,
            v,
            c,
            gv,
            gc,
            began_on servo needed Drops net cs i s n k b only (λ f x. x) (λ before m f x. x)
                (λ before f x. let y = at_last s b.earlier x in (q, a.goal ∙ y.1, a.top ∙ y.2, a.acceleration ∙ y.3)),
          );
      speed = λ q z.
          let (s, v, c, gv, gc, b) = w.speed (sym a.mode ∙ q) (λ e. z (a.aim ∙ e)) in (
            s,
            v,
            c,
            gv,
            gc,
            began_on servo needed Drops net cs i s n k b only (λ f x. x) (λ before m f x. x)
                (λ before f x. let y = at_last s b.earlier x in (q, a.aim ∙ y.1, a.acceleration ∙ y.2)),
          );
      slowing = λ q z y. slow q z (sym a.mode ∙ q) (sym a.aim ∙ z) y;
      pulse = λ q.
          let (s, b) = w.pulse (sym a.mode ∙ q) in (
            s,
            began_on servo needed Drops net cs i s n k b only (λ f x. x) (λ before m f x. x)
                (λ before f x. let y = at_last s b.earlier x in (q, a.pulse ∙ y.1)),
          );
      hold = λ q. held q (sym a.mode ∙ q) (w.hold (sym a.mode ∙ q));
    }
      where
        slow : k.run.drive.mode ≡ Velocity → k.run.profile.aim ≡ pos 0 → m.run.drive.mode ≡ Velocity → m.run.profile.aim ≡ pos 0
            → (k.run.profile.speed ≡ pos 0 → ⊥) → SlowingSent net cs i (suc n) k
        slow q z q' z' y =
            let less : nat_abs k.run.profile.speed ≤ nat_abs m.run.profile.speed = a.slower q' z' in
            let ((s, b), fall) = w.slowing q' z' (λ e. y (at_rest_lem e less)) in (
              (s, began_on servo needed Drops net cs i s n k b only (λ f x. x) (λ before m f x. x) (λ before f x. inl q)),
              λ j r l e none homed. by j r e (up_to j n l) less (λ j r l e c. fall j r l e c.0 c.1) (none, homed),
            )
          where
            at_rest_lem : m.run.profile.speed ≡ pos 0 → nat_abs k.run.profile.speed ≤ nat_abs m.run.profile.speed → k.run.profile.speed ≡ pos 0
            at_rest_lem e l = zero_size k.run.profile.speed (subst (λ (z : ℤ). nat_abs k.run.profile.speed ≤ nat_abs z) e l)

            by : (j : ℕ) (r : Servo) → Stands net cs i j r → (j ≤ n) ⊎ (j ≡ suc n)
                → nat_abs k.run.profile.speed ≤ nat_abs m.run.profile.speed
                → ((j : ℕ) (r : Servo) → j ≤ n → Stands net cs i j r → Calm j n → nat_abs m.run.profile.speed ≤ nat_abs r.run.profile.speed)
                → Calm j (suc n)
                → nat_abs k.run.profile.speed ≤ nat_abs r.run.profile.speed
            by j r e (inl l) less fall (none, homed) =
                le_trans less (fall j r l e (λ x f p q z. none x f p (omega arith) z, λ x h p q z. homed x h p (omega arith) z))
            by j r e (inr l) less fall calm =
                subst (λ (r : Servo). nat_abs k.run.profile.speed ≤ nat_abs r.run.profile.speed) (sym (only r (subst (λ (j : ℕ). Stands net cs i j r) l e))) (le_refl _)

        held : k.run.drive.mode ≡ Hold → m.run.drive.mode ≡ Hold → HoldSent net cs i n ⊎ HoldHomed net cs i n → HoldSent net cs i (suc n) ⊎ HoldHomed net cs i (suc n)
        held q q' (inr b) = inr (record {
          by = b.by;
          homed = b.homed;
          asked = b.asked;
          sent = b.sent;
          bit = b.bit;
          earlier = omega (arith, b.earlier);
          last = none_on servo net cs i Halts b.by n b.last h;
          since = since_on servo net cs i _ b.by n k b.since only (q, a.held q' ∙ (at_last b.by b.earlier b.since).1);
        })
        held q q' (inl b) = inl (record {
          by = b.by;
          stop = b.stop;
          executed = b.executed;
          code = b.code;
          before = b.before;
          stood = b.stood;
          earlier = omega (arith, b.earlier);
          last = none_on servo net cs i Halts b.by n b.last h;
          since = since_on servo net cs i _ b.by n k b.since only (q, subst (HeldAt b.before b.stop) (sym (a.held q')) (at_last b.by b.earlier b.since).1);
        })

    -- since a frame executed by the last call, or a stop of homing's in it, no speed can have grown
    abbrev pub Lately : Type 0
    Lately = ((f : Frame) × Executed net cs i n f) ⊎ ((h : Halt) × Homed net cs i h n)

    pub just-now : Lately → (j : ℕ) (r : Servo) → j ≤ suc n → Stands net cs i j r
        → ((x : ℕ) (f : Frame) → j ≤ x → x < suc n → Executed net cs i x f → ⊥)
        → ((x : ℕ) (h : Halt) → j ≤ x → x < suc n → Homed net cs i h x → ⊥)
        → nat_abs k.run.profile.speed ≤ nat_abs r.run.profile.speed
    just-now lately j r l e none homed = at lately (up_to j n l)
      where
        at : Lately → (j ≤ n) ⊎ (j ≡ suc n) → nat_abs k.run.profile.speed ≤ nat_abs r.run.profile.speed
        at (inl (f, x)) (inl l) = absurd (none n f l (le_refl (suc n)) x)
        at (inr (h, x)) (inl l) = absurd (homed n h l (le_refl (suc n)) x)
        at z (inr l) = subst (λ (r : Servo). nat_abs k.run.profile.speed ≤ nat_abs r.run.profile.speed) (sym (only r (subst (λ (j : ℕ). Stands net cs i j r) l e))) (le_refl _)
