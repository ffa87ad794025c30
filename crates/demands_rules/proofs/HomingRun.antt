-- A homing run on the line. Assumes nothing.
use mathlib.Core.Path.{◌≡◌, refl, sym, ap, ap₂, subst, ◌∙◌}
use mathlib.Core.Logic.{inl, inr}
use mathlib.Core.List.{List}
use mathlib.Core.Bool.{Bool, true, false}
use Prim.Native.Nat.{ℕ, ◌+◌, ◌%◌, ◌^◌}
use native.Mathlib.Nat.{le_refl}
use lib.ListN.{length}
use lib.Seq.{take-length}
use Rattle.line_receiver.specs.Frames.{Frame}
use Rattle.servo_rules.specs.declared.Homing.{Homing}
use Rattle.servo_rules.specs.declared.Order.{Order}
use Rattle.servo_rules.specs.declared.Order.TheVariants.{ResetPosition, LoadTrajectory, Start, SetGain, Stop, SetHoming, ClearBits}
use Rattle.servo_rules.specs.declared.Sample.{Sample}
use Rattle.servo_rules.specs.declared.Servo.{Servo}
use Rattle.servo_rules.specs.Loads.{loaded, starts_now, start}
use Rattle.servo_rules.specs.Homing.{changed}
use Rattle.servo_rules.specs.Perform.{reset_position, stopped, perform}
use Rattle.servo_rules.specs.Tick.{ticked}
use Rattle.servo_rules.specs.Answers.{execute}
use Rattle.servo_rules.specs.HomingPromises.{Alike}
use Rattle.servo_rules.proofs.Known.{Known, known}
use Rattle.servo_rules.proofs.Keeping.{either}
use Rattle.servo_rules.proofs.Framed.{leaves as Leaves-by}
use Rattle.servo_rules.proofs.Ticking.{ticks}
use Rattle.servo_rules.proofs.FindingHome.{unchanged, alike, searches, finds}
use Rattle.servo_slot_rules.specs.Promises.{Fits}
use Rattle.servo_slot_rules.proofs.Good.{good}
use Rattle.module_rules.specs.Rules.{wants}
use Rattle.types_rules.specs.Table.{servo}
use Rattle.types_rules.specs.Types.{slots}
use Rattle.net_rules.specs.Record.{net_in}
use Rattle.api_rules.specs.Promises.{ValidRecord}
use Rattle.api_rules.proofs.TickBounds.{own_ten}
use Rattle.demands_history_rules.specs.Calls.{Call, tick, AllHanded, leaves, left_by}
use Rattle.demands_history_rules.proofs.Calls.{call_kept}
use Rattle.demands_rules.specs.Place.{UndisturbedBy}
use Rattle.demands_rules.specs.ServoPlace.{At, servo_sample_at}
use Rattle.demands_rules.specs.Sent.{encoder}
use Rattle.demands_rules.specs.HomingRun.{Rearms, FoundBy, HomesOnTheLine}
use Rattle.demands_rules.proofs.Alike.{put_on, raw-back}
use Rattle.demands_rules.proofs.Making.{same_place, fits_at}
use Rattle.demands_rules.proofs.Placing.{valid-after, Carries, carried_on}
use Rattle.demands_rules.proofs.EachCall.{each-call}

-- alike both ways, and with what is alike
back : (b x y : ℕ) → Alike b x y → Alike b y x
back b x y (p, q) = (λ t. sym (p t), λ t. sym (q t))

along : (b x y z : ℕ) → Alike b x y → Alike b y z → Alike b x z
along b x y z (p, q) (r, s) = (λ t. p t ∙ r t, λ t. q t ∙ s t)

module _ (b : ℕ) (s : Servo) where
  -- homing with this byte, home where it was on the encoder, and the watched inputs as they were
  record On (k : Servo) : Type 0 where
    byte : k.homing.byte ≡ b
    home : encoder k k.homing.home ≡ encoder s s.homing.home
    inputs : Alike b s.latched.inputs k.latched.inputs

  -- so it is where these three are as they were
  as_was : (m k : Servo) → k.homing ≡ m.homing → k.counts.offset ≡ m.counts.offset → k.latched ≡ m.latched → On m → On k
  as_was m k h o l p = record {
    byte = ap (λ (h : Homing). h.byte) h ∙ p.byte;
    home = ap₂ (λ (x y : ℕ). (x + y) % 2 ^ 32) (ap (λ (h : Homing). h.home) h) o ∙ p.home;
    inputs = subst (λ (x : Sample). Alike b s.latched.inputs x.inputs) (sym l) p.inputs;
  }

  shift_on : (m : Servo) → Fits m → On m → On (reset_position m)
  unfolding reset_position
  shift_on m t p =
      let g = good m t in
      record {
        byte = p.byte;
        home = put_on m.homing.home m.latched.raw m.counts.offset g.homing.0 g.latched.1.1.0 g.counts.0 ∙ p.home;
        inputs = p.inputs;
      }

  order-on : (f : Frame) (c : Order) (m : Servo) → Known f (wants c) → (Rearms f → ⊥) → Fits m → On m → On (perform c m)
  unfolding loaded start stopped
  order-on f ResetPosition m k n t p = shift_on m t p
  order-on f (LoadTrajectory c) m k n t p =
      either On (starts_now c) (start (loaded c m)) (loaded c m) (as_was m (start (loaded c m)) refl refl refl p) (as_was m (loaded c m) refl refl refl p)
  order-on f Start m k n t p = as_was m (start m) refl refl refl p
  order-on f (SetGain g) m k n t p = as_was m (perform (SetGain g) m) refl refl refl p
  order-on f (Stop a h x) m k n t p = as_was m (stopped a h x m) refl refl refl p
  order-on f (SetHoming c) m k n t p = absurd (n (inl k.0))
  order-on f ClearBits m k n t p = as_was m (perform ClearBits m) refl refl refl p

  frame_on : (f : Frame) (alone : Bool) (m : Servo) → (Rearms f → ⊥) → Fits m → On m → On (execute f alone m)
  frame_on f alone m n t p = Leaves-by On f alone m (record {
    kept = λ s. as_was m _ refl refl refl p;
    renewed = λ d q. absurd (n (inr (subst (Known f) q (known f alone))));
    performed = λ c d q z. as_was (perform c m) _ refl refl refl (order-on f c m (subst (Known f) q (known f alone)) n t p);
  })

  -- a watched input that is as it was has not changed since the tick before
  still : (x : Sample) (m : Servo) → On m → Alike b s.latched.inputs x.inputs → changed m.homing.byte m.latched.inputs x.inputs ≡ false
  still x m p a =
      ap (λ (b : ℕ). changed b m.latched.inputs x.inputs) p.byte
      ∙ unchanged b _ _ (along b _ _ _ (back b _ _ p.inputs) a)

  tick_on : (x : Sample) (m : Servo) → Alike b s.latched.inputs x.inputs → On m → On (ticked x m)
  tick_on x m a p =
      let h = searches x m (still x m p a) in
      record {
        byte = ap (λ (h : Homing). h.byte) h ∙ p.byte;
        home = ap₂ (λ (x y : ℕ). (x + y) % 2 ^ 32) (ap (λ (h : Homing). h.home) h) (ticks x m).offset ∙ p.home;
        inputs = subst (λ (y : Sample). Alike b s.latched.inputs y.inputs) (sym (ticks x m).latched) a;
      }

  -- and one that is not has
  found-on : (x : Sample) (m : Servo) → Fits (ticked x m) → On m → (Alike b s.latched.inputs x.inputs → ⊥) → FoundBy x (ticked x m)
  found-on x m t p n = at (changed m.homing.byte m.latched.inputs x.inputs) refl
    where
      at : (c : Bool) → changed m.homing.byte m.latched.inputs x.inputs ≡ c → FoundBy x (ticked x m)
      at true c =
          let h = finds x m c in
          record {
            byte = ap (λ (h : Homing). h.byte) h;
            home = ap (λ (h : Homing). h.home) h;
            count = ap (λ (h : Homing). encoder (ticked x m) h.home) h ∙ raw-back (ticked x m) t ∙ ap (λ (y : Sample). y.raw) (ticks x m).latched;
          }
      at false c =
          absurd (n (along b _ _ _ p.inputs (alike b _ _ (ap (λ (b : ℕ). changed b m.latched.inputs x.inputs) (sym p.byte) ∙ c))))

  module _ (net : List ℕ) (cs : List Call) (i : ℕ) (v : ValidRecord net) (h : AllHanded cs)
      (u : UndisturbedBy servo Rearms (λ x m. Alike b s.latched.inputs x.inputs) net cs i) where
    run_on : Carries servo net cs i (λ n. On)
    run_on = each-call net cs i v h (λ n. On) (record {
      same = λ n m w p. p;
      refused = λ n m c w p. as_was m _ refl refl refl p;
      done = λ n m f alone t d x one c p. frame_on f alone m (u.frames n f x) t p;
      tick = λ n m x t t' w st k st' o p. tick_on x m (u.ticks n x m k st) p;
    })

    on_then : (k : Servo) → At net i s → s.homing.byte ≡ b → At (left_by cs net) i k → On k
    on_then k e z q =
        carried_on servo net cs i (λ n. On) v h run_on s e (record { byte = z; home = refl; inputs = (λ t. refl, λ t. refl) }) k q

pub homes_on_the_line : HomesOnTheLine
homes_on_the_line net cs i b s k v h e z u q =
    let p = on_then b s net cs i v h u k e z q in
    let r : List ℕ = left_by cs net in
    let w : ValidRecord r = subst (λ (ds : List Call). ValidRecord (left_by ds net)) (take-length cs) (valid-after net cs i (length cs) v h (le_refl (length cs))) in (
      record { byte = p.byte; home = p.home },
      λ samples n y goes a g.
          let x : Sample = servo_sample_at samples i in
          let made = own_ten r samples i servo k w.1 y goes q in
          let same : ticked x k ≡ n = same_place servo (net_in slots (leaves r (tick samples))).modules i (ticked x k) n made g in
          subst (FoundBy x) same
          (found-on b s x k (fits_at servo (leaves r (tick samples)) i (ticked x k) (call_kept r (tick samples) y w) made) p a),
    )
