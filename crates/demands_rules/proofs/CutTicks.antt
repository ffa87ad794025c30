-- What keeps an integral through calls whose ticks are all cut, call by call. Assumes nothing.
use mathlib.Core.Path.{◌≡◌, refl, ap, ◌∙◌}
use mathlib.Core.List.{List}
use mathlib.Core.Bool.{true}
use Prim.Native.Nat.{ℕ, suc}
use lib.IntN.{ℤ}
use Rattle.line_receiver.specs.Frames.{Frame, frame_in}
use Rattle.servo_filter.specs.declared.Memory.{Memory}
use Rattle.servo_rules.specs.declared.Sample.{Sample}
use Rattle.servo_rules.specs.declared.Servo.{Servo}
use Rattle.servo_rules.specs.CutPromises.{Blanks}
use Rattle.servo_rules.proofs.Remembering.{remembers}
use Rattle.types_rules.specs.Table.{servo}
use Rattle.types_rules.specs.Types.{slots}
use Rattle.net_rules.specs.Record.{net_in}
use Rattle.demands_history_rules.specs.Calls.{Call}
use Rattle.demands_rules.specs.Place.{after}
use Rattle.demands_rules.specs.ServoPlace.{Stands, Executed, Ticked}
use Rattle.demands_rules.proofs.Making.{same, framed, timed}
use Rattle.demands_rules.proofs.Placing.{calm, Carries}

module _ (net : List ℕ) (cs : List Call) (i : ℕ)
    (cut : (j : ℕ) (x : Sample) (s : Servo) → Ticked net cs i j x → Stands net cs i (suc j) s → s.run.drive.cut ≡ true)
    (kept : (j : ℕ) (f : Frame) (s : Servo) → Stands net cs i j s → Executed net cs i j f → Blanks s f → ⊥) where
  pub goes : (z : ℤ) → Carries servo net cs i (λ n k. k.run.memory.integral ≡ z)
  goes z n _ m _ g w st (same c _ _) st' o p = p
  goes z n _ m k g w st (framed mark x room d call a t) st' o p =
      ap (λ (y : Memory). y.integral)
      (remembers.frame (frame_in (net_in slots (after net cs i n)).receiver d) _ m
      (calm servo net cs i n mark x room (Blanks m) d k g call t a o (λ f. kept n f m st)))
      ∙ p
  goes z n _ m k g w st (timed samples call _) st' o p =
      remembers.cut _ m (cut n _ _ (record { samples = samples; call = g; done = call; own = refl }) st') ∙ p
