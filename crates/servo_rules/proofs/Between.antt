-- What frames do to the output and to the cut bit between ticks, that a motor is driven only at power 1 and not in off, and that neither off nor PWM has a
-- cut bit. Assumes nothing.
use mathlib.Core.Path.{◌≡◌, refl, sym, ap, ◌∙◌}
use mathlib.Core.Logic.{◌⊎◌, inl, inr}
use mathlib.Core.Bool.{Bool, true, false, false≢true}
use lib.IntN.{pos}
use Rattle.line_receiver.specs.Frames.{Frame}
use Rattle.servo_rules.specs.declared.Order.{Order}
use Rattle.servo_rules.specs.declared.Order.TheVariants.{ResetPosition, LoadTrajectory, Start, SetGain, Stop, SetHoming, ClearBits}
use Rattle.servo_rules.specs.declared.Sample.{Sample}
use Rattle.servo_rules.specs.declared.Mode.TheVariants.{Off, Pwm}
use Rattle.servo_rules.specs.declared.Drive.{Drive}
use Rattle.servo_rules.specs.declared.Run.{Run}
use Rattle.servo_rules.specs.declared.Servo.{Servo}
use Rattle.servo_rules.specs.State.{position, servo_off, idled, off}
use Rattle.servo_rules.specs.Loads.{loaded, starts_now, start}
use Rattle.servo_rules.specs.Perform.{reset_position, stopped, perform}
use Rattle.servo_rules.specs.Tick.{tripped, pulsed, met, ticked}
use Rattle.servo_rules.specs.Answers.{execute}
use Rattle.servo_rules.specs.TickPromises.{Between, Silent, DrivenOnly}
use Rattle.servo_rules.specs.CutPromises.{Uncut, CutBit}
use Rattle.servo_rules.proofs.Keeping.{either, Undriven, still, not_off, distinct, started_keeps, halted_keeps}
use Rattle.servo_rules.proofs.Framed.{leaves}
use Rattle.servo_rules.proofs.MeetingKeeps.{met_undriven}
use Rattle.servo_rules.proofs.Ends.{tick_ends}
use Rattle.servo_rules.proofs.Ticking.{met-silent, ticks}

-- the latched sample as it was, and no new output
abbrev pub Quiet : Servo → Servo → Type 0
Quiet m n = (n.latched ≡ m.latched) × Undriven m.run.drive n.run.drive

start_quiet : (m : Servo) → Quiet m (start m)
unfolding start
start_quiet m = (refl, (started_keeps m.settings.load.way (position m) m.settings m.run).undriven)

order_quiet : (c : Order) (m : Servo) → Quiet m (perform c m)
unfolding reset_position loaded stopped
order_quiet ResetPosition m = (refl, still m.run.drive)
order_quiet (LoadTrajectory c) m =
    either (Quiet m) (starts_now c) (start (loaded c m)) (loaded c m) (start_quiet (loaded c m)) (refl, still m.run.drive)
order_quiet Start m = start_quiet m
order_quiet (SetGain t) m = (refl, still m.run.drive)
order_quiet (Stop a h x) m = (refl, (halted_keeps h (position m) x m.run).undriven)
order_quiet (SetHoming b) m = (refl, still m.run.drive)
order_quiet ClearBits m = (refl, still m.run.drive)

pub frame_quiet : (f : Frame) (alone : Bool) (m : Servo) → Quiet m (execute f alone m)
frame_quiet f alone m = leaves (Quiet m) f alone m (record {
  kept = λ s. (refl, still m.run.drive);
  renewed = λ d q. (refl, inr (refl, refl, refl));
  performed = λ c d q t. order_quiet c m;
})

pub between : Between
between f alone m = by (execute f alone m).run.drive (frame_quiet f alone m).1
  where
    by : (d : Drive) → Undriven m.run.drive d → (d.output ≡ m.run.drive.output) ⊎ ((d.output ≡ pos 0) × (servo_off d.mode ≡ true))
    by d (inl h) = inl h.0
    by d (inr h) = inr (h.0, h.2)

-- what leaves the output, or ends it, leaves a motor undriven
quiet_silent : (m n : Servo) → Quiet m n → Silent m → Silent n
quiet_silent m n q s = by q.1
  where
    by : Undriven m.run.drive n.run.drive → Silent n
    by (inl h) = record {
      off = λ e. h.0 ∙ s.off (h.2 e);
      unpowered = λ p. h.0 ∙ s.unpowered (λ e. p (ap (λ (x : Sample). x.power) q.0 ∙ e));
    }
    by (inr h) = record { off = λ e. h.0; unpowered = λ p. h.0 }

-- no tick that ends in off has an output
tick_off : (x : Sample) (m : Servo) → Silent m → (ticked x m).run.drive.mode ≡ Off → (ticked x m).run.drive.output ≡ pos 0
unfolding pulsed tripped idled off
tick_off x m s =
    tick_ends (λ (r : Run). r.drive.mode ≡ Off → r.drive.output ≡ pos 0) x m (record {
      off = λ e. met-silent x m s.off;
      pwm = λ q k. absurd (distinct Pwm Off refl (sym q ∙ k));
      output = λ q t z k. absurd (not_off (met x m).run.drive.mode q k);
      trip = λ q k. refl;
    })

pub driven_only : DrivenOnly
driven_only = record {
  power = record { off = λ e. refl; unpowered = λ p. refl };
  frame = λ f alone m s. quiet_silent m (execute f alone m) (frame_quiet f alone m) s;
  tick = λ x m s. record {
    off = tick_off x m s;
    unpowered = λ p. (ticks x m).unpowered (λ e. p (ap (λ (x : Sample). x.power) (ticks x m).latched ∙ e)) s.off;
  };
}

-- ---- the cut bit

abbrev Whole : Drive → Type 0
Whole d = servo_off d.mode ≡ true → d.cut ≡ false

quiet_uncut : (d e : Drive) → Undriven d e → Whole d → Whole e
quiet_uncut d e (inl h) u k = h.1 ∙ u (h.3 k)
quiet_uncut d e (inr h) u k = h.1

tick_uncut : (x : Sample) (m : Servo) → Uncut m → Uncut (ticked x m)
unfolding pulsed tripped idled off
tick_uncut x m u =
    let w : Whole (met x m).run.drive = met_undriven x m Whole quiet_uncut u in
    tick_ends (λ (r : Run). Whole r.drive) x m (record {
      off = λ e. w;
      pwm = λ q. w;
      output = λ q t z k. absurd (false≢true (sym q ∙ k));
      trip = λ q k. refl;
    })

pub cut_bit : CutBit
cut_bit = record {
  between = λ f alone m. by m (execute f alone m).run.drive (frame_quiet f alone m).1;
  power = λ e. refl;
  frame = λ f alone m. quiet_uncut m.run.drive (execute f alone m).run.drive (frame_quiet f alone m).1;
  tick = tick_uncut;
}
  where
    by : (m : Servo) (d : Drive) → Undriven m.run.drive d → (d.cut ≡ m.run.drive.cut) ⊎ ((d.cut ≡ false) × (servo_off d.mode ≡ true))
    by m d (inl h) = inl h.1
    by m d (inr h) = inr (h.1, h.2)
