-- What is put into a valid slot in parts is as good as the whole servo put there, where the other parts stand already. Assumes nothing.
use mathlib.Core.Path.{◌≡◌, refl, sym, ap, subst, ◌∙◌}
use mathlib.Core.List.{List, ◌++◌}
use mathlib.Core.Bool.{true, false}
use Prim.Native.Nat.{ℕ, ◌≤◌}
use lib.ListN.{length}
use Rattle.base_layout.specs.Bytes.{pasted, Bytes}
use Rattle.module_rules.specs.declared.Station.{Station}
use Rattle.module_rules.specs.Slot.{station}
use Rattle.module_rules.specs.Slots.{station_at}
use Rattle.module_rules.proofs.Slotting as Slotting
use Rattle.servo_motion.specs.declared.Profile.{Profile}
use Rattle.servo_motion.specs.Profile.{stepped, by_trapezoid, by_velocity}
use Rattle.servo_rules.specs.declared.Sample.{Sample}
use Rattle.servo_rules.specs.declared.Mode.{Mode}
use Rattle.servo_rules.specs.declared.Mode.TheVariants.{Off, Pwm, Hold, Velocity, Trapezoid}
use Rattle.servo_rules.specs.declared.Run.{Run}
use Rattle.servo_rules.specs.declared.Servo.{Servo}
use Rattle.servo_rules.specs.State.{position, with_station, with_run, with_profile, resting, idled, off}
use Rattle.servo_rules.specs.Homing.{changed}
use Rattle.servo_rules.specs.Tick.{advanced_by, advanced, tripped, pulsed, latching, met, ticked}
use Rattle.servo_rules.proofs.Meeting.{by_power_lem}
use Rattle.servo_rules.proofs.Ends.{tick_ends}
use Rattle.servo_rules.proofs.FindingHome.{met_none}
use Rattle.servo_slot_rules.specs.Slot.{slot, servo_size, encode_of, decode_of, ok_of}
use Rattle.servo_slot_rules.specs.Parts.{ticked_over}

-- ---- a tick leaves a profile's goal, aim, acceleration and top

-- a profile with setpoint and speed of another
abbrev stepping : Profile → Profile → Profile
stepping p q = record { setpoint = q.setpoint; speed = q.speed; goal = p.goal; aim = p.aim; acceleration = p.acceleration; top = p.top }

advanced_steps : (k : Mode) (p : Profile) → stepping p (advanced_by k p) ≡ advanced_by k p
unfolding by_velocity by_trapezoid stepped
advanced_steps Off p = refl
advanced_steps Pwm p = refl
advanced_steps Hold p = refl
advanced_steps Velocity p = refl
advanced_steps Trapezoid p = refl

-- where homing finds nothing
module _ (x : Sample) (m : Servo) (c : changed m.homing.byte m.latched.inputs x.inputs ≡ false) where
  -- what is met has these four as they were
  met-same : (q : Profile) → stepping m.run.profile q ≡ stepping (met x m).run.profile q
  unfolding idled off
  met-same q =
      subst (λ (n : Servo). stepping m.run.profile q ≡ stepping n.run.profile q) (sym (met_none x m c))
      (by_power_lem (λ (r : Run). stepping m.run.profile q ≡ stepping r.profile q) x.power m.run (λ e. refl) (λ e. refl))

  tick_steps : stepping m.run.profile (ticked x m).run.profile ≡ (ticked x m).run.profile
  unfolding advanced pulsed tripped idled off
  tick_steps =
      let p : Profile = (met x m).run.profile in
      let steps = met-same (advanced (met x m).run) ∙ advanced_steps (met x m).run.drive.mode p in
      tick_ends (λ (s : Run). stepping m.run.profile s.profile ≡ s.profile) x m (record {
        off = λ e. met-same p;
        pwm = λ e. met-same p;
        output = λ s t q. steps;
        trip = λ e. ap (λ (p : Profile). resting p.setpoint p) steps;
      })

  -- and all but the sample, the last position and the run are as they were
  tick_plain : with_run (ticked x m).run (latching x m) ≡ ticked x m
  unfolding ticked
  tick_plain = sym (ap (λ (n : Servo). with_run (ticked x m).run n) (met_none x m c))

-- ---- what is put on the bytes of the servo that stands in a slot

module _ (s : List ℕ) (h : servo_size ≤ length s) (bytes : Bytes s) (ok : ok_of s ≡ true) where
  put_over : (n : Servo) (put : List ℕ → List ℕ) → ((t : List ℕ) → put (encode_of (decode_of s) ++ t) ≡ encode_of n ++ t)
      → pasted 0 (encode_of n) s ≡ put s
  unfolding encode_of decode_of ok_of
  put_over = Slotting.put_over slot s h bytes ok

  pub station_over : (x : Station) → pasted 0 (encode_of (with_station x (decode_of s))) s ≡ pasted station_at (station.codec.enc x) s
  unfolding encode_of
  station_over x = put_over (with_station x (decode_of s)) (pasted station_at (station.codec.enc x)) (λ t. refl)

  -- a tick in which homing finds nothing
  pub ticked_over_lem : (x : Sample) → changed (decode_of s).homing.byte (decode_of s).latched.inputs x.inputs ≡ false
      → pasted 0 (encode_of (ticked x (decode_of s))) s ≡ ticked_over x (position (decode_of s)) (ticked x (decode_of s)).run s
  unfolding encode_of ticked_over
  ticked_over_lem x c =
      let m : Servo = decode_of s in
      let n : Servo = ticked x m in
      put_over n (ticked_over x (position m) n.run)
      (λ t. ap (λ (p : Profile). encode_of (with_run (with_profile p n.run) (latching x m)) ++ t) (tick_steps x m c) ∙ ap (λ (k : Servo). encode_of k ++ t) (tick_plain x m c))
