-- A tick that reads and puts parts of a valid slot makes of it the slot of the servo that ticked. Assumes nothing.
use mathlib.Core.Path.{◌≡◌, sym, ap, ◌∙◌}
use mathlib.Core.List.{List}
use mathlib.Core.Bool.{true, false}
use Prim.Native.Nat.{ℕ, ◌≤◌}
use lib.ListN.{length}
use Rattle.base_layout.specs.Bytes.{pasted, Bytes}
use Rattle.servo_filter.specs.declared.Gains.{Gains}
use Rattle.servo_rules.specs.declared.Sample.{Sample}
use Rattle.servo_rules.specs.declared.Counts.{Counts}
use Rattle.servo_rules.specs.declared.Run.{Run}
use Rattle.servo_rules.specs.declared.Servo.{Servo}
use Rattle.servo_rules.specs.State.{position_at, position}
use Rattle.servo_rules.specs.Homing.{changed}
use Rattle.servo_rules.specs.Tick.{driven_by, by_power, ticked}
use Rattle.servo_rules.proofs.FindingHome.{tick_none}
use Rattle.servo_slot_rules.specs.Slot.{sample, counts, gains, run, latched_at, counts_at, tuning_at, profile_at, servo_size, encode_of, decode_of, ok_of}
use Rattle.servo_slot_rules.specs.Parts.{ticked_over}
use Rattle.servo_slot_rules.proofs.Over.{ticked_over_lem}

pub tick_is : (x : Sample) (s : List ℕ) {s' : List ℕ} {latched : Sample} {k : Counts} {g : Gains} {before after : Run} {here last : ℕ}
    → servo_size ≤ length s → Bytes s → ok_of s ≡ true
    → changed (decode_of s).homing.byte latched.inputs x.inputs ≡ false
    → latched ≡ sample.codec.dec latched_at s
    → k ≡ counts.codec.dec counts_at s
    → g ≡ gains.codec.dec tuning_at s
    → before ≡ run.codec.dec profile_at s
    → last ≡ position_at latched k
    → here ≡ position_at x k
    → after ≡ driven_by (by_power x.power before).drive.mode x.power here g (by_power x.power before)
    → s' ≡ ticked_over x last after s
    → s' ≡ pasted 0 (encode_of (ticked x (decode_of s))) s
unfolding decode_of
tick_is x s h bytes ok c el ek eg eb ea eh er p =
    let q = (rw el at c) in
    p ∙ rw (er, eh, ea, eb, eg, ek, el)
    (ap (λ (n : Servo). ticked_over x (position (decode_of s)) n.run s) (sym (tick_none x (decode_of s) q)) ∙ sym (ticked_over_lem s h bytes ok x q))
