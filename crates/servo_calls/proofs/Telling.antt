-- The reply told of the parts that stand in a slot is the servo's. Assumes nothing.
use mathlib.Core.Path.{◌≡◌, ap, ◌∙◌}
use mathlib.Core.List.{List}
use Prim.Native.Nat.{ℕ}
use lib.ListN.{length}
use Rattle.base_layout.specs.Bytes.{pasted}
use Rattle.line_receiver.specs.Frames.{Frame}
use Rattle.module_rules.specs.declared.Station.{Station}
use Rattle.module_rules.specs.Report.{reply_of}
use Rattle.module_rules.specs.Slot.{station}
use Rattle.module_rules.specs.Slots.{station_at}
use Rattle.module_rules.specs.Rules as AnyType
use Rattle.servo_rules.specs.declared.Sample.{Sample}
use Rattle.servo_rules.specs.declared.Counts.{Counts}
use Rattle.servo_rules.specs.declared.Run.{Run}
use Rattle.servo_rules.specs.declared.Homing.{Homing}
use Rattle.servo_rules.specs.Answers.{status_of, numbers_of, sizes, reply}
use Rattle.servo_slot_rules.specs.Slot.{sample, counts, run, homing, latched_at, counts_at, profile_at, homing_at, decode_of}

pub told_is : (f : Frame) (s room : List ℕ) (from : ℕ) {x : Station} {latched : Sample} {k : Counts} {r : Run} {h : Homing} {n : ℕ} {room' : List ℕ}
    → x ≡ station.codec.dec station_at s
    → latched ≡ sample.codec.dec latched_at s
    → k ≡ counts.codec.dec counts_at s
    → r ≡ run.codec.dec profile_at s
    → h ≡ homing.codec.dec homing_at s
    → (n ≡ length (reply_of f x (status_of x.cause latched r h) sizes (numbers_of latched k r.memory h)))
    × (room' ≡ pasted from (reply_of f x (status_of x.cause latched r h) sizes (numbers_of latched k r.memory h)) room)
    → (n ≡ length (reply f (decode_of s))) × (room' ≡ pasted from (reply f (decode_of s)) room)
unfolding decode_of AnyType.reply
told_is f s room from {x} {latched} {k} {r} {h} ex el ek er eh p =
    let e : reply_of f x (status_of x.cause latched r h) sizes (numbers_of latched k r.memory h) ≡ reply f (decode_of s) = rw (ex, el, ek, er, eh) in
    (p.0 ∙ ap length e, p.1 ∙ ap (λ (l : List ℕ). pasted from l room) e)
