-- How an I/O module stands in a slot: its parts one after another, of which the first is its type.
use Rattle.std.specs.Prelude.{refl, ℕ, ◌+◌, List, Bool}
use Rattle.std.proofs.Common.{arith}
use Rattle.base_layout.specs.Codec.{ok_in}
use Rattle.base_layout.proofs.Shape.{Shape, byte, number, topped, stamp, ◌then◌, shaped}
use Rattle.module_rules.specs.declared.Station.{Station}
use Rattle.module_rules.specs.Slot.{station}
use Rattle.module_rules.specs.Slots.{Slots, own_at}
use Rattle.inout_rules.specs.declared.Sample.{Sample}
use Rattle.inout_rules.specs.declared.Pins.{Pins}
use Rattle.inout_rules.specs.declared.Synch.{Synch}
use Rattle.inout_rules.specs.declared.Capture.{Capture}
use Rattle.inout_rules.specs.declared.Io.{Io}
use Rattle.inout_rules.specs.Answers.{type_number}

-- the parts of each struct in the order of the slot, and the struct of its parts; a sample stands so in a tick's list, too
abbrev pub sample_parts : Sample → ℕ × (ℕ × (ℕ × (ℕ × ℕ)))
sample_parts x = (x.inputs, (x.ad1, (x.ad2, (x.ad3, x.counter))))

abbrev pub sample_of : ℕ × (ℕ × (ℕ × (ℕ × ℕ))) → Sample
sample_of t = record { inputs = t.0; ad1 = t.1.0; ad2 = t.1.1.0; ad3 = t.1.1.1.0; counter = t.1.1.1.1 }

abbrev pub pins_parts : Pins → ℕ × (ℕ × (ℕ × ℕ))
pins_parts p = (p.direction, (p.register, (p.pwm1, p.pwm2)))

abbrev pub pins_of : ℕ × (ℕ × (ℕ × ℕ)) → Pins
pins_of t = record { direction = t.0; register = t.1.0; pwm1 = t.1.1.0; pwm2 = t.1.1.1 }

abbrev pub synch_parts : Synch → ℕ × (ℕ × ℕ)
synch_parts y = (y.bits, (y.pwm1, y.pwm2))

abbrev pub synch_of : ℕ × (ℕ × ℕ) → Synch
synch_of t = record { bits = t.0; pwm1 = t.1.0; pwm2 = t.1.1 }

abbrev pub capture_parts : Capture → ℕ × ℕ
capture_parts k = (k.inputs, k.counter)

abbrev pub capture_of : ℕ × ℕ → Capture
capture_of t = record { inputs = t.0; counter = t.1 }

abbrev pub Parts : Type 0
Parts = Unit {0} × (Station × (Sample × (Pins × (Synch × (ℕ × Capture)))))

abbrev pub io_parts : Io → Parts
io_parts m = (tt, (m.station, (m.latched, (m.pins, (m.synch, (m.timer, m.captured))))))

abbrev pub io_of : Parts → Io
io_of t = record {
  station = t.1.0;
  latched = t.1.1.0;
  pins = t.1.1.1.0;
  synch = t.1.1.1.1.0;
  timer = t.1.1.1.1.1.0;
  captured = t.1.1.1.1.1.1;
}

-- twelve bits in two bytes: the upper byte is at most 15
abbrev pub twelve : Shape ℕ
twelve = topped 15

abbrev pub sample : Shape Sample
sample = shaped sample_of sample_parts (λ t. refl) (λ x. refl) (twelve then byte then byte then byte then number 4)

abbrev pub pins : Shape Pins
pins = shaped pins_of pins_parts (λ t. refl) (λ p. refl) (twelve then twelve then byte then byte)

abbrev pub synch : Shape Synch
synch = shaped synch_of synch_parts (λ t. refl) (λ y. refl) (twelve then byte then byte)

abbrev pub capture : Shape Capture
capture = shaped capture_of capture_parts (λ t. refl) (λ k. refl) (twelve then number 4)

abbrev pub slot : Shape Io
slot =
    shaped io_of io_parts (λ t. refl) (λ m. refl)
    (stamp type_number (omega arith) then station then sample then pins then synch then byte then capture)

-- where each part begins: after the parts before it
abbrev pub latched_at : ℕ
latched_at = own_at

abbrev pub pins_at : ℕ
pins_at = latched_at + sample.codec.size

abbrev pub synch_at : ℕ
synch_at = pins_at + pins.codec.size

abbrev pub timer_at : ℕ
timer_at = synch_at + synch.codec.size

abbrev pub captured_at : ℕ
captured_at = timer_at + byte.codec.size

-- how many bytes of a slot an I/O module has
abbrev pub io_size : ℕ
io_size = captured_at + capture.codec.size

-- a module's bytes, the module in a slot, and whether a slot is valid
unfoldable pub encode_of : Io → List ℕ
encode_of m = slot.codec.enc m

unfoldable pub decode_of : List ℕ → Io
decode_of s = slot.codec.dec 0 s

unfoldable pub ok_of : List ℕ → Bool
ok_of s = ok_in slot.codec s

abbrev pub slots : Slots Io
slots = record { enc = encode_of; dec = decode_of; ok = ok_of; fits = slot.codec.fits }
