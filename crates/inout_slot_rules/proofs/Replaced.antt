-- What an I/O module's own commands, samples and ticks make of it is such as its slot can hold, and its numbers such as a reply can spell.
-- Assumes nothing.
use mathlib.Core.List.{List, [], ◌∷◌, ◌++◌}
use Prim.Native.Nat.{ℕ, ◌<◌}
use native.Mathlib.Omega.{arith}
use lib.Dec.{eqb}
use lib.ListN.{get_or}
use Rattle.base_layout.specs.Bytes.{le, Bytes}
use Rattle.base_layout.proofs.Laws.{bytes_le, bytes_one, bytes_append}
use Rattle.module_rules.specs.declared.Station.{Station}
use Rattle.module_rules.specs.Report.{cause_bit}
use Rattle.module_rules.specs.Slot.{station}
use Rattle.module_rules.specs.Owes.{Safe}
use Rattle.module_rules.proofs.Settled.{pick}
use Rattle.module_rules.proofs.StationKept.{power_up_fits}
use Rattle.inout_rules.specs.declared.Sample.{Sample}
use Rattle.inout_rules.specs.declared.Pins.{Pins}
use Rattle.inout_rules.specs.declared.Synch.{Synch}
use Rattle.inout_rules.specs.declared.Capture.{Capture}
use Rattle.inout_rules.specs.declared.Io.{Io}
use Rattle.inout_rules.specs.Pins.{bits_of, blend}
use Rattle.inout_rules.specs.State.{with_station, with_latched, with_pins, with_synch, with_timer, with_capture, fresh, no_sample}
use Rattle.inout_rules.specs.Asks.{own}
use Rattle.inout_rules.specs.Answers.{outputs_of, inout}
use Rattle.inout_rules.proofs.Asks.{own_means}
use Rattle.inout_rules.proofs.Bits.{no_further}
use Rattle.inout_slot_rules.specs.Slot.{twelve, sample, pins, synch, capture, slots}
use Rattle.inout_slot_rules.specs.Promises.{Fits, NumbersFit}

-- values that fit, with one part replaced
module _ (m : Io) (t : Fits m) where
  pub station_fits : (x : Station) → station.codec.fits x → Fits (with_station x m)
  station_fits _ h = (t.0, (h, t.1.1))

  pub latched_fits : (x : Sample) → sample.codec.fits x → Fits (with_latched x m)
  latched_fits _ h = (t.0, (t.1.0, (h, t.1.1.1)))

  pins_fit : (p : Pins) → pins.codec.fits p → Fits (with_pins p m)
  pins_fit _ h = (t.0, (t.1.0, (t.1.1.0, (h, t.1.1.1.1))))

  synch_fits : (y : Synch) → synch.codec.fits y → Fits (with_synch y m)
  synch_fits _ h = (t.0, (t.1.0, (t.1.1.0, (t.1.1.1.0, (h, t.1.1.1.1.1)))))

  timer_fits : (n : ℕ) → n < 256 → Fits (with_timer n m)
  timer_fits _ h = (t.0, (t.1.0, (t.1.1.0, (t.1.1.1.0, (t.1.1.1.1.0, (h, t.1.1.1.1.1.1))))))

  capture_fits : (k : Capture) → capture.codec.fits k → Fits (with_capture k m)
  capture_fits _ h = (t.0, (t.1.0, (t.1.1.0, (t.1.1.1.0, (t.1.1.1.1.0, (t.1.1.1.1.1.0, h))))))

-- twelve bits, picked or from two bytes
picked_fits : (d x y : ℕ) → twelve.codec.fits (blend 12 d x y)
picked_fits d x y = let h = no_further 12 d x y in (omega arith, omega arith)

bits_fit : (ds : List ℕ) → Bytes ds → twelve.codec.fits (bits_of (get_or ds 0 0) (get_or ds 1 0))
bits_fit ds b = let h = b 0 in (omega arith, omega arith)

pub fresh_fits : (x : Sample) → sample.codec.fits x → Fits (fresh x)
fresh_fits x h =
    let zero : twelve.codec.fits 0 = (omega arith, omega arith) in (
      tt,
      (
        power_up_fits,
        (h, (((omega arith, omega arith), (zero, (omega arith, omega arith))), ((zero, (omega arith, omega arith)), (omega arith, (zero, omega arith))))),
      ),
    )

pub none_fits : sample.codec.fits no_sample
none_fits = ((omega arith, omega arith), (omega arith, (omega arith, (omega arith, omega arith))))

pub own_safe : (code : ℕ) (ds : List ℕ) → Bytes ds → Safe inout slots sample.codec.fits (own code ds)
own_safe code ds b =
    own_means (Safe inout slots sample.codec.fits) code ds (record {
      unknown = tt;
      direction = λ g m t e. pins_fit m t _ (bits_fit ds b, t.1.1.1.0.1);
      pwm = λ g m t e. pins_fit m t _ (t.1.1.1.0.0, (t.1.1.1.0.1.0, (b 0, b 1)));
      synch_output = λ g m t e. pins_fit m t _ (t.1.1.1.0.0, (picked_fits _ _ _, t.1.1.1.1.0.1));
      output = λ g m t e. pins_fit m t _ (t.1.1.1.0.0, (picked_fits _ _ _, t.1.1.1.0.1.1));
      synch_store = λ g m t e. synch_fits m t _ (bits_fit ds b, (b 2, b 3));
      timer = λ g m t e. timer_fits m t _ (b 0);
      synch_input = λ g m t e. capture_fits m t _ (picked_fits _ _ _, t.1.1.0.1.1.1.1);
    })

pub status_fits : (cause : ℕ) → cause_bit cause < 256
status_fits cause = pick (λ (n : ℕ). n < 256) (eqb cause 0) 0 2 (λ e. omega arith) (omega arith)

pub numbers_fit : NumbersFit
numbers_fit m t =
    let x = t.1.1.0 in
    let k = t.1.1.1.1.1.1 in
    let r = no_further 12 m.pins.direction m.latched.inputs m.pins.register in
    (omega arith, (omega arith, (omega arith, (omega arith, (omega arith, (omega arith, (omega arith, (omega arith, tt))))))))

pub outputs_fit : (m : Io) → Fits m → Bytes (outputs_of m)
outputs_fit m t =
    let p : Pins = m.pins in
    let end : List ℕ = p.pwm2 ∷ le 2 0 in
    let h = t.1.1.1.0.1.1 in
    bytes_append (le 2 p.direction) (le 2 p.register ++ p.pwm1 ∷ end) (bytes_le 2 p.direction)
    (bytes_append (le 2 p.register) (p.pwm1 ∷ end) (bytes_le 2 p.register)
    (bytes_append (p.pwm1 ∷ []) end (bytes_one p.pwm1 h.0) (bytes_append (p.pwm2 ∷ []) (le 2 0) (bytes_one p.pwm2 h.1) (bytes_le 2 0))))
