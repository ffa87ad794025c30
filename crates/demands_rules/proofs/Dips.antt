-- Dips, computed; and calls that meet what the promises about dips ask for. Assumes nothing.
use mathlib.Core.Path.{◌≡◌, refl, sym, ap, subst, ◌∙◌}
use mathlib.Core.Logic.{inl}
use mathlib.Core.List.{List, [], ◌∷◌}
use mathlib.Core.Bool.{Bool, true, false, true≢false}
use mathlib.Core.Option.{some}
use Prim.Native.Nat.{ℕ, zero, suc}
use native.Mathlib.Omega.{arith}
use native.Mathlib.Nat.{le_refl}
use lib.Count.{ones}
use lib.ListN.{length, get_elem?}
use lib.Seq.{take-length}
use Rattle.line_receiver.specs.Receive.{taken}
use Rattle.line_receiver.specs.Frames.{Byte, clean, written, values}
use Rattle.module_rules.specs.Commands.{asked}
use Rattle.module_rules.specs.Rules.{request, execute}
use Rattle.chain_rules.specs.Chain.{Net, byte_step}
use Rattle.servo_filter.specs.Filter.{held}
use Rattle.servo_rules.specs.declared.Servo.{Servo}
use Rattle.servo_rules.specs.Carried.{carried_in, in_range}
use Rattle.servo_rules.specs.Asks.{load_meant, gains_in, gains_fit, gain_meant, halt_of, stop_meant, own}
use Rattle.servo_rules.specs.State.{idled, off}
use Rattle.servo_rules.specs.Loads.{way_of, load_of, loaded, complete, startable, signed_by, start}
use Rattle.servo_rules.specs.Perform.{stopped}
use Rattle.servo_rules.specs.Homing.{changed, homed}
use Rattle.servo_rules.specs.Tick.{put_out, pulsed, by_power, ticked, met}
use Rattle.servo_rules.specs.Answers as Servos
use Rattle.servo_rules.specs.Answers.{outputs_from, enable_line}
use Rattle.types_rules.specs.Types.{Module}
use Rattle.demands_history_rules.specs.Calls.{Call, byte, tick, AllHanded, left_by}
use Rattle.demands_rules.specs.ServoPlace.{At}
use Rattle.demands_rules.specs.Dip.{Switched, LineOf, Dips}
use Rattle.demands_rules.proofs.Calls.{any_calls}
use Rattle.demands_rules.proofs.OnTheLine.{small}
use Rattle.demands_rules.proofs.Computing.{at_power, power_bytes}
use Rattle.demands_rules.proofs.Examples.{lit, types, zeros, lent, set_up_lem, valid, calls, are_handed, ends_with}
use Rattle.demands_rules.proofs.Dipping.{comes_back, enabled_was_sent}

pub dips : Dips
unfolding taken byte_step asked request execute ones carried_in in_range load_meant gains_in gains_fit gain_meant halt_of stop_meant own idled off way_of load_of loaded complete startable signed_by start stopped held put_out pulsed by_power ticked outputs_from met homed changed
dips = (refl, (refl, (refl, (refl, (refl, (refl, (refl, (refl, (refl, (refl, tt))))))))))

-- ---- by calls: at power 1 a Stop with the amplifier bit

abbrev orders : List Byte
orders = clean (written 0 7 (1 ∷ []))

abbrev cs : List Call
cs = calls orders

abbrev on : Servo
on = Servos.execute (record { address = 0; code = 7; content = 1 ∷ []; damaged = false }) true lit

orders_handed : AllHanded cs
orders_handed = are_handed orders (small (values orders) refl)

stands_on : At (left_by cs lent) 0 on
unfolding taken byte_step asked request execute own stop_meant ticked ones by_power met homed changed
stands_on = ap (λ (n : Net Module). get_elem? n.modules 0) (ends_with orders (small (values orders) refl))

line_high : (enable_line on ≡ 1) × (on.latched.power ≡ 1)
unfolding asked request execute own halt_of stop_meant stopped by_power ticked ones outputs_from met homed changed
line_high = (refl, refl)

-- its enable line is high, so the host has switched it on
pub was_switched_on : Switched lent cs 0 (length cs) true
was_switched_on =
    let (a, s, l) = enabled_was_sent zeros types cs 0 (length cs) on set_up_lem orders_handed (le_refl (length cs)) (subst (λ (ds : List Call). At (left_by ds lent) 0 on) (sym (take-length cs)) stands_on) in
    at a s l
  where
    at : (a : Bool) → Switched lent cs 0 (length cs) a → LineOf a on → Switched lent cs 0 (length cs) true
    at true s l = s
    at false s l = absurd (omega (arith, line_high.0, l.low (inl refl)))

-- and then a dip to low and to high power
abbrev dip : List Call
dip = tick (at_power 0) ∷ tick (at_power 2) ∷ tick (at_power 1) ∷ []

abbrev is_byte : Call → Bool
is_byte (byte mark x room) = true
is_byte (tick samples) = false

abbrev NoBytes : List Call → Type 0
NoBytes [] = Unit {0}
NoBytes (c ∷ cs) = (is_byte c ≡ false) × NoBytes cs

no_byte : (cs : List Call) (j : ℕ) (c : Call) → NoBytes cs → get_elem? cs j ≡ some c → is_byte c ≡ false
no_byte [] j c n e = let z : ◌≡◌ {A = Bool} true false = cc in absurd (true≢false z)
no_byte (d ∷ cs) zero c n e = let z : d ≡ c = cc in ap is_byte (sym z) ∙ n.0
no_byte (d ∷ cs) (suc j) c n e = no_byte cs j c n.1 e

-- after it, at power 1, the line is high again
pub comes_back_high : (k : Servo) → At (left_by dip (left_by cs lent)) 0 k → k.latched.power ≡ 1 → enable_line k ≡ 1
comes_back_high k e p =
    (comes_back (left_by cs lent) dip 0 on k (any_calls lent cs valid orders_handed).valid
    (power_bytes 0 refl, (power_bytes 2 refl, (power_bytes 1 refl, tt)))
    stands_on e (λ j f x z. true≢false (no_byte dip j _ (refl, (refl, (refl, tt))) x.met.call))).back line_high.1 p
    ∙ line_high.0
