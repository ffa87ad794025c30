-- Homing on the carriage switch (document 02, P8): its byte, what it watches, what it stores, its stop, and its step in a tick.
use Rattle.std.specs.Prelude.{ℕ, ◌+◌, ◌*◌, ◌/◌, ◌%◌, Bool, cond, not, ◌&&◌, ◌||◌, eqb, leb}
use Rattle.base_integers.specs.Bits.{bit, is_set}
use Rattle.base_integers.specs.Whole.{less}
use Rattle.servo_rules.specs.declared.Halt.{Halt}
use Rattle.servo_rules.specs.declared.Halt.TheVariants.{Keep, Release, Abrupt, Smooth}
use Rattle.servo_rules.specs.declared.Homing.{Homing}
use Rattle.servo_rules.specs.declared.Servo.{Servo}
use Rattle.servo_rules.specs.State.{position, with_homing}
use Rattle.servo_rules.specs.Stops.{halted, can_halt}

-- 02 P8: at least one watch bit, 0 and 1, at most one stop bit, 2, 4 and 5, and no other bit
unfoldable pub good_byte : ℕ → Bool
good_byte b = (is_set 0 b || is_set 1 b) && leb (bit 2 b + bit 4 b + bit 5 b) 1 && not (is_set 3 b) && eqb (b / 64) 0

-- 02 P8: the command stores its byte; home keeps its number until it is found
abbrev pub homing_by : ℕ → Homing → Homing
homing_by b h = record { home = h.home; byte = b }

-- 02 P8: Reset Position at a position makes home relative to it, also where none was found yet
abbrev pub home_from : ℕ → Homing → Homing
home_from x h = record { home = less h.home x; byte = h.byte }

-- 02 P8: found at a position: that is home now, and homing has ended
abbrev pub home_at : ℕ → Homing
home_at x = record { home = x; byte = 0 }

abbrev pub in_progress : Homing → Bool
in_progress h = not (eqb h.byte 0)

-- 02 P8: status bits 5 and 6 are the inputs, 7 is homing in progress
abbrev pub homing_bits : ℕ → Homing → ℕ
homing_bits inputs h = 32 * (inputs % 4) + cond (in_progress h) 128 0

-- whether a bit of the inputs has changed, and whether one that the byte watches has: bit 0 watches limit 1, bit 1 limit 2. None can have changed
-- between the command and the tick before, or homing would have ended; so what it was at the command is what was latched before this tick.
abbrev pub differs : ℕ → ℕ → ℕ → Bool
differs k before inputs = not (eqb (bit k before) (bit k inputs))

unfoldable pub changed : ℕ → ℕ → ℕ → Bool
changed b before inputs = (is_set 0 b && differs 0 before inputs) || (is_set 1 b && differs 1 before inputs)

-- 02 P8: the kind of stop that a byte asks for: bit 2 turns the motor off, 4 stops abruptly, 5 smoothly
unfoldable pub homing_halt : ℕ → Halt
homing_halt b = cond (is_set 2 b) Release (cond (is_set 4 b) Abrupt (cond (is_set 5 b) Smooth Keep))

-- 02 P8: it stops as Stop does, but for the amplifier bit; where Stop could not now, it does not
unfoldable pub halted_or : Halt → Servo → Servo
halted_or halt m = cond (can_halt halt m) (halted halt 0 m) m

-- 02 P8: homing's step in a tick, after latch and power, where these inputs were latched before
unfoldable pub homed : ℕ → Servo → Servo
homed before m =
    cond (changed m.homing.byte before m.latched.inputs)
    (with_homing (home_at (position m)) (halted_or (homing_halt m.homing.byte) m)) m
