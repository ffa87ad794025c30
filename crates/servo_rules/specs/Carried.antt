-- What a Load Trajectory carries (document 01, "Servo", 4 Load Trajectory).
use Rattle.std.specs.Prelude.{ℕ, ◌+◌, ◌*◌, ◌%◌, List, Bool, cond, not, ◌&&◌, ◌||◌, get_or, leb}
use Rattle.std.specs.Int.Count.{ones}
use Rattle.base_integers.specs.Bits.{bit, is_set}
use Rattle.base_layout.specs.Bytes.{of_le, read_at}
use Rattle.servo_motion.specs.Profile.{fastest}
use Rattle.servo_rules.specs.declared.Carried.{Carried}

-- how many data bytes a control byte asks for: itself, four for each of bits 0 to 2, one for bit 3
abbrev pub needed : ℕ → ℕ
needed control = 1 + 4 * ones (control % 8) + bit 3 control

-- the number in four data bytes from place at on, where it is carried
abbrev pub carried_at : Bool → ℕ → List ℕ → ℕ
carried_at t at ds = cond t (of_le (read_at 4 at ds)) 0

-- what a load carries, in the order position, velocity, acceleration, PWM; 0 for what it does not
unfoldable pub carried_in : List ℕ → Carried
carried_in ds =
    let c : ℕ = get_or ds 0 0 in
    record {
      control = c;
      place = carried_at (is_set 0 c) 1 ds;
      velocity = carried_at (is_set 1 c) (1 + 4 * bit 0 c) ds;
      acceleration = carried_at (is_set 2 c) (1 + 4 * bit 0 c + 4 * bit 1 c) ds;
      pulse = cond (is_set 3 c) (get_or ds (1 + 4 * bit 0 c + 4 * bit 1 c + 4 * bit 2 c) 0) 0;
    }

-- a velocity is at most the greatest; a carried acceleration is 1 to the greatest
unfoldable pub in_range : Carried → Bool
in_range c =
    leb c.velocity fastest
    && leb c.acceleration fastest
    && (not (is_set 2 c.control) || leb 1 c.acceleration)
