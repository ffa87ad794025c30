-- What a step-motor module's Load Trajectory carries (document 02, P3).
use Rattle.std.specs.Prelude.{ℕ, ◌+◌, ◌*◌, List, Bool, cond, not, ◌&&◌, ◌||◌, get_or, leb}
use Rattle.base_integers.specs.Bits.{bit, is_set}
use Rattle.base_layout.specs.Bytes.{of_le, read_at}
use Rattle.stepper_rules.specs.declared.Carried.{Carried}

-- how many data bytes a control byte asks for: itself, four for the position, one each for speed and acceleration time, three for the timer
abbrev pub needed : ℕ → ℕ
needed control = 1 + 4 * bit 0 control + bit 1 control + bit 2 control + 3 * bit 3 control

-- what a load carries, in that order; 0 for what it does not
unfoldable pub carried_in : List ℕ → Carried
carried_in ds =
    let c : ℕ = get_or ds 0 0 in
    record {
      control = c;
      place = cond (is_set 0 c) (of_le (read_at 4 1 ds)) 0;
      speed = cond (is_set 1 c) (get_or ds (1 + 4 * bit 0 c) 0) 0;
      time = cond (is_set 2 c) (get_or ds (1 + 4 * bit 0 c + bit 1 c) 0) 0;
      timer = cond (is_set 3 c) (of_le (read_at 3 (1 + 4 * bit 0 c + bit 1 c + bit 2 c) ds)) 0;
    }

-- the greatest speed
abbrev pub fastest : ℕ
fastest = 250

-- a speed that can be asked for: 1 to 250
abbrev pub is_speed : ℕ → Bool
is_speed v = leb 1 v && leb v fastest

-- a carried speed is 1 to 250, a carried acceleration time 1 to 255; bits 5 and 6 are zero
unfoldable pub in_range : Carried → Bool
in_range c =
    not (is_set 5 c.control)
    && not (is_set 6 c.control)
    && (not (is_set 1 c.control) || is_speed c.speed)
    && (not (is_set 2 c.control) || leb 1 c.time)
