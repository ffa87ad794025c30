-- What the step-motor module's own commands do (document 02, P3), and which of them cannot be carried out now.
use Rattle.std.specs.Prelude.{ℕ, Bool, true, false, cond, not, ◌&&◌, ◌||◌, ltb, leb}
use Rattle.base_integers.specs.Bits.{is_set}
use Rattle.stepper_rules.specs.declared.Carried.{Carried}
use Rattle.stepper_rules.specs.declared.Halt.{Halt}
use Rattle.stepper_rules.specs.declared.Halt.TheVariants.{Keep, Abrupt, Smooth}
use Rattle.stepper_rules.specs.declared.Order.{Order}
use Rattle.stepper_rules.specs.declared.Order.TheVariants.{LoadTrajectory, Start, SetParameters, Stop}
use Rattle.stepper_rules.specs.declared.Settings.{Settings}
use Rattle.stepper_rules.specs.declared.Load.{Load}
use Rattle.stepper_rules.specs.declared.Motion.{Motion}
use Rattle.stepper_rules.specs.declared.Stepper.{Stepper}
use Rattle.stepper_rules.specs.State.{no_load, rest, is_moving, with_settings, with_load, with_motion}

-- the load that waits after an executed one, which replaces an older one whole; bit 4 reverses
unfoldable pub load_of : Carried → Load
load_of c = record { waits = true; backward = is_set 4 c.control; speed = c.speed; time = c.time }

-- a carried position or timer count is stored
unfoldable pub storing : Carried → Settings → Settings
storing c s = record {
  amplifier = s.amplifier;
  minimum = s.minimum;
  place = cond (is_set 0 c.control) c.place s.place;
  timer = cond (is_set 3 c.control) c.timer s.timer;
}

unfoldable pub loaded : Carried → Stepper → Stepper
loaded c m = with_settings (storing c m.settings) (with_load (load_of c) m)

-- bit 7 starts now
abbrev pub starts_now : Carried → Bool
starts_now c = is_set 7 c.control

-- a load is complete if it carries a speed and an acceleration time itself
abbrev pub complete : Load → Bool
complete l = ltb 0 l.speed && ltb 0 l.time

-- the directions are the same
abbrev pub agree : Bool → Bool → Bool
agree a b = cond a b (not b)

-- a start: Set Parameters is done, a complete load waits, and it goes on in the direction of what moves
unfoldable pub startable : Stepper → Bool
startable m =
    ltb 0 m.settings.minimum
    && m.load.waits
    && complete m.load
    && (not (is_moving m.motion) || agree m.load.backward m.motion.backward)

-- a goal below the minimum means the minimum
abbrev pub goal_of : ℕ → ℕ → ℕ
goal_of speed minimum = cond (leb speed minimum) minimum speed

-- from rest a start gives the minimum speed at once, else the speed stays; ticks count from here
unfoldable pub begun : ℕ → Load → Motion → Motion
begun minimum l p = record {
  speed = cond (is_moving p) p.speed minimum;
  backward = l.backward;
  goal = goal_of l.speed minimum;
  time = l.time;
  ticks = 0;
  stopping = false;
}

-- starting uses the load up
unfoldable pub start : Stepper → Stepper
start m = with_load no_load (with_motion (begun m.settings.minimum m.load m.motion) m)

-- Set Parameters: the minimum stays while moving
unfoldable pub parameters_set : ℕ → Stepper → Stepper
parameters_set minimum m =
    with_settings
    (record {
      amplifier = m.settings.amplifier;
      minimum = cond (is_moving m.motion) m.settings.minimum minimum;
      place = m.settings.place;
      timer = m.settings.timer;
    })
    m

-- smooth: moving, to the minimum and then to 0, with the running acceleration time and ticks counted from here
unfoldable pub smooth : ℕ → Motion → Motion
smooth minimum p =
    cond (is_moving p) (record { speed = p.speed; backward = p.backward; goal = minimum; time = p.time; ticks = 0; stopping = true }) p

-- what the kinds of Stop make of what runs; bits 2 and 3 drop a waiting load
abbrev pub halted_by : Halt → ℕ → Motion → Motion
halted_by Keep minimum p = p
halted_by Abrupt minimum p = rest
halted_by Smooth minimum p = smooth minimum p

abbrev pub left_by : Halt → Load → Load
left_by Keep l = l
left_by Abrupt l = no_load
left_by Smooth l = no_load

abbrev pub amplified : Bool → Settings → Settings
amplified a s = record { amplifier = a; minimum = s.minimum; place = s.place; timer = s.timer }

unfoldable pub stopped : Bool → Halt → Stepper → Stepper
stopped a h m =
    with_settings (amplified a m.settings) (with_load (left_by h m.load) (with_motion (halted_by h m.settings.minimum m.motion) m))

-- whether a command can be carried out now; if not, the cause is 3
abbrev pub can : Order → Stepper → Bool
can (LoadTrajectory c) m = not (starts_now c) || startable (loaded c m)
can Start m = startable m
can (SetParameters minimum) m = true
can (Stop a h) m = true

abbrev pub perform : Order → Stepper → Stepper
perform (LoadTrajectory c) m = cond (starts_now c) (start (loaded c m)) (loaded c m)
perform Start m = start m
perform (SetParameters minimum) m = parameters_set minimum m
perform (Stop a h) m = stopped a h m
