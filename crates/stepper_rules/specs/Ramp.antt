-- How a step-motor module's speed goes with the ticks (document 02, P3).
use Rattle.std.specs.Prelude.{ℕ, zero, suc, ◌+◌, ◌-◌, ◌%◌, ◌^◌, cond, ◌&&◌, eqb, ltb}
use Rattle.base_integers.specs.Whole.{less}
use Rattle.stepper_rules.specs.declared.Sample.{Sample}
use Rattle.stepper_rules.specs.declared.Motion.{Motion}
use Rattle.stepper_rules.specs.declared.Stepper.{Stepper}
use Rattle.stepper_rules.specs.State.{rest, is_moving, with_motion, with_position}

-- one unit nearer the goal, and never past it
abbrev pub nearer : ℕ → ℕ → ℕ
nearer speed goal = cond (ltb speed goal) (suc speed) (cond (ltb goal speed) (speed - 1) speed)

-- a motion with another speed and another count of ticks
abbrev pub paced : ℕ → ℕ → Motion → Motion
paced speed ticks p = record {
  speed = speed;
  backward = p.backward;
  goal = p.goal;
  time = p.time;
  ticks = ticks;
  stopping = p.stopping;
}

-- the T-th tick: a smooth stop that has come to its goal, the minimum, ends the motion; any other speed goes one unit nearer its goal
unfoldable pub changed : Motion → Motion
changed p = cond (p.stopping && eqb p.speed p.goal) rest (paced (nearer p.speed p.goal) 0 p)

-- a tick counts, and each T-th changes the speed; at rest nothing counts
unfoldable pub onward : Motion → Motion
onward p =
    cond (is_moving p) (cond (eqb (suc p.ticks) p.time) (changed p) (paced p.speed (suc p.ticks) p)) p

-- so many ticks
abbrev pub after : ℕ → Motion → Motion
after zero p = p
after (suc n) p = after n (onward p)

-- the position moves by the speed, modulo 2 ^ 32
unfoldable pub moved : Motion → ℕ → ℕ
moved p x = cond p.backward (less x p.speed) ((x + p.speed) % 2 ^ 32)

-- the stop input first ends the motion; then the position moves by the tick's new speed
unfoldable pub ticked : Sample → Stepper → Stepper
ticked x m =
    let p : Motion = cond x.stop rest (onward m.motion) in
    with_position (moved p m.position) (with_motion p m)
