-- How long a step-motor module's ramps take on the line (document 02, P3): through any calls that do not disturb them, the host's polls among them.
-- Each promise is proved under its name, with small letters, in proofs/.
use Rattle.std.specs.Prelude.{◌≡◌, ◌⊎◌, ℕ, ◌≤◌, List, true, false}
use Rattle.line_receiver.specs.Frames.{Frame}
use Rattle.stepper_rules.specs.declared.Stepper.{Stepper}
use Rattle.stepper_rules.specs.Ramp.{after}
use Rattle.stepper_rules.specs.RampPromises.{Climbs, Falls, Slows}
use Rattle.stepper_slot_rules.specs.Promises.{Moving}
use Rattle.types_rules.specs.Table.{stepper}
use Rattle.api_rules.specs.Promises.{ValidRecord}
use Rattle.demands_history_rules.specs.Calls.{Call, AllHanded, left_by}
use Rattle.demands_rules.specs.Place.{AtOf, ticks_in, UndisturbedBy}
use Rattle.demands_rules.specs.Loaded.{Has}
use Rattle.demands_stepper_rules.specs.Motion.{Moves}
use Rattle.demands_stepper_rules.specs.Sent.{Halts}

-- Demand 2: in every valid record, and so through any calls, what moves goes at the minimum at least and at 250 at most, and so does its goal.
abbrev pub NeverBelow : Type 0
NeverBelow = (net : List ℕ) (i : ℕ) (m : Stepper) → ValidRecord net → AtOf stepper net i m → Moves m → Moving m.settings.minimum m.motion

-- what disturbs a ramp where it is executed: a Load that starts now, Start, Hard Reset, a Stop with bit 2, abrupt, or bit 3, smooth
abbrev pub Disturbs : Frame → Type 0
Disturbs f = ((f.code ≡ 4) × Has 7 f) ⊎ ((f.code ≡ 5) ⊎ ((f.code ≡ 15) ⊎ Halts f))

-- Undisturbed: no such frame is executed at place i, and each tick hands it input 0. Polls, loads that wait, Set Parameters, Stops with neither bit,
-- frames that are refused or for others, ticks that are refused and everything else may come.
abbrev pub Undisturbed : List ℕ → List Call → ℕ → Type 0
Undisturbed = UndisturbedBy stepper Disturbs (λ x m. x.stop ≡ false)

-- The module k was m, n ticks ago: what runs is what n ticks make of it, so that a climb, a fall to a lower goal and a smooth stop go by their closed
-- forms. (Right after a start from rest m has the minimum speed and has counted no tick, and so it is right after a smooth Stop but for the speed:
-- `Obeys` and `Loading` of stepper_rules.)
pub record Ramps (m : Stepper) (n : ℕ) (k : Stepper) : Type 0 where
  pub motion : k.motion ≡ after n m.motion
  pub climbs : Moves m → m.motion.stopping ≡ false → m.motion.speed ≤ m.motion.goal → Climbs m.motion n k.motion
  pub falls : Moves m → m.motion.stopping ≡ false → m.motion.goal ≤ m.motion.speed → Falls m.motion n k.motion
  pub slows : Moves m → m.motion.stopping ≡ true → Slows m.motion n k.motion

-- On the line: undisturbed, a ramp goes on by the ticks that are done, and by nothing else.
abbrev pub RampOnTheLine : Type 0
RampOnTheLine =
    (net : List ℕ) (cs : List Call) (i : ℕ) (m k : Stepper)
    → ValidRecord net → AllHanded cs → AtOf stepper net i m → Undisturbed net cs i → AtOf stepper (left_by cs net) i k
    → Ramps m (ticks_in net cs) k
