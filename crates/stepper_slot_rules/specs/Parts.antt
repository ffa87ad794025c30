-- A reader of the meaning may skip this file: in which parts and in which order the code tests a slot. What a slot is stands in Slot, what is asked
-- of it in Promises.
use Rattle.std.specs.Prelude.{ℕ, ◌+◌, List, [], ◌∷◌, Bool, cond, ◌&&◌, ◌||◌, get_or, eqb, leb, ltb}
use Rattle.base_layout.specs.Every.{every}
use Rattle.module_rules.specs.Slot.{cause_most}
use Rattle.module_rules.specs.Slots.{leader_at, low_at, cause_at}
use Rattle.stepper_rules.specs.Carried.{fastest}
use Rattle.stepper_rules.specs.Answers.{type_number, shows}
use Rattle.stepper_slot_rules.specs.Slot.{settings_at, load_at, motion_at}

-- what is asked at rest and moving; flags stand together, so that they are tested as one
abbrev pub front_tests : List ℕ → List Bool
front_tests s =
    eqb (get_or s 0 0) type_number
    ∷ leb (get_or s leader_at 0) 1
    ∷ leb (get_or s low_at 0) 1
    ∷ leb (get_or s settings_at 0) 1
    ∷ leb (get_or s load_at 0) 1
    ∷ leb (get_or s (load_at + 1) 0) 1
    ∷ leb (get_or s (motion_at + 1) 0) 1
    ∷ leb (get_or s cause_at 0) cause_most
    ∷ leb (get_or s (load_at + 2) 0) fastest
    ∷ shows (get_or s (cause_at + 1) 0)
    ∷ []

-- at rest: the minimum, and nothing runs
abbrev pub rest_tests : List ℕ → List Bool
rest_tests s =
    leb (get_or s (settings_at + 1) 0) fastest
    ∷ eqb (get_or s (motion_at + 1) 0) 0
    ∷ eqb (get_or s (motion_at + 2) 0) 0
    ∷ eqb (get_or s (motion_at + 3) 0) 0
    ∷ eqb (get_or s (motion_at + 4) 0) 0
    ∷ eqb (get_or s (motion_at + 5) 0) 0
    ∷ []

-- moving: what is between what
abbrev pub move_tests : List ℕ → List Bool
move_tests s =
    leb 1 (get_or s (settings_at + 1) 0)
    ∷ leb (get_or s (settings_at + 1) 0) (get_or s motion_at 0)
    ∷ leb (get_or s motion_at 0) fastest
    ∷ leb (get_or s (settings_at + 1) 0) (get_or s (motion_at + 2) 0)
    ∷ leb (get_or s (motion_at + 2) 0) fastest
    ∷ ltb (get_or s (motion_at + 4) 0) (get_or s (motion_at + 3) 0)
    ∷ []

-- moving: a flag that is 0, or is 1 with the goal at the minimum; and so by the slot's bytes
abbrev pub stop_test : ℕ → ℕ → ℕ → Bool
stop_test stopping goal minimum = eqb stopping 0 || (eqb stopping 1 && eqb goal minimum)

abbrev pub stop_in : List ℕ → Bool
stop_in s = stop_test (get_or s (motion_at + 5) 0) (get_or s (motion_at + 2) 0) (get_or s (settings_at + 1) 0)

abbrev pub run_test : List ℕ → Bool
run_test s = cond (eqb (get_or s motion_at 0) 0) (every (rest_tests s)) (every (move_tests s) && stop_in s)
