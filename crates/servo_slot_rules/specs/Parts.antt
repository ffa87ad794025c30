-- A reader of the meaning may skip this file: in which parts the code writes and tests a slot, one after another. What a slot is stands in Slot.
use Rattle.std.specs.Prelude.{ℕ, List, [], ◌∷◌, ◌++◌, Bool, get_or, eqb, leb}
use Rattle.base_integers.specs.Whole.{word}
use Rattle.base_layout.specs.Bytes.{le, pasted}
use Rattle.module_rules.specs.Slot.{cause_most, station}
use Rattle.module_rules.specs.Slots.{leader_at, low_at, cause_at}
use Rattle.servo_motion.specs.Profile.{in_range}
use Rattle.servo_rules.specs.declared.Sample.{Sample}
use Rattle.servo_rules.specs.declared.Rates.{Rates}
use Rattle.servo_rules.specs.declared.Run.{Run}
use Rattle.servo_rules.specs.declared.Servo.{Servo}
use Rattle.servo_rules.specs.Answers.{type_number}
use Rattle.servo_slot_rules.specs.List.{rates_fit, memory_fits, drive_fits}
use Rattle.servo_slot_rules.specs.Slot.{sample, counts, tuning, rates, load, profile, memory, drive, homing, latched_at, profile_at, memory_at, drive_at, power_at, inputs_at, kp_top_at, kd_top_at, ki_top_at, il_top_at, el_top_at, paced_at, ramped_at, waits_at, way_at, placed_at, pulsed_at, reverse_at, mode_at, error_at, amplifier_at, cut_at, last_at, speed_at}

-- the bytes before and after the place of the rates, one part after another
unfoldable pub front_of : Servo → List ℕ
front_of m =
    type_number
    ∷ station.codec.enc m.station
    ++ sample.codec.enc m.latched
    ++ counts.codec.enc m.counts
    ++ tuning.codec.enc m.settings.tuning

unfoldable pub back_of : Servo → List ℕ
back_of m =
    rates.codec.enc m.settings.rates
    ++ load.codec.enc m.settings.load
    ++ profile.codec.enc m.run.profile
    ++ memory.codec.enc m.run.memory
    ++ drive.codec.enc m.run.drive
    ++ homing.codec.enc m.homing

-- a slot over which only what a tick changes where homing finds nothing is put: the latched sample, the last position, setpoint and speed, memory and drive
unfoldable pub ticked_over : Sample → ℕ → Run → List ℕ → List ℕ
ticked_over x last r s =
    pasted drive_at (drive.codec.enc r.drive)
    (pasted memory_at (memory.codec.enc r.memory)
    (pasted speed_at (le 4 (word r.profile.speed))
    (pasted profile_at (le 6 r.profile.setpoint)
    (pasted last_at (le 4 last)
    (pasted latched_at (sample.codec.enc x) s)))))

-- the tests of a slot in its order, but for the last two, which are `homing_fits` and `sound`
abbrev pub front_tests : List ℕ → List Bool
front_tests s =
    eqb (get_or s 0 0) type_number
    ∷ leb (get_or s leader_at 0) 1
    ∷ leb (get_or s low_at 0) 1
    ∷ leb (get_or s cause_at 0) cause_most
    ∷ leb (get_or s power_at 0) 2
    ∷ leb (get_or s inputs_at 0) 3
    ∷ leb (get_or s kp_top_at 0) 127
    ∷ leb (get_or s kd_top_at 0) 127
    ∷ leb (get_or s ki_top_at 0) 127
    ∷ leb (get_or s il_top_at 0) 127
    ∷ leb (get_or s el_top_at 0) 63
    ∷ []

abbrev pub load_tests : Rates → List ℕ → List Bool
load_tests r s =
    leb (get_or s paced_at 0) 1
    ∷ leb (get_or s ramped_at 0) 1
    ∷ rates_fit r
    ∷ leb (get_or s waits_at 0) 1
    ∷ leb (get_or s way_at 0) 2
    ∷ leb (get_or s placed_at 0) 1
    ∷ leb (get_or s pulsed_at 0) 1
    ∷ leb (get_or s reverse_at 0) 1
    ∷ []

-- both as the code makes them: their flags in a row, so that the compiled code tests eight as one
abbrev pub front_grouped : List ℕ → List Bool
front_grouped s =
    eqb (get_or s 0 0) type_number
    ∷ leb (get_or s cause_at 0) cause_most
    ∷ leb (get_or s power_at 0) 2
    ∷ leb (get_or s inputs_at 0) 3
    ∷ leb (get_or s kp_top_at 0) 127
    ∷ leb (get_or s kd_top_at 0) 127
    ∷ leb (get_or s ki_top_at 0) 127
    ∷ leb (get_or s il_top_at 0) 127
    ∷ leb (get_or s el_top_at 0) 63
    ∷ leb (get_or s low_at 0) 1
    ∷ leb (get_or s leader_at 0) 1
    ∷ []

abbrev pub load_grouped : Rates → List ℕ → List Bool
load_grouped r s =
    leb (get_or s paced_at 0) 1
    ∷ leb (get_or s ramped_at 0) 1
    ∷ leb (get_or s waits_at 0) 1
    ∷ leb (get_or s placed_at 0) 1
    ∷ leb (get_or s pulsed_at 0) 1
    ∷ leb (get_or s reverse_at 0) 1
    ∷ leb (get_or s way_at 0) 2
    ∷ rates_fit r
    ∷ []

abbrev pub run_tests : Run → List ℕ → List Bool
run_tests r s =
    in_range r.profile
    ∷ memory_fits r.memory
    ∷ leb (get_or s mode_at 0) 4
    ∷ leb (get_or s error_at 0) 1
    ∷ leb (get_or s amplifier_at 0) 1
    ∷ leb (get_or s cut_at 0) 1
    ∷ drive_fits r.drive
    ∷ []
