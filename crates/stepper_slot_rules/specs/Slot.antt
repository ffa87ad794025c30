-- How a step-motor module stands in a slot: its parts one after another, of which the first is its type.
use Rattle.std.specs.Prelude.{refl, ℕ, ◌+◌, List, Bool, cond, not, ◌&&◌, ◌||◌, eqb, leb, ltb}
use Rattle.std.proofs.Common.{arith}
use Rattle.base_layout.specs.Codec.{ok_in}
use Rattle.base_layout.proofs.Shape.{Shape, byte, number, capped, flag, stamp, such, ◌then◌, shaped}
use Rattle.module_rules.specs.declared.Station.{Station}
use Rattle.module_rules.specs.Slot.{station}
use Rattle.module_rules.specs.Slots.{Slots, own_at}
use Rattle.stepper_rules.specs.declared.Sample.{Sample}
use Rattle.stepper_rules.specs.declared.Settings.{Settings}
use Rattle.stepper_rules.specs.declared.Load.{Load}
use Rattle.stepper_rules.specs.declared.Motion.{Motion}
use Rattle.stepper_rules.specs.declared.Stepper.{Stepper}
use Rattle.stepper_rules.specs.Carried.{fastest}
use Rattle.stepper_rules.specs.State.{is_moving}
use Rattle.stepper_rules.specs.Answers.{type_number, shows}

-- the parts of each struct in the order of the slot, and the struct of its parts; a sample stands so in a tick's list
abbrev pub sample_parts : Sample → Bool
sample_parts x = x.stop

abbrev pub sample_of : Bool → Sample
sample_of t = record { stop = t }

abbrev pub settings_parts : Settings → Bool × (ℕ × (ℕ × ℕ))
settings_parts x = (x.amplifier, (x.minimum, (x.place, x.timer)))

abbrev pub settings_of : Bool × (ℕ × (ℕ × ℕ)) → Settings
settings_of t = record { amplifier = t.0; minimum = t.1.0; place = t.1.1.0; timer = t.1.1.1 }

abbrev pub load_parts : Load → Bool × (Bool × (ℕ × ℕ))
load_parts l = (l.waits, (l.backward, (l.speed, l.time)))

abbrev pub load_of : Bool × (Bool × (ℕ × ℕ)) → Load
load_of t = record { waits = t.0; backward = t.1.0; speed = t.1.1.0; time = t.1.1.1 }

abbrev pub MotionParts : Type 0
MotionParts = ℕ × (Bool × (ℕ × (ℕ × (ℕ × Bool))))

abbrev pub motion_parts : Motion → MotionParts
motion_parts p = (p.speed, (p.backward, (p.goal, (p.time, (p.ticks, p.stopping)))))

abbrev pub motion_of : MotionParts → Motion
motion_of t = record {
  speed = t.0;
  backward = t.1.0;
  goal = t.1.1.0;
  time = t.1.1.1.0;
  ticks = t.1.1.1.1.0;
  stopping = t.1.1.1.1.1;
}

abbrev pub Parts : Type 0
Parts = Unit {0} × (Station × (Settings × (Load × (Motion × ℕ))))

abbrev pub stepper_parts : Stepper → Parts
stepper_parts m = (tt, (m.station, (m.settings, (m.load, (m.motion, m.position)))))

abbrev pub stepper_of : Parts → Stepper
stepper_of t = record {
  station = t.1.0;
  settings = t.1.1.0;
  load = t.1.1.1.0;
  motion = t.1.1.1.1.0;
  position = t.1.1.1.1.1;
}

-- at rest all else of what runs is 0, too
abbrev pub resting : Motion → Bool
resting p = not p.backward && eqb p.goal 0 && eqb p.time 0 && eqb p.ticks 0 && not p.stopping

-- moving: the minimum is known, speed and goal are not below it, fewer ticks were counted than the acceleration time, and a smooth stop goes
-- to the minimum
abbrev pub running : ℕ → Motion → Bool
running minimum p =
    leb 1 minimum && leb minimum p.speed && leb minimum p.goal && ltb p.ticks p.time && (not p.stopping || eqb p.goal minimum)

-- one of both; and the items that are asked for are such as there are
unfoldable pub steady : ℕ → Motion → Bool
steady minimum p = cond (is_moving p) (running minimum p) (resting p)

abbrev pub sound : Stepper → Bool
sound m = shows m.station.items && steady m.settings.minimum m.motion

abbrev pub sample : Shape Sample
sample = shaped sample_of sample_parts (λ t. refl) (λ x. refl) flag

abbrev pub settings : Shape Settings
settings = shaped settings_of settings_parts (λ t. refl) (λ x. refl) (flag then capped fastest then number 4 then number 4)

abbrev pub load : Shape Load
load = shaped load_of load_parts (λ t. refl) (λ l. refl) (flag then flag then capped fastest then byte)

abbrev pub motion : Shape Motion
motion = shaped motion_of motion_parts (λ t. refl) (λ p. refl) (capped fastest then flag then capped fastest then byte then byte then flag)

abbrev pub slot : Shape Stepper
slot =
    such sound
    (shaped stepper_of stepper_parts (λ t. refl) (λ m. refl)
    (stamp type_number (omega arith) then station then settings then load then motion then number 4))

-- where each part begins: after the parts before it
abbrev pub settings_at : ℕ
settings_at = own_at

abbrev pub load_at : ℕ
load_at = settings_at + settings.codec.size

abbrev pub motion_at : ℕ
motion_at = load_at + load.codec.size

abbrev pub position_at : ℕ
position_at = motion_at + motion.codec.size

-- how many bytes of a slot a step-motor module has
abbrev pub stepper_size : ℕ
stepper_size = position_at + (number 4).codec.size

-- a module's bytes, the module in a slot, and whether a slot is valid
unfoldable pub encode_of : Stepper → List ℕ
encode_of m = slot.codec.enc m

unfoldable pub decode_of : List ℕ → Stepper
decode_of s = slot.codec.dec 0 s

unfoldable pub ok_of : List ℕ → Bool
ok_of s = ok_in slot.codec s

abbrev pub slots : Slots Stepper
slots = record { enc = encode_of; dec = decode_of; ok = ok_of; fits = slot.codec.fits }
