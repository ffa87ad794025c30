-- Why moves aren't faster: no quicker move exists (document 02, P14). Of all moves over one distance, with one acceleration and one greatest speed,
-- the trapezoid has covered the most after every tick. A speed is what one tick covers. Each promise is proved under its name, with small letters,
-- in proofs/.
use Rattle.std.specs.Prelude.{◌≡◌, ◌⊎◌, ◌↔◌, ℕ, zero, suc, ◌+◌, ◌-◌, ◌*◌, ◌/◌, ◌^◌, ◌<◌, ◌≤◌, min, List, [], ◌∷◌, ◌++◌, map, ℤ, pos, nat_abs, length, take}
use Rattle.std.specs.Int.Signed.{lt_z}
use Rattle.base_integers.specs.Bits.{bit}
use Rattle.line_receiver.specs.Frames.{Frame}
use Rattle.servo_motion.specs.declared.Profile.{Profile}
use Rattle.servo_motion.specs.Trapezoid.{next_speed}
use Rattle.servo_motion.specs.Setpoint.{moved}
use Rattle.servo_motion.specs.Profile.{Ranged, left, by_trapezoid, speeds}
use Rattle.servo_motion.specs.Promises.{Running}
use Rattle.servo_rules.specs.declared.Mode.TheVariants.{Trapezoid}
use Rattle.servo_rules.specs.declared.Sample.{Sample}
use Rattle.servo_rules.specs.declared.Servo.{Servo}
use Rattle.servo_rules.specs.State.{setpoint_at}
use Rattle.servo_rules.specs.Loads.{signed_by}
use Rattle.servo_rules.specs.Answers.{status}
use Rattle.servo_rules.specs.TickPromises.{followed}
use Rattle.servo_rules.specs.HomingPromises.{Unstopped}
use Rattle.types_rules.specs.Table.{servo}
use Rattle.api_rules.specs.Promises.{ValidRecord}
use Rattle.demands_history_rules.specs.Calls.{Call, Handed, AllHanded, leaves, left_by}
use Rattle.demands_rules.specs.Motion.{LoadStarts, CallStarts}
use Rattle.demands_rules.specs.Place.{ticks_in, UndisturbedBy}
use Rattle.demands_rules.specs.ServoPlace.{At}
use Rattle.demands_rules.specs.Loaded.{Has}
use Rattle.demands_rules.specs.Sent.{Halts}

-- what speeds cover together, and the last of them, or v if there is none
unfoldable pub total : List ℕ → ℕ
total [] = 0
total (x ∷ xs) = x + total xs

unfoldable pub final : ℕ → List ℕ → ℕ
final v [] = v
final v (x ∷ xs) = final x xs

-- none is above top
abbrev pub Slow : ℕ → List ℕ → Type 0
Slow top [] = Unit {0}
Slow top (x ∷ xs) = (x ≤ top) × Slow top xs

-- from the speed v on, each differs from the one before it by at most a
abbrev pub Gentle : ℕ → ℕ → List ℕ → Type 0
Gentle a v [] = Unit {0}
Gentle a v (x ∷ xs) = (x ≤ v + a) × (v ≤ x + a) × Gentle a x xs

-- 02 P14: a move over d: speeds from 0 to top that change by at most a, from rest before the first tick to rest after the last, and cover d together.
pub record Move (a top d : ℕ) (xs : List ℕ) : Type 0 where
  pub slow : Slow top xs
  pub gentle : Gentle a 0 (xs ++ 0 ∷ [])
  pub whole : total xs ≡ d

-- 01 Tick: the trapezoid's own speeds in n ticks, undisturbed, at the speed v with the distance d left.
unfoldable pub speeds_in : ℕ → ℕ → ℕ → ℕ → ℕ → List ℕ
speeds_in zero a top d v = []
speeds_in (suc n) a top d v = next_speed a top d v ∷ speeds_in n a top (d - next_speed a top d v) (next_speed a top d v)

-- 02 P14: no quicker move exists: after any number of ticks, no move over d from rest has covered more than the trapezoid. (Past its end it has covered d.)
abbrev pub NoQuicker : Type 0
NoQuicker = (a top d : ℕ) (xs : List ℕ) → 0 < a → Move a top d xs → (n : ℕ) → total (take n xs) ≤ total (speeds_in n a top d 0)

-- So when any of them has covered d, the trapezoid has; and when any of them is at rest there, the trapezoid is.
abbrev pub NoSooner : Type 0
NoSooner =
    (a top d : ℕ) (xs : List ℕ) → 0 < a → 0 < d → Move a top d xs → (n : ℕ) → total (take n xs) ≡ d
    → (total (speeds_in n a top d 0) ≡ d) × (final 0 (take n xs) ≡ 0 → final 0 (speeds_in n a top d 0) ≡ 0)

-- The most that n ticks cover from rest to rest, where v is 0: the next tick goes as fast as the ramp has come to, v + a, as n ticks can brake from,
-- n a, or as top, whichever is the least; then n - 1 ticks go on with the ramp at v + a.
unfoldable pub reach : ℕ → ℕ → ℕ → ℕ → ℕ
reach zero a top v = 0
reach (suc n) a top v = min (min (v + a) (suc n * a)) top + reach n a top (v + a)

-- Worked out, from rest: an even and an odd number of ticks, up and down by steps of a and never above top; and with j ticks at top in between.
pub record Reach (a top : ℕ) : Type 0 where
  pub even : (h : ℕ) → h * a ≤ top → reach (2 * h) a top 0 ≡ a * (h * (h + 1))
  pub odd : (h : ℕ) → (h + 1) * a ≤ top → reach (2 * h + 1) a top 0 ≡ a * ((h + 1) * (h + 1))
  pub long : (j : ℕ) → reach (2 * (top / a) + j) a top 0 ≡ a * (top / a * (top / a + 1)) + j * top

abbrev pub Reaching : Type 0
Reaching = (a top : ℕ) → 0 < a → Reach a top

-- 02 P14: the trapezoid from rest, undisturbed.
pub record Arrives (a top d : ℕ) : Type 0 where
  -- at no time is a speed above top, a change above a, or more covered than d
  pub slow : (n : ℕ) → Slow top (speeds_in n a top d 0)
  pub gentle : (n : ℕ) → Gentle a 0 (speeds_in n a top d 0)
  pub within : (n : ℕ) → total (speeds_in n a top d 0) ≤ d
  -- n ticks bring it to d exactly if so many can cover d at all; d of them always do, more never cover less, and one tick later it is at rest
  pub exactly : (n : ℕ) → (total (speeds_in n a top d 0) ≡ d) ↔ (d ≤ reach n a top 0)
  pub ends : d ≤ reach d a top 0
  pub stays : (n : ℕ) → reach n a top 0 ≤ reach (suc n) a top 0
  pub rests : (n : ℕ) → d ≤ reach n a top 0 → final 0 (speeds_in (suc n) a top d 0) ≡ 0
  -- it is itself a move over d, and no move of n ticks covers more than n ticks can
  pub move : (n : ℕ) → d ≤ reach n a top 0 → Move a top d (speeds_in n a top d 0)
  pub most : (xs : List ℕ) → Move a top d xs → d ≤ reach (length xs) a top 0

-- It ends at d exactly, at rest, and the number of ticks is known from a, top and d.
abbrev pub Arriving : Type 0
Arriving = (a top d : ℕ) → 0 < a → 0 < top → Arrives a top d

-- ---- the servo's own setpoint, forth and back

-- a size in the direction of a distance: below 0 it is mirrored
abbrev pub along : ℤ → ℕ → ℤ
along z x = signed_by (lt_z z (pos 0)) x

-- the speeds of n ticks from a profile's numbers at rest
abbrev pub speeds_from : Profile → ℕ → List ℕ
speeds_from p n = speeds_in n p.acceleration p.top (nat_abs (left p)) 0

-- A servo's profile at rest goes by just these speeds: by the definition that its tick is proved against.
abbrev pub Mirrored : Type 0
Mirrored =
    (p : Profile) (n : ℕ) → Ranged p → Running p → p.speed ≡ pos 0
    → speeds n by_trapezoid p ≡ map (along (left p)) (speeds_from p n)

-- ---- a servo on the line

-- what disturbs a move where it is executed: Reset Position, a Load that starts now, Start, Hard Reset, a Stop with one of bits 1 to 4
abbrev pub Disturbs : Frame → Type 0
Disturbs f = (f.code ≡ 0) ⊎ (((f.code ≡ 4) × Has 7 f) ⊎ ((f.code ≡ 5) ⊎ ((f.code ≡ 15) ⊎ Halts f)))

-- a tick that a move goes on with: it hands the servo power 1 or 2, finds a following error within EL, and no stop of homing's acts in it (02 P8)
abbrev pub Follows : Sample → Servo → Type 0
Follows x m = (x.power ≡ 0 → ⊥) × (nat_abs (followed x m) ≤ m.settings.tuning.gains.el) × Unstopped x m

-- Undisturbed: through these calls no such frame is executed at place i, and each tick there is such a one. Polls, loads that wait, frames that are
-- refused or for others, ticks that are refused and everything else may come.
abbrev pub Undisturbed : List ℕ → List Call → ℕ → Type 0
Undisturbed = UndisturbedBy servo Disturbs Follows

-- what a started trapezoid begins with: at rest, with some acceleration and velocity, and a goal less than half the range away
pub record SetsOff (p : Profile) : Type 0 where
  pub still : p.speed ≡ pos 0
  pub force : 0 < p.acceleration
  pub fast : 0 < p.top
  pub near : nat_abs (left p) < 2 ^ 47

-- k is n ticks on its way from the profile p: its setpoint has moved by what the trapezoid's speeds cover, through all wraps, and its speed is the
-- last of them; it tells move done exactly if all is covered and that speed is 0, and with all covered it stands at the goal, without a fraction; and
-- no other move has covered more by then
pub record OnItsWay (p : Profile) (n : ℕ) (k : Servo) : Type 0 where
  pub setpoint : k.run.profile.setpoint ≡ moved p.setpoint (along (left p) (total (speeds_from p n)))
  pub speed : k.run.profile.speed ≡ along (left p) (final 0 (speeds_from p n))
  pub done : (bit 0 (status k) ≡ 1) ↔ ((total (speeds_from p n) ≡ nat_abs (left p)) × (final 0 (speeds_from p n) ≡ 0))
  pub arrived : total (speeds_from p n) ≡ nat_abs (left p) → k.run.profile.setpoint ≡ setpoint_at p.goal
  pub quickest : (xs : List ℕ) → Move p.acceleration p.top (nat_abs (left p)) xs → total (take n xs) ≤ total (speeds_from p n)

-- On the line: a call c ends a Start, or a Load that starts now, that is executed at place i and leaves its servo s in a trapezoid. Undisturbed,
-- the servo there goes by the trapezoid's speeds, one a tick.
abbrev pub QuickestOnTheLine : Type 0
QuickestOnTheLine =
    (net : List ℕ) (c : Call) (cs : List Call) (i : ℕ) (m s k : Servo)
    → ValidRecord net → Handed c → AllHanded cs
    → At net i m → CallStarts LoadStarts net i m c → At (leaves net c) i s → s.run.drive.mode ≡ Trapezoid
    → Undisturbed (leaves net c) cs i → At (left_by cs (leaves net c)) i k
    → SetsOff s.run.profile × OnItsWay s.run.profile (ticks_in (leaves net c) cs) k
